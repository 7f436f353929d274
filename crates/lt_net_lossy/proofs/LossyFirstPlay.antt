-- A net over links that lose messages before the first event of a schedule.
use Rattle.std.proofs.Common.{◌≡◌, ◌<◌, ◌+◌, ◌*◌, ◌^◌, ℕ, List, [], length, Some, None, IsTrue, refl, sym, ap, ◌∙◌, subst, arith}
use Rattle.std.specs.List.{slice_get}
use Rattle.std.proofs.lemmas.Option.{slice_get_within}
use Rattle.lt_base.specs.declared.value.Value.{Value}
use Rattle.lt_base.specs.Behaviour.{RowsFit}
use Rattle.lt_arch.specs.declared.shape.Shape.{Shape}
use Rattle.lt_arch.specs.declared.timing.Timing.{Timing}
use Rattle.lt_arch.specs.declared.event.Event.TheVariants.{Act}
use Rattle.lt_arch.specs.Readers.{node_count, chan_count}
use Rattle.lt_io.specs.declared.message.Message.{Message}
use Rattle.lt_io.specs.FabricState.{FabricState, KeepsPromises, OpensFabric}
use Rattle.lt_norm.specs.Flat.{Originated}
use Rattle.lt_place.specs.declared.layout.Layout.{Layout}
use Rattle.lt_place.specs.Layout.{IsPlaced}
use Rattle.lt_net_bench.specs.Given.{FitsPart}
use Rattle.lt_net_node.specs.Payloads.{row_at}
use Rattle.lt_net_bench.specs.Starts.{kinds_for}
use Rattle.lt_net_bench.proofs.Fitting.{rows_fit_parts}
use Rattle.lt_lossy.specs.declared.event.LossyEvent.{LossyEvent}
use Rattle.lt_lossy.specs.declared.event.LossyEvent.TheVariants.{Plain}
use Rattle.lt_net_lossy.specs.NetModel.{LossyNetState}
use Rattle.lt_net_lossy.specs.Kept.{IsFixedLossy}
use Rattle.lt_net_lossy.specs.Laws.{StandsWith}
use Rattle.lt_net_lossy.specs.Starts.{no_lossy_lists, IsMadeOfLossy}
use Rattle.lt_net_lossy.specs.Taken.{HasLossyKinds}
use Rattle.lt_net_lossy.specs.Holds.{AreSent}
use Rattle.lt_net_lossy.specs.LossyPlays.{IsOwnSoFar, PlaysLossy, TellsAt}
use Rattle.lt_machine.specs.declared.machine.Machine.{Ghosts as Machines}
use Rattle.lt_arch.specs.declared.controller.Controller.{Ghosts as Controls}

fewer : (n c k : ℕ) → 2 * (n + c) < k → n < k
fewer n c k h = omega (arith, h)

fewer_too : (n c k : ℕ) → 2 * (n + c) < k → c < k
fewer_too n c k h = omega (arith, h)

-- of a channel with nothing in its lists nothing is told
nothing_told : (sent delivered transit : List Message) → sent ≡ [] → delivered ≡ [] → transit ≡ [] → TellsAt [] 0 sent delivered transit
nothing_told sent delivered transit a b c =
    subst (λ ms. TellsAt [] 0 ms delivered transit) (sym a) (subst (λ ms. TellsAt [] 0 [] ms transit) (sym b) (subst (λ ms. TellsAt [] 0 [] [] ms) (sym c)
    (record { taken = refl; counted = refl; total = refl; last = refl })))

-- and nothing was sent
nothing_sent : (own : ℕ → List Value → Type 0) (sent : List Message) → sent ≡ [] → AreSent own [] sent
nothing_sent own sent none = subst (AreSent own []) (sym none) tt

-- before the first event no instant was executed, and no message is unread
no_event : (i : ℕ) (e : LossyEvent) → slice_get {X = LossyEvent} [] i ≡ Some e → ⊥
no_event i e is = let w = slice_get_within {A = LossyEvent} [] i e is in omega (arith, w)

pub plays_first : {C M : Type 0} (ctl : Controls C) (mch : Machines M) (inputs : List (List Value)) (l : Layout) (s : Shape) (t : Timing) (losses count : ℕ) (ms : List M)
    (net : LossyNetState C M) (old new : FabricState) → net.stopped ≡ None → IsMadeOfLossy l s t losses count ms net.bench → count ≡ length inputs → 2 * (node_count s + chan_count s) < 2 ^ 32 → IsFixedLossy net.bench.layout net.bench.shape net.bench.timing →
    length net.bench.executed ≡ node_count net.bench.shape → (f : Originated) → IsPlaced f l → RowsFit f.func inputs → KeepsPromises old new → OpensFabric old new (kinds_for l s) →
    StandsWith ctl mch net.bench no_lossy_lists new → HasLossyKinds net.bench new → PlaysLossy ctl mch inputs [] net new
plays_first ctl mch inputs l s t losses count ms net old new running is counted numbered fixed counts f placed fit keeps opened stood kinds = record {
  running = running;
  fed = record {
    fixed = fixed;
    rows = is.rows ∙ counted;
    counts = counts;
    fit = λ n k nb kb.
        let there = fixed.channels.nodes in
        let same = ap (λ (z : Layout). length z.nodes) is.layout in
        subst (λ z. FitsPart z n (row_at inputs k)) (sym is.layout) (rows_fit_parts f l placed inputs fit n k (omega (arith, nb, there, same)) kb);
    few_nodes = subst (λ z. node_count z < 2 ^ 32) (sym is.shape) (fewer (node_count s) (chan_count s) (2 ^ 32) numbered);
    few_channels = subst (λ z. chan_count z < 2 ^ 32) (sym is.shape) (fewer_too (node_count s) (chan_count s) (2 ^ 32) numbered);
  };
  kept = (
    no_lossy_lists,
    record {
      stood = stood;
      events = refl;
      fronts = record { fronts = λ n b. refl; within = λ n b. omega arith };
      kinds = kinds;
      own = λ faithful. record { before = λ c k lt carries h. absurd (omega (arith, h)); own = λ c k lt carries h. absurd (omega (arith, h)) };
      tells = λ told.
          let before : IsTrue old.told = subst IsTrue keeps.told told in
          record {
            each = λ c lt. nothing_told (new.sent c) (new.delivered c) (new.transit c) (opened.sent before c) (opened.delivered before c) (opened.transit c);
            ran_on = λ i n k x. absurd (no_event i (Plain (Act n x.at)) x.is);
            unread = λ c k lt unread count. absurd (omega (arith, count));
          };
      sent = λ told. record { each = λ c lt. nothing_sent (IsOwnSoFar net.bench.layout net.bench.shape no_lossy_lists c) (new.sent c) (opened.sent (subst IsTrue keeps.told told) c) };
    },
  );
}
