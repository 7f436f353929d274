-- A net before its first event, over a fabric that was just opened.
use Rattle.std.proofs.Common.{◌≡◌, ℕ, ◌<◌, List, [], length, map, Option, Some, None, IsTrue, refl, sym, ap, ◌∙◌, subst, arith}
use Rattle.std.specs.Prelude.{slice_index_or}
use Rattle.std.proofs.lemmas.List.{length-map}
use Rattle.lt_base.specs.declared.value.Value.{Value}
use Rattle.lt_arch.specs.Times.{in_transit}
use Rattle.lt_io.specs.declared.message.Message.{Message}
use Rattle.lt_io.specs.FabricState.{FabricState, KeepsPromises, OpensFabric}
use Rattle.lt_link.specs.Inbox.{no_inbox}
use Rattle.lt_net.specs.Net.{TimedBenchState}
use Rattle.lt_net.specs.Event.{HeldBy, FabricHolds, HasKinds}
use Rattle.lt_net.specs.Stands.{NetStands}
use Rattle.lt_net.specs.Replay.{ReplayKeeps}
use Rattle.lt_arch.specs.declared.shape.Shape.{Shape}
use Rattle.lt_arch.specs.declared.timing.Timing.{Timing}
use Rattle.lt_place.specs.declared.layout.Layout.{Layout}
use Rattle.lt_net_bench.specs.Starts.{types_on, kinds_for}
use Rattle.lt_net.specs.Starts.{no_lists, IsMadeOf, IsFresh}
use Rattle.lt_net_bench.proofs.FirstTables.{types_are, on_channel}
use Rattle.lt_net_bench.proofs.Begun.{none_sent}
use Rattle.lt_machine.specs.declared.machine.Machine.{Ghosts as Machines}
use Rattle.lt_arch.specs.declared.controller.Controller.{Ghosts as Controls}

nothing_held : (v : Option ℕ) (last : Rattle.std.specs.Prelude.Bool) → [] ≡ in_transit v → HeldBy v last []
nothing_held None last h = refl
nothing_held (Some at) last h = absurd (cc)

no_entry : {A : Type 0} (xs : List A) (k : ℕ) → xs ≡ [] → k < length xs → ⊥
no_entry xs k is lt = absurd (let e = ap length is in omega (arith, e, lt))

module _ {C M : Type 0} (ctl : Controls C) (mch : Machines M) (net : TimedBenchState C M) (s : NetStands ctl mch net no_lists)
    (old new : FabricState) (keeps : KeepsPromises old new) (opens : OpensFabric old new (kinds_for net.layout net.shape)) where
  holds : FabricHolds net new
  holds = record {
    transit = λ c lt. subst (λ ms. HeldBy (slice_index_or net.watch.sends c None) (slice_index_or net.inboxes c no_inbox).bit ms) (sym (opens.transit c))
        (nothing_held (slice_index_or net.watch.sends c None) (slice_index_or net.inboxes c no_inbox).bit (s.times.transit c lt));
  }

  kinds : HasKinds net new
  kinds = record {
    count = ap length opens.channels ∙ length-map net.shape.channels (types_on net.layout.cross);
    each = λ c lt. on_channel (types_on net.layout.cross) net.shape new.kinds opens.channels c [] lt ∙ types_are net.layout net.shape c;
  }

  -- it keeps what a replay keeps, for the empty list of events
  pub opened : (inputs : List (List Value)) → ReplayKeeps ctl mch inputs [] net new no_lists
  opened inputs = record {
    stands_for = s;
    events = refl;
    same_inputs = record { fronts = λ n lt. refl; within = λ n lt. omega arith };
    holds = holds;
    kinds = kinds;
    owns = λ faithful. record { before = λ c k h d lt. absurd (omega (arith, lt)); own = λ c k h d lt. absurd (omega (arith, lt)) };
    owns_transit = λ faithful. record { before = λ c k h d lt. absurd (no_entry (new.transit c) k (opens.transit c) lt); own = λ c k h d lt. absurd (no_entry (new.transit c) k (opens.transit c) lt) };
    tells = λ told.
        let was : IsTrue old.told = subst IsTrue keeps.told told in
        record {
          delivered = λ c lt. ap (map (λ (m : Message). m.payload)) (opens.delivered was c);
          total = λ c lt. let a = ap length (opens.sent was c) in let b = ap length (opens.transit c) in omega (arith, a, b);
          sent_count = λ c lt data_too. ap length (opens.sent was c) ∙ sym (none_sent net.timing.protocol);
          sent_bits = λ c k lt kb. absurd (no_entry (new.sent c) k (opens.sent was c) kb);
          sent_own = λ c k lt d kb. absurd (no_entry (new.sent c) k (opens.sent was c) kb);
        };
  }

-- the same of a net that was started
pub opened_by : {C M : Type 0} (ctl : Controls C) (mch : Machines M) (l : Layout) (s : Shape) (t : Timing) (rows : ℕ) (ms : List M) (cs : List C) (net : TimedBenchState C M) →
    IsMadeOf l s t rows ms cs net → IsFresh ctl mch net → (inputs : List (List Value)) (old new : FabricState) → KeepsPromises old new → OpensFabric old new (kinds_for l s) → ReplayKeeps ctl mch inputs [] net new no_lists
opened_by ctl mch l s t rows ms cs net is fresh inputs old new keeps opens =
    opened ctl mch net fresh.stands_for old new keeps (subst (λ ks. OpensFabric old new ks) (λ i. kinds_for (sym is.layout i) (sym is.shape i)) opens) inputs
