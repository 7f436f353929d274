-- An activation, by what its deed and its messages leave.
use Rattle.std.proofs.Common.{◌≡◌, inl, inr, ℕ, ◌+◌, ◌<◌, ◌≤◌, Bool, true, false, List, [], length, set, Option, Some, None, refl, sym, ap, ◌∙◌, subst, arith, cond}
use Rattle.std.specs.Prelude.{slice_index_or}
use Rattle.std.proofs.lemmas.List.{get_or-set_same}
use Rattle.lt_base.specs.declared.value.Value.{Value}
use Rattle.lt_arch.specs.declared.event.Deed.{Deed}
use Rattle.lt_arch.specs.declared.event.Deed.TheVariants.{Nothing, Execute, Send}
use Rattle.lt_arch.specs.declared.event.Event.TheVariants.{Act}
use Rattle.lt_arch.specs.declared.limits.TheConstants.{GREATEST_TIME}
use Rattle.lt_arch.specs.Deeds.{deed_at}
use Rattle.lt_arch.specs.Readers.{node_count, chan_count}
use Rattle.lt_arch.specs.State.{executed_of}
use Rattle.lt_arch.specs.Step.{is_execute}
use Rattle.lt_io.specs.FabricState.{FabricState}
use Rattle.lt_lossy.specs.declared.event.LossyEvent.TheVariants.{Plain}
use Rattle.lt_lossy.specs.State.{plain_of, sent_count}
use Rattle.lt_lossy.proofs.Changes.{node-act_here}
use Rattle.lt_net_bench.proofs.Entries.{either_way}
use Rattle.lt_net_lossy.specs.Changes.{NotesAct, sent_after}
use Rattle.lt_net_lossy.specs.Deeds.{DoesDeed, LossyCanAct}
use Rattle.lt_net_lossy.specs.Event.{PassesLossy, LossyGoesOn, lossy_deed_by}
use Rattle.lt_net_lossy.specs.Given.{HasLossyRow}
use Rattle.lt_net_lossy.specs.Halts.{HasHaltedLossy, MayTakeLossy, SendsBehind}
use Rattle.lt_net_lossy.specs.Holds.{SendsLossy}
use Rattle.lt_net_lossy.specs.Laws.{StandsWith, woken_in}
use Rattle.lt_net_lossy.specs.Net.{LossyBenchState, LossyLists, lossy_state_of}
use Rattle.lt_net_lossy.specs.Sends.{SendsAgain, HasRoomToSend}
use Rattle.lt_net_lossy.specs.Stands.{StandsLossy}
use Rattle.lt_net_lossy.specs.Taken.{LossyHeld, HasLossyKinds, SameLossyStatic, IsKeptLossy, IsTakenLossy}
use Rattle.lt_net_lossy.proofs.Fronts.{law-own}
use Rattle.lt_net_lossy.proofs.InstantOf.{takes, instant_ran}
use Rattle.lt_net_lossy.proofs.Keeps.{law-events_keep, rows_stay}
use Rattle.lt_net_lossy.proofs.NextLossy.{next_lossy, row_there}
use Rattle.lt_net_lossy.proofs.SentAgain.{sent_next}
use Rattle.lt_net_lossy.proofs.SentTwice.{notes_again, sends_again, room_for}
use Rattle.lt_net_lossy.proofs.TakenByCode.{PassesBy}
use Rattle.lt_net_node.specs.Payloads.{types_for}
use Rattle.lt_machine.specs.declared.machine.Machine.{Ghosts as Machines}
use Rattle.lt_arch.specs.declared.controller.Controller.{Ghosts as Controls}

is_executed : (d : Deed) → is_execute d ≡ true → d ≡ Execute
is_executed Nothing h = absurd (cc)
is_executed Send h = absurd (cc)
is_executed Execute h = refl

pub may_stay_lossy : (n at : ℕ) (row : Option (List Value)) (rows : ℕ → List (List Value)) → MayTakeLossy (Plain (Act n at)) row rows rows
may_stay_lossy n at (Some r) rows = inl (λ i. refl)
may_stay_lossy n at None rows = λ i. refl

module _ {C M : Type 0} (ctl : Controls C) (mch : Machines M) (net : LossyBenchState C M) (kept : IsKeptLossy net) (n at : ℕ) (nb : n < node_count net.shape) (timely : at ≤ GREATEST_TIME)
    (passes : PassesBy net (Plain (Act n at))) (row : Option (List Value)) (given : HasLossyRow net n row) where
  pass : (ls : LossyLists) → StandsLossy ctl mch net ls → PassesLossy net ls (Plain (Act n at))
  pass ls s = record { timely = timely; clear = passes net.shape net.timing net.watch.limit (lossy_state_of net ls) s.times }

  pub can_act : (fabric : FabricState) → LossyHeld ctl mch net fabric → LossyCanAct ctl mch net n
  can_act fabric held = (held.0, held.1.standing, at, pass held.0 held.1.standing)

  module _ (mid : LossyBenchState C M) (does : (ls : LossyLists) → StandsLossy ctl mch net ls → DoesDeed ctl mch net mid n row ls) (static : SameLossyStatic net mid) (watch : mid.watch ≡ net.watch) where
    module _ (ls : LossyLists) (s : StandsLossy ctl mch net ls) where
      -- what the node counts, its vectors have
      sent_now : slice_index_or (sent_after net.sent n (deed_at net.shape net.rows (plain_of (lossy_state_of net ls)) n)) n 0 ≡ sent_count (woken_in net ls n at)
      sent_now = sent_next ctl mch net ls s kept.sized n at (pass ls s) nb n nb ∙ ap sent_count (node-act_here net.shape net.timing net.rows (lossy_state_of net ls) n at n refl)

      count_now : slice_index_or net.executed n 0 ≡ executed_of (plain_of (lossy_state_of net ls)) n
      count_now = s.bench.ran.executed n nb ∙ s.bench.rows n nb

      counts : (b : Bool) → is_execute (deed_at net.shape net.rows (plain_of (lossy_state_of net ls)) n) ≡ b → (sent_count (woken_in net ls n at) ≡ slice_index_or mid.sent n 0) × ((woken_in net ls n at).executed ≡ slice_index_or mid.executed n 0)
      counts false idle =
          let d = (does ls s).idle idle in (
            sym (ap (λ (z : LossyBenchState C M). slice_index_or z.sent n 0) d.is ∙ sent_now),
            ap (λ b. cond b (executed_of (plain_of (lossy_state_of net ls)) n + 1) (executed_of (plain_of (lossy_state_of net ls)) n)) idle ∙ sym count_now ∙ sym (ap (λ (z : LossyBenchState C M). slice_index_or z.executed n 0) d.is),
          )
      counts true runs =
          let e = is_executed _ runs in
          let d = (does ls s).instant e in
          let same : slice_index_or net.sent n 0 ≡ sent_count (woken_in net ls n at) = sym (ap (λ x. slice_index_or (sent_after net.sent n x) n 0) e) ∙ sent_now in
          let there : n < length net.executed = let z = kept.sized.bench.executed in omega (arith, z, nb) in
          let one_more : slice_index_or mid.executed n 0 ≡ slice_index_or net.executed n 0 + 1 =
          ap (λ (z : LossyBenchState C M). slice_index_or z.executed n 0) d.is ∙ ap (λ xs. slice_index_or xs n 0) d.runs.executed ∙ get_or-set_same net.executed n (slice_index_or net.executed n 0 + 1) 0 there in (
            sym (ap (λ (z : LossyBenchState C M). slice_index_or z.sent n 0) d.is ∙ same),
            ap (λ b. cond b (executed_of (plain_of (lossy_state_of net ls)) n + 1) (executed_of (plain_of (lossy_state_of net ls)) n)) runs ∙ ap (λ k. k + 1) (sym count_now) ∙ sym one_more,
          )

      both_counts : (sent_count (woken_in net ls n at) ≡ slice_index_or mid.sent n 0) × ((woken_in net ls n at).executed ≡ slice_index_or mid.executed n 0)
      both_counts = counts (is_execute (deed_at net.shape net.rows (plain_of (lossy_state_of net ls)) n)) refl

    -- there is room for what is sent
    pub room_now : (fabric : FabricState) → LossyHeld ctl mch net fabric → HasRoomToSend mid.shape n (slice_index_or mid.sent n 0) (slice_index_or mid.executed n 0) mid.watch
    room_now fabric held =
        let ls = held.0 in
        let s = held.1.standing in
        let c = both_counts ls s in
        subst (λ w. HasRoomToSend mid.shape n (slice_index_or mid.sent n 0) (slice_index_or mid.executed n 0) w) (sym watch)
        (subst (λ z. HasRoomToSend z n (slice_index_or mid.sent n 0) (slice_index_or mid.executed n 0) net.watch) (sym static.shape)
        (room_for ctl mch net kept.fixed ls s n at (pass ls s) (slice_index_or mid.sent n 0) (slice_index_or mid.executed n 0) c.0 c.1))

    pub kinds_now : (fabric : FabricState) → HasLossyKinds net fabric → HasLossyKinds mid fabric
    kinds_now fabric kinds = record {
      count = kinds.count ∙ ap chan_count (sym static.shape);
      each = λ c lt. kinds.each c (subst (λ z. c < chan_count z) static.shape lt) ∙ (λ i. types_for (sym static.layout i) (sym static.shape i) c);
    }

    pub behind_now : (fabric : FabricState) → SendsBehind mid.shape n fabric → SendsBehind net.shape n fabric
    behind_now fabric b = subst (λ z. SendsBehind z n fabric) static.shape b

    module _ (new : LossyBenchState C M) (is : new ≡ record mid { watch = new.watch }) where
      pub static_now : new.watch.limit ≡ mid.watch.limit → SameLossyStatic net new
      static_now limit = record {
        layout = ap (λ (z : LossyBenchState C M). z.layout) is ∙ static.layout;
        shape = ap (λ (z : LossyBenchState C M). z.shape) is ∙ static.shape;
        timing = ap (λ (z : LossyBenchState C M). z.timing) is ∙ static.timing;
        rows = ap (λ (z : LossyBenchState C M). z.rows) is ∙ static.rows;
        limit = limit ∙ static.limit;
      }

      -- after an error too
      pub act_halted : (ls : LossyLists) → StandsLossy ctl mch net ls → HasHaltedLossy mch new ls (Plain (Act n at)) row
      act_halted ls s = elim (either_way (is_execute (deed_at net.shape net.rows (plain_of (lossy_state_of net ls)) n))) [
        | inl runs ↦
            let e = is_executed _ runs in
            let d = (does ls s).instant e in
            let go = next_lossy net ls row [] (Plain (Act n at)) (λ i a x y. row_there ctl mch net ls s row n nb given e) in
            let path : new ≡ record net { watch = new.watch; controllers = d.control; machines = set net.machines n d.runs.after; executed = d.mid.executed; inboxes = d.mid.inboxes; tracks = d.mid.tracks; buffers = d.mid.buffers } =
            is ∙ ap (λ (z : LossyBenchState C M). record z { watch = new.watch }) d.is in
            subst (λ z. HasHaltedLossy mch z ls (Plain (Act n at)) row) (sym path) (record {
              rows = (go.0).inputs;
              may_take = subst (λ x. MayTakeLossy (Plain (Act n at)) x ls.inputs (go.0).inputs) (sym d.is_row)
                  (inr (takes ctl mch net kept.fixed kept.sized ls go.0 s n at (pass ls s) nb row [] go.1 d.control e d.input d.is_row d.fits kept.space d.mid d.runs));
              ran = instant_ran ctl mch net kept.fixed kept.sized ls go.0 s n at (pass ls s) nb row [] go.1 d.control e d.input d.is_row d.fits kept.space d.mid d.runs;
            })
        | inr idle ↦
            let d = (does ls s).idle idle in
            let path : new ≡ record net { watch = new.watch; controllers = d.control; inboxes = d.boxes; sent = sent_after net.sent n (deed_at net.shape net.rows (plain_of (lossy_state_of net ls)) n); posted = d.payloads } =
            is ∙ ap (λ (z : LossyBenchState C M). record z { watch = new.watch }) d.is in
            subst (λ z. HasHaltedLossy mch z ls (Plain (Act n at)) row) (sym path) (record { rows = ls.inputs; may_take = may_stay_lossy n at row ls.inputs; ran = s.bench.ran })
      ]

      module _ (fabric fabric' : FabricState) (again : SendsAgain mid.shape n at (slice_index_or mid.sent n 0) (slice_index_or mid.executed n 0) mid.posted fabric fabric' mid.watch new.watch) (kept_new : IsKeptLossy new) where
        again_net : SendsAgain net.shape n at (slice_index_or mid.sent n 0) (slice_index_or mid.executed n 0) mid.posted fabric fabric' net.watch new.watch
        again_net = subst (λ w. SendsAgain net.shape n at (slice_index_or mid.sent n 0) (slice_index_or mid.executed n 0) mid.posted fabric fabric' w new.watch) watch
            (subst (λ z. SendsAgain z n at (slice_index_or mid.sent n 0) (slice_index_or mid.executed n 0) mid.posted fabric fabric' mid.watch new.watch) static.shape again)

        sends_now : (ls : LossyLists) → StandsLossy ctl mch net ls → SendsLossy net.shape n (woken_in net ls n at) mid.posted fabric fabric'
        sends_now ls s =
            let c = both_counts ls s in
            sends_again net.shape n at mid.posted fabric fabric' net.watch new.watch (woken_in net ls n at) (slice_index_or mid.sent n 0) (slice_index_or mid.executed n 0) c.0 c.1 again_net

        notes_now : (ls : LossyLists) → StandsLossy ctl mch net ls → NotesAct net.shape n at (woken_in net ls n at) net.watch new.watch
        notes_now ls s =
            let c = both_counts ls s in
            notes_again net.shape n at mid.posted fabric fabric' net.watch new.watch (woken_in net ls n at) (slice_index_or mid.sent n 0) (slice_index_or mid.executed n 0) c.0 c.1 again_net

        goes_on : (ls next : LossyLists) → StandsWith ctl mch net ls fabric → LossyGoesOn net ls next (Plain (Act n at)) row [] → StandsWith ctl mch new next fabric'
        goes_on ls next with goes =
            let s = with.standing in
            let k = (law-events_keep ctl mch net ls next row [] fabric kept.fixed kept.sized with).activation n at fabric' (pass ls s) nb goes in
            elim (either_way (is_execute (deed_at net.shape net.rows (plain_of (lossy_state_of net ls)) n))) [
              | inl runs ↦
                  let e = is_executed _ runs in
                  let d = (does ls s).instant e in
                  let path : new ≡ record net { watch = new.watch; controllers = d.control; machines = set net.machines n d.runs.after; executed = d.mid.executed; inboxes = d.mid.inboxes; tracks = d.mid.tracks; buffers = d.mid.buffers } =
                  is ∙ ap (λ (z : LossyBenchState C M). record z { watch = new.watch }) d.is in
                  let sends : SendsLossy net.shape n (woken_in net ls n at) net.posted fabric fabric' = subst (λ ps. SendsLossy net.shape n (woken_in net ls n at) ps fabric fabric') (ap (λ (z : LossyBenchState C M). z.posted) d.is) (sends_now ls s) in
                  subst (λ z. StandsWith ctl mch z next fabric') (sym path)
                  (k.instant e new.watch (notes_now ls s) d.control d.controls d.input d.is_row d.fits kept.space d.mid d.runs sends)
              | inr idle ↦
                  let d = (does ls s).idle idle in
                  let path : new ≡ record net { watch = new.watch; controllers = d.control; inboxes = d.boxes; sent = sent_after net.sent n (deed_at net.shape net.rows (plain_of (lossy_state_of net ls)) n); posted = d.payloads } =
                  is ∙ ap (λ (z : LossyBenchState C M). record z { watch = new.watch }) d.is in
                  let sends : SendsLossy net.shape n (woken_in net ls n at) d.payloads fabric fabric' = subst (λ ps. SendsLossy net.shape n (woken_in net ls n at) ps fabric fabric') (ap (λ (z : LossyBenchState C M). z.posted) d.is) (sends_now ls s) in
                  subst (λ z. StandsWith ctl mch z next fabric') (sym path)
                  (k.idle idle new.watch (notes_now ls s) d.control d.controls d.boxes d.marks d.payloads d.posts sends)
            ]

        pub act_taken : new.watch.limit ≡ mid.watch.limit → IsTakenLossy ctl mch net new (Plain (Act n at)) row fabric fabric'
        act_taken limit = record {
          payload = [];
          goes = goes_on;
          carried = λ ls next with goes. subst (λ ps. SendsLossy net.shape n (woken_in net ls n at) ps fabric fabric') (sym (ap (λ (z : LossyBenchState C M). z.posted) is)) (sends_now ls with.standing);
          own = λ faithful ls next with goes own. law-own ctl mch net ls next row [] fabric (Plain (Act n at)) kept.fixed with own nb goes tt;
          stays = λ ls next with goes. rows_stay ctl mch net ls next row [] fabric kept.fixed kept.sized with n (lossy_deed_by net ls (Plain (Act n at))) row goes.inputs (λ i c. goes.got c i);
          kept = kept_new;
          static = static_now limit;
          kinds = again.kinds;
        }
