-- Activations keep a store standing under the time-based protocol.
use Rattle.std.proofs.Common.{◌≡◌, ℕ, Bool, true, false, List, [], length, sym, ◌∙◌, subst}
use Rattle.std.specs.Prelude.{nat_lt, slice_index_or}
use Rattle.lt_base.specs.declared.value.Value.{Value}
use Rattle.lt_arch.specs.declared.event.Deed.{Deed}
use Rattle.lt_arch.specs.State.{Phase}
use Rattle.lt_arch.specs.Deeds.{deed_of, phase_after, all_below}
use Rattle.lt_net_node.specs.Freshness.{fresh_or_other}
use Rattle.lt_net_bench.specs.Bench.{BenchState}
use Rattle.lt_step.specs.Code.{StepCode}
use Rattle.lt_c.specs.Tree.{more, Statement, perform}
use Rattle.lt_c.specs.Meaning.{Store, c_truth_of, store_left}
use Rattle.lt_c_step.specs.declared.sources.Source.{Source}
use Rattle.lt_c_step.specs.declared.sources.Output.{Output}
use Rattle.lt_c_step.specs.Part.{part_step}
use Rattle.lt_c_control.specs.Control.{counting, some, fresh_data, Does, IsCounting}
use Rattle.lt_c.proofs.Stores.{truth_back}
use Rattle.lt_c_control.proofs.Timed.{counting_is_deed}
use Rattle.lt_c_step.proofs.Executing.{parts_write_slots}
use Rattle.lt_c_net.specs.Stands.{NodeStands, offered}
use Rattle.lt_c_net.specs.Moves.{IsCodeOfNode, own_row}
use Rattle.lt_c_net.specs.Laws.{Acts, StandsAfter, CountingKeeps}
use Rattle.lt_c_net.proofs.Activating.{has_phase, some_of_in, finish}
use Rattle.lt_machine.specs.declared.machine.Machine.{Ghosts as Machines}
use Rattle.lt_arch.specs.declared.controller.Controller.{Ghosts as Controls}

-- no acknowledgements come
module _ {C M : Type 0} (ctl : Controls C) (mch : Machines M)
    (p q : BenchState C M) (n : ℕ) (code : StepCode) (ins : List ℕ) (ss : List Source) (os : List Output) (rows : List (List Value)) (row : List Value) (deed : Deed) (m : Store) (file : IsCodeOfNode p.layout p.shape n code ins [] ss os)
    (acts : Acts ctl mch p q n row rows deed) (s : NodeStands ctl p n code rows m) (sends executes : ℕ)
    (counted : IsCounting (ctl.phase acts.wakes.before)) (sends_are : ctl.send acts.wakes.before ≡ sends) (executes_are : ctl.execute acts.wakes.before ≡ executes) where
  abbrev ph : Phase
  ph = ctl.phase acts.wakes.before

  abbrev has : Bool
  has = nat_lt (slice_index_or p.executed n 0) p.rows

  abbrev m1 : Store
  m1 = offered has (own_row p.layout n row) m

  abbrev run : Statement
  run = perform (part_step ss os code)

  abbrev all_in : Bool
  all_in = all_below (fresh_or_other p.shape.channels p.inboxes n true) (length p.shape.channels)

  abbrev all_ack : Bool
  all_ack = all_below (fresh_or_other p.shape.channels p.inboxes n false) (length p.shape.channels)

  pub counts_deed : Does ins [] run m1 (store_left (counting sends executes ins run) m1) deed (phase_after sends executes ph deed)
  counts_deed =
      let same : deed_of ph all_in (some (fresh_data m1) ins) all_ack (c_truth_of (m1 more)) ≡ deed =
      (λ i. deed_of ph all_in (some_of_in ctl mch p q n code ins [] ss os rows row deed m file acts s i) all_ack (truth_back has i)) ∙ sym acts.wakes.deed_is in
      subst (λ d. Does ins [] run m1 (store_left (counting sends executes ins run) m1) d (phase_after sends executes ph d)) same
      (counting_is_deed ins run sends executes m1 ph all_in all_ack (λ m x h. parts_write_slots ss os code m x h) counted (has_phase ctl mch p q n code ins [] ss os rows row deed m file acts s))

  pub counts_on : StandsAfter ctl p q n row code rows deed (store_left (counting sends executes ins run) m1)
  counts_on =
      finish ctl mch p q n code ins [] ss os rows row deed m file acts s (store_left (counting sends executes ins run) m1)
      (subst (λ x. Does ins [] run m1 (store_left (counting sends executes ins run) m1) deed (phase_after x (ctl.execute acts.wakes.before) ph deed)) (sym sends_are)
      (subst (λ x. Does ins [] run m1 (store_left (counting sends executes ins run) m1) deed (phase_after sends x ph deed)) (sym executes_are) counts_deed))

pub counting_keeps : {C M : Type 0} (ctl : Controls C) (mch : Machines M) → CountingKeeps ctl mch
counting_keeps ctl mch p q n code ins ss os rows row deed m sends executes file ok acts s =
    let c = ok acts.wakes.before acts.wakes.there in
    counts_on ctl mch p q n code ins ss os rows row deed m file acts s sends executes c.0 c.1 c.2
