-- The cells that an activation tells.
use Rattle.std.proofs.Common.{◌≡◌, ℕ, suc, zero, pos, List, [], ◌∷◌, ◌++◌, length, Some, refl, sym, ap, ◌∙◌, subst}
use Rattle.std.specs.Prelude.{nat_lt, slice_index_or, if◌then◌else◌}
use Rattle.std.specs.List.{slice_get, AllByRecursion}
use Rattle.lt_base.specs.declared.value.Value.{Value}
use Rattle.lt_base.specs.declared.value.Cell.TheVariants.{Absent, Here}
use Rattle.lt_base.specs.Program.{Function}
use Rattle.lt_base.specs.Meaning.{ClockPairs, clock_of}
use Rattle.lt_base.specs.Typing.{ty_at}
use Rattle.lt_arch.specs.declared.event.Deed.TheVariants.{Execute}
use Rattle.lt_arch.specs.State.{Phase}
use Rattle.lt_place.specs.Layout.{part_of}
use Rattle.lt_net_node.specs.Local.{local_stream}
use Rattle.lt_net_node.specs.Payloads.{payloads_between, row_at}
use Rattle.lt_net_bench.specs.Bench.{BenchState}
use Rattle.lt_net_bench.specs.Executes.{ins_of}
use Rattle.lt_step.specs.Code.{StepCode}
use Rattle.lt_c.specs.Tree.{did, has, perform}
use Rattle.lt_c.specs.Meaning.{Store, c_truth_of, holds, stored, store_left}
use Rattle.lt_c_step.specs.declared.sources.Source.{Source}
use Rattle.lt_c_step.specs.declared.sources.Output.{Output}
use Rattle.lt_c_step.specs.Laws.{value_as, shown}
use Rattle.lt_c_step.specs.Part.{HasConditions, ShowsSlot, before_outputs, part_step}
use Rattle.lt_c_step.proofs.Executing.{parts_execute}
use Rattle.lt_c_control.specs.Control.{Does}
use Rattle.lt_c_net.specs.Stands.{offered}
use Rattle.lt_c_net.specs.Moves.{IsCodeOfNode, own_row}
use Rattle.lt_c_net.specs.Lists.{rows_of_node, NodeFollows, ActsListed}
use Rattle.lt_c_net.specs.Emitted.{is_told, told_cell}
use Rattle.lt_c_net.specs.Told.{TellsNextCells, PressingTells, CountingTells}
use Rattle.lt_c_net.proofs.Acting.{feeds_offered}
use Rattle.lt_c_net.proofs.Activating.{presses_deed}
use Rattle.lt_c_net.proofs.CountingOn.{counts_deed}
use Rattle.lt_c_net.proofs.Listed.{is_fed, acts_of}
use Rattle.lt_c_net.proofs.Showing.{next_cell}
use Rattle.lt_machine.specs.declared.machine.Machine.{Ghosts as Machines}
use Rattle.lt_arch.specs.declared.controller.Controller.{Ghosts as Controls}

one_of_all : {A : Type 0} (P : A → Type 0) (xs : List A) (i : ℕ) (x : A) → AllByRecursion P xs → slice_get xs i ≡ Some x → P x
one_of_all P [] i x h is = absurd (cc)
one_of_all P (y ∷ ys) zero x h is = subst P (some_same y x is) h.0
  where
    some_same : {A : Type 0} (a b : A) → Some a ≡ Some b → a ≡ b
    some_same a b e = cc
one_of_all P (y ∷ ys) (suc i) x h is = one_of_all P ys i x h.1 is

-- whether a variable is told to have a value, in a store that has what the step left
told_same : (ck : ClockPairs) (x : ℕ) (new mid old : Store) → new (has x) ≡ mid (has x) → (HasConditions ck → c_truth_of (mid (has x)) ≡ holds old ck) → is_told ck x new ≡ holds old ck
told_same [] x new mid old e h = refl
told_same (p ∷ ck) x new mid old e h = ap c_truth_of e ∙ h tt

module _ {C M : Type 0} (ctl : Controls C) (mch : Machines M) (p q : BenchState C M) (inputs inputs' got : ℕ → List (List Value)) (n : ℕ) (code : StepCode) (ins acks : List ℕ) (ss : List Source) (os : List Output) (row : List Value) (m : Store)
    (file : IsCodeOfNode p.layout p.shape n code ins acks ss os) (a : ActsListed ctl mch p q inputs inputs' got n row Execute) (at : NodeFollows ctl p inputs got n code m) where
  abbrev f : Function
  f = (part_of p.layout n).flat.func

  abbrev so_far : List (List Value)
  so_far = rows_of_node p.layout p.shape inputs got n

  abbrev m1 : Store
  m1 = offered (nat_lt (slice_index_or p.executed n 0) p.rows) (own_row p.layout n row) m

  abbrev m2 : Store
  m2 = stored m1 did (pos 0)

  abbrev left_by_step : Store
  left_by_step = store_left (part_step ss os code) m2

  gives : AllByRecursion (ShowsSlot left_by_step (store_left (before_outputs ss code) m2)) os
  gives =
      let fed = is_fed ctl mch p q inputs inputs' got n row a in
      (parts_execute f code file.code_of ss os file.differ so_far (ins_of p n row) fed.fit m2 at.2.slots
      (feeds_offered p n row so_far fed (ctl.phase at.0) (slice_index_or p.executed n 0) code m at.2 (nat_lt (slice_index_or p.executed n 0) p.rows) ins acks ss os file)).gives

  pub tells_next : (next : Phase) (m' : Store) → Does ins acks (perform (part_step ss os code)) m1 m' Execute next → TellsNextCells p inputs inputs' got n os m'
  tells_next next m' d i x lt is =
      let o : Output = record { output_number = x; from_slot = x; guard = clock_of f.decls x } in
      let s : ShowsSlot left_by_step (store_left (before_outputs ss code) m2) o = one_of_all (ShowsSlot left_by_step (store_left (before_outputs ss code) m2)) os i o gives is in
      let told : is_told (clock_of f.decls x) x m' ≡ holds (store_left (before_outputs ss code) m2) (clock_of f.decls x) = told_same (clock_of f.decls x) x m' left_by_step (store_left (before_outputs ss code) m2) (d.told x) s.told in
      let same : told_cell f.decls x m' ≡ shown f.decls x (store_left (before_outputs ss code) m2) =
      (λ k. if told k then Here (value_as (ty_at f.decls x) ((d.outputs x ∙ s.value_is) k)) else Absent) in
      next_cell ctl mch p q inputs inputs' got n code ins acks ss os row m file a at x lt
      ∙ ap (λ c. local_stream p.layout (payloads_between p.shape got) n (row_at (inputs n)) (length (inputs n)) x ++ c ∷ []) (sym same)

pub pressing_tells : {C M : Type 0} (ctl : Controls C) (mch : Machines M) → PressingTells ctl mch
pressing_tells ctl mch p q inputs inputs' got n code ins acks ss os row m file ok a at =
    let acts = acts_of ctl mch p q inputs inputs' got n row Execute a in
    tells_next ctl mch p q inputs inputs' got n code ins acks ss os row m file a at _ _
    (presses_deed ctl mch p q n code ins acks ss os (rows_of_node p.layout p.shape inputs got n) row Execute m file acts at (ok acts.wakes.before acts.wakes.there))

pub counting_tells : {C M : Type 0} (ctl : Controls C) (mch : Machines M) → CountingTells ctl mch
counting_tells ctl mch p q inputs inputs' got n code ins ss os row m sends executes file ok a at =
    let acts = acts_of ctl mch p q inputs inputs' got n row Execute a in
    let c = ok acts.wakes.before acts.wakes.there in
    tells_next ctl mch p q inputs inputs' got n code ins [] ss os row m file a at _ _
    (counts_deed ctl mch p q n code ins ss os (rows_of_node p.layout p.shape inputs got n) row Execute m file acts at sends executes c.0 c.1 c.2)
