-- What a node shows where it executes an instant is the next cell of the whole program's stream.
use Rattle.std.proofs.Common.{◌≡◌, ℕ, zero, suc, ◌+◌, ◌<◌, ◌≤◌, List, [], ◌∷◌, ◌++◌, length, map, take, reverse, Some, refl, sym, ap, ◌∙◌, subst, arith, add-one}
use Rattle.std.specs.Prelude.{slice_index_or, if◌then◌else◌}
use Rattle.std.specs.List.{slice_get, AllByRecursion}
use Rattle.lt_base.specs.declared.value.Value.{Value}
use Rattle.lt_base.specs.declared.value.Cell.TheVariants.{Absent, Here}
use Rattle.lt_base.specs.Program.{Function}
use Rattle.lt_base.specs.Meaning.{ClockPairs, Environment, calls, clock_of, stream_of}
use Rattle.lt_base.specs.Solution.{Solves}
use Rattle.lt_base.specs.Typing.{ty_at}
use Rattle.lt_base.proofs.Streams.{stream_next}
use Rattle.lt_arch.specs.declared.event.Deed.TheVariants.{Execute}
use Rattle.lt_arch.specs.Readers.{node_count}
use Rattle.lt_arch.specs.Step.{is_execute}
use Rattle.lt_cause.proofs.Places.{order_causal}
use Rattle.lt_lossy.specs.declared.event.LossyEvent.{LossyEvent}
use Rattle.lt_lossy.specs.Schedule.{IsLossyOffenceFree}
use Rattle.lt_norm.specs.Flat.{Originated}
use Rattle.lt_place.specs.declared.layout.Layout.{Layout}
use Rattle.lt_place.specs.Layout.{part_of}
use Rattle.lt_net_node.specs.Layout.{IsLaidOut}
use Rattle.lt_net_node.specs.Local.{upto, firsts, local_stream}
use Rattle.lt_net_node.specs.Payloads.{row_at}
use Rattle.lt_net_bench.proofs.Firsts.{map-upto, map-firsts, reverse-firsts}
use Rattle.lt_step.specs.Run.{at_instant, slots_after, instants}
use Rattle.lt_c.specs.Tree.{slot, has, output}
use Rattle.lt_c.specs.Meaning.{Store, c_truth_of, holds, store_left}
use Rattle.lt_c_step.specs.declared.sources.Output.{Output}
use Rattle.lt_c_step.specs.Laws.{value_as, shown}
use Rattle.lt_c_step.specs.Part.{HasConditions, ShowsSlot, before_outputs, part_step}
use Rattle.lt_c_net.specs.Emitted.{NodeCode, is_told, told_cell}
use Rattle.lt_c_net.specs.WholeRuns.{GivesOutput}
use Rattle.lt_c_net.proofs.Showing.{code_solves}
use Rattle.lt_c_lossy.specs.Crossed.{whole_row}
use Rattle.lt_c_lossy.specs.LosingRuns.{LosingDeployment, acted_losing}
use Rattle.lt_c_lossy.specs.LosingWholeRuns.{IsDeployedLosing}
use Rattle.lt_c_lossy.specs.LosingLaws.{state_after, next_deed, IsLosingAt, LosingTells}
use Rattle.lt_c_lossy.proofs.Whole.{G, laid, part_fronts}
use Rattle.lt_c_lossy.proofs.Acted.{in_nodes, at_most, does, all_rows_fit, row_left, executed_part, m1, m2}

one_of_all : {A : Type 0} (P : A → Type 0) (xs : List A) (i : ℕ) (x : A) → AllByRecursion P xs → slice_get xs i ≡ Some x → P x
one_of_all P [] i x h is = absurd (cc)
one_of_all P (y ∷ ys) zero x h is = subst P (some_same y x is) h.0
  where
    some_same : {A : Type 0} (a b : A) → Some a ≡ Some b → a ≡ b
    some_same a b e = cc
one_of_all P (y ∷ ys) (suc i) x h is = one_of_all P ys i x h.1 is

-- whether a variable is told to have a value, in a store that has what the step left
told_same : (ck : ClockPairs) (x : ℕ) (new mid old : Store) → new (has x) ≡ mid (has x) → (HasConditions ck → c_truth_of (mid (has x)) ≡ holds old ck) → is_told ck x new ≡ holds old ck
told_same [] x new mid old e h = refl
told_same (p ∷ ck) x new mid old e h = ap c_truth_of e ∙ h tt

module _ (f : Originated) (losses : ℕ) (d : LosingDeployment) (is : IsDeployedLosing f losses d) (es : List LossyEvent) (free : IsLossyOffenceFree d.base.shape d.base.timing losses (length d.base.inputs) es) (n : ℕ) (nb : n < node_count d.base.shape)
    (m : Store) (at : IsLosingAt f d (state_after d es) n m) (executes : next_deed d es n ≡ Execute) where
  abbrev l : Layout
  l = d.base.layout

  abbrev rows : List (List Value)
  rows = d.base.inputs

  abbrev node : NodeCode
  node = d.base.nodes n

  abbrev e : ℕ
  e = ((state_after d es).node n).executed

  abbrev F : ℕ → List Value
  F = whole_row f.func l rows n

  abbrev g : Function
  g = (part_of l n).flat.func

  abbrev m' : Store
  m' = acted_losing d n e m

  abbrev ready : Store
  ready = m2 f losses d is es free n nb m at

  abbrev read : Store
  read = store_left (before_outputs node.sources node.code) ready

  abbrev left_by_step : Store
  left_by_step = store_left (part_step node.sources node.outputs node.code) ready

  abbrev env : Environment
  env = at_instant node.code (map Some (F e)) (slots_after node.code (map (map Some) (upto F e)))

  turned : map (map Some) (upto F e) ≡ reverse (map (map Some) (firsts F e))
  turned = map-upto (map Some) F e ∙ sym (reverse-firsts (λ k. map Some (F k)) e) ∙ ap reverse (sym (map-firsts (map Some) F e))

  next_cell : (y : ℕ) → y < length g.decls → local_stream l (G f l is.placed rows is.fit) n (row_at rows) (suc e) y ≡ local_stream l (G f l is.placed rows is.fit) n (row_at rows) e y ++ shown g.decls y read ∷ []
  next_cell y lt =
      let code = (is.coded n nb).emitted.made.code_of in
      let low = row_left f losses d is es free n nb m at executes in
      let sol : Solves (calls [] 0) g (env ∷ instants node.code (map (map Some) (upto F e))) (map Some (F e) ∷ reverse (map (map Some) (firsts F e))) =
      subst (λ rs. Solves (calls [] 0) g (env ∷ instants node.code (map (map Some) (upto F e))) (map Some (F e) ∷ rs)) turned
      (code_solves g node.code code (F e ∷ upto F e) (all_rows_fit f losses d is es free n nb m at (suc e) (omega (arith, low)))) in
      stream_next [] g (order_causal g code.order code.is_order) code.clocked (firsts F e) (F e) env (instants node.code (map (map Some) (upto F e))) sol y lt
      ∙ ap (λ c. stream_of [] g (firsts F e) y ++ c ∷ []) (sym ((executed_part f losses d is es free n nb m at executes).shows y lt))

  -- what the store tells of a variable that is shown
  tells : (i x : ℕ) → slice_get node.outputs i ≡ Some (record { output_number = x; from_slot = x; guard = clock_of g.decls x }) → told_cell g.decls x m' ≡ shown g.decls x read
  tells i x there =
      let o : Output = record { output_number = x; from_slot = x; guard = clock_of g.decls x } in
      let s : ShowsSlot left_by_step read o = one_of_all (ShowsSlot left_by_step read) node.outputs i o (executed_part f losses d is es free n nb m at executes).gives there in
      let did_it = does f losses d is es free n nb m at in
      let told : is_told (clock_of g.decls x) x m' ≡ holds read (clock_of g.decls x) =
      told_same (clock_of g.decls x) x m' left_by_step read (did_it.told x ∙ (λ k. if is_execute (executes k) then left_by_step (has x) else (m1 f losses d is es free n nb m at) (has x))) s.told in
      let value : m' (output x) ≡ read (slot x) = did_it.outputs x ∙ (λ k. if is_execute (executes k) then left_by_step (output x) else (m1 f losses d is es free n nb m at) (output x)) ∙ s.value_is in
      (λ k. if told k then Here (value_as (ty_at g.decls x) (value k)) else Absent)

  pub tells_next : (y x : ℕ) → GivesOutput d.base y n x →
      take (e + 1) (stream_of [] f.func rows (slice_index_or l.outs y 0)) ≡ take e (stream_of [] f.func rows (slice_index_or l.outs y 0)) ++ told_cell g.decls x m' ∷ []
  tells_next y x gives =
      let placed_laid : IsLaidOut f.func l = laid f l is.placed rows is.fit in
      let nl : n < length l.nodes = in_nodes f losses d is es free n nb m at in
      let low = row_left f losses d is es free n nb m at executes in
      let v : ℕ = slice_index_or l.outs y 0 in
      let declared = placed_laid.given_declared n v x nl gives.2 in
      let origin = placed_laid.given_origin n v x nl gives.2 in
      let output_at = (is.coded n nb).emitted.shows y x gives.0 gives.2 in
      let front : (k : ℕ) → k ≤ length rows → local_stream l (G f l is.placed rows is.fit) n (row_at rows) k x ≡ take k (stream_of [] f.func rows v) =
      λ k le. part_fronts f l is.placed rows is.fit n k x nl le declared ∙ ap (λ z. take k (stream_of [] f.func rows z)) origin in
      ap (λ k. take k (stream_of [] f.func rows v)) (add-one e)
      ∙ sym (front (suc e) (omega (arith, low)))
      ∙ next_cell x declared
      ∙ (λ i. front e (at_most f losses d is es free n nb m at) i ++ sym (tells output_at.0 x output_at.1) i ∷ [])

pub losing_tells : LosingTells
losing_tells f losses d is es free n nb m at executes y x gives = tells_next f losses d is es free n nb m at executes y x gives
