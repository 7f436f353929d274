-- A watched run, step after step.
use Rattle.std.proofs.Common.{◌≡◌, ◌∙◌, ◌<◌, ◌≤◌, ℕ, zero, suc, true, false, inl, inr, List, [], ◌∷◌, take, length, get_or, Option, Some, None, Result, Ok, Err, IsTrue, refl, sym, ap, subst, arith, ltb-true, ltb-false, ◌++◌}
use Rattle.std.specs.Prelude.{◌↔◌, ◌^◌, IsErrAnd, nat_lt, slice_index_or}
use Rattle.std.specs.List.{All}
use Rattle.std.proofs.lemmas.List.Elements.{All-head, All-tail}
use Rattle.lt_base.specs.declared.memory.Or.{Or}
use Rattle.lt_base.specs.declared.memory.Or.TheVariants.{Fault, Memory}
use Rattle.lt_base.specs.declared.value.Value.{Value}
use Rattle.lt_base.specs.declared.value.Cell.{Cell}
use Rattle.lt_base.specs.declared.value.Cell.TheVariants.{Absent}
use Rattle.lt_base.specs.Program.{Function, WholeProgram}
use Rattle.lt_base.specs.Inputs.{InputTable}
use Rattle.lt_arch.specs.declared.shape.Shape.{Shape}
use Rattle.lt_arch.specs.declared.timing.Timing.{Timing}
use Rattle.lt_io.specs.Visits.{Errand}
use Rattle.lt_io.proofs.Visiting.{visited_any}
use Rattle.lt_io.specs.FilesState.{FilesState}
use Rattle.lt_io.specs.FabricState.{FabricState}
use Rattle.lt_place.specs.declared.layout.Layout.{Layout}
use Rattle.lt_arch.specs.declared.pace.Pace.{Pace}
use Rattle.lt_lead.specs.Paced.{IsShapeBy}
use Rattle.lt_answer.specs.World.{World, Blame, alone, world}
use Rattle.lt_answer.specs.Answered.{Answered, Verdict, AndThen}
use Rattle.lt_answer.proofs.Stages.{beside, goes_on, renamed, stops, widened}
use Rattle.lt_resolve.specs.Resolves.{IsSmallFunction}
use Rattle.lt_front.specs.Examined.{ExaminedText}
use Rattle.lt_past.specs.Formula.{SignalsBelow}
use Rattle.lt_past.specs.Satisfaction.{Sat}
use Rattle.lt_past.specs.Observer.{Observing}
use Rattle.lt_past.proofs.Agreeing.{uses_below, sat_alike}
use Rattle.lt_load_fit.specs.declared.fault.CommandFault.{CommandFault}
use Rattle.lt_schedule.specs.Errand.{schedule_errand}
use Rattle.lt_load_fit.specs.Main.{main_in}
use Rattle.lt_load.specs.Errands.{load_errands}
use Rattle.lt_load.specs.Plan.{Plan, LoadedPlan, IsLoadedFrom, Loads, load_verdict}
use Rattle.lt_evaluate.specs.declared.outputs.Outputs.{Outputs}
use Rattle.lt_evaluate.specs.Main.{output_streams}
use Rattle.lt_load.specs.Near.{ReadNear}
use Rattle.lt_run.specs.Printed.{AreShown}
use Rattle.lt_run.specs.Run.{OutputsShow, IsLaidOutBy, along_loaded, run_along_verdict, placed_run_verdict}
use Rattle.lt_run.proofs.Reading.{has_read}
use Rattle.lt_watch.specs.declared.fault.WatchFault.{WatchFault}
use Rattle.lt_watch.specs.declared.watched.Watched.{Watched}
use Rattle.lt_watch.specs.Blamed.{watch_blame}
use Rattle.lt_watch.specs.Errands.{observer_errand, watch_errands}
use Rattle.lt_watch.specs.Judged.{column, counted_columns, is_true, signals_at, IsShortest, WatchTells, IsWatched}
use Rattle.lt_watch.proofs.Cells.{mapped_at, mapped_length}
use Rattle.lt_watch.specs.Watch.{InCommand, observer_verdict, told_verdict, followed_verdict, plan_watch_verdict, watch_verdict, run_along, followed_along, loaded_watch_verdict}

-- two steps, of which the second needs neither files nor fabric

module _ {T U E : Type 0} (blame : E → Blame) (V : Verdict T E) (next : T → Verdict U E) (a b : World) where
  -- the first is refused
  pub stopped : {es : List Errand} (fs : List Errand) (e : Or E) (r : Result U (Or E)) → IsErrAnd r (λ f. f ≡ e) → Answered blame es V a b (Err e) → Answered blame (es ++ fs) (AndThen V next) a b r
  stopped fs e (Ok x) is first = absurd is
  stopped {es} fs e (Err f) is first = subst (λ (g : Or E). Answered blame (es ++ fs) (AndThen V next) a b (Err g)) (sym is) (stops fs a b e first)

  -- the second gives a value that is right where the first one's is
  pub settled : {es : List Errand} (x : T) (y : U) → Answered blame es V a b (Ok x) → (V (Ok x) → next x (Ok y)) → Answered blame es (AndThen V next) a b (Ok y)
  settled x y first right = record { keeps = first.keeps; visits = first.visits; cause = first.cause; exact = λ t calm. let v = first.exact t calm in inr (x, v, right v); sound = λ t s rose. absurd (omega (arith, first.cause.files, rose)) }

  -- no memory was found for it
  pub short : {es : List Errand} (x : T) (r : Result U (Or E)) → IsErrAnd r (λ f. f ≡ Memory) → Answered blame es V a b (Ok x) → Answered blame es (AndThen V next) a b r
  short x (Ok y) is first = absurd is
  short {es} x (Err f) is first = subst (λ (g : Or E). Answered blame es (AndThen V next) a b (Err g)) (sym is) (record { keeps = first.keeps; visits = visited_any es a.files.visits b.files.visits false first.visits; cause = first.cause; exact = λ t calm. tt; sound = λ t s rose. absurd (omega (arith, first.cause.files, rose)) })

taken : {A : Type 0} (m : ℕ) (xs : List A) (i : ℕ) (d : A) → i < length (take m xs) → get_or (take m xs) i d ≡ get_or xs i d
taken zero xs i d h = absurd (omega (arith, h))
taken (suc m) [] i d h = absurd (omega (arith, h))
taken (suc m) (x ∷ xs) zero d h = refl
taken (suc m) (x ∷ xs) (suc i) d h = taken m xs i d (omega (arith, h))

-- each output that is named has as many cells
enough : (outs : List ℕ) (cells : List (List Cell)) (n k : ℕ) → IsShortest (counted_columns outs cells) n → k < length outs → n ≤ length (column cells (get_or outs k 0))
enough [] cells n k least h = absurd (omega (arith, h))
enough (y ∷ ys) cells n k least h = subst (λ z. n ≤ length z) (mapped_at cells (y ∷ ys) k h) (least.below k (omega (arith, h, mapped_length cells (y ∷ ys))))

beyond : (cells : List (List Cell)) (y : ℕ) → length cells ≤ y → length (column cells y) ≡ 0
beyond [] y h = refl
beyond (c ∷ cs) zero h = absurd (omega (arith, h))
beyond (c ∷ cs) (suc y) h = beyond cs y (omega (arith, h))

module _ (p : WholeProgram) (l : Layout) (s : Shape) (rows : List (List Value)) (fabric : FabricState) (executed : ℕ → ℕ) (got : ℕ → List (List Value)) (least : ℕ → ℕ) (names : List (List ℕ)) (cells : List (List Cell))
    (shown : AreShown p l s rows fabric executed got least names cells) (faithful : IsTrue fabric.faithful) where
  abbrev streams : List (List Cell)
  streams = output_streams p rows

  -- a cell is that of the stream
  same_cell : (y i : ℕ) → i < length (column cells y) → get_or (column cells y) i Absent ≡ get_or (column streams y) i Absent
  same_cell y i h =
      elim (nat_lt y (length l.outs)) as (λ b. nat_lt y (length l.outs) ≡ b → get_or (column cells y) i Absent ≡ get_or (column streams y) i Absent) [
        | true ↦ λ is.
            let low : y < length l.outs = ltb-true y (length l.outs) is in
            let home = shown.home y low in
            let front = shown.whole faithful y home.0 home.2 low home.1 home.3 in
            ap (λ z. get_or z i Absent) front ∙ taken _ (column streams y) i Absent (subst (λ z. i < length z) front h)
        | false ↦ λ is.
            let high : length l.outs ≤ y = ltb-false y (length l.outs) is in
            let none = beyond cells y (omega (arith, high, shown.columns)) in
            absurd (omega (arith, h, none))
      ] refl

  same_signals : (outs : List ℕ) (n : ℕ) → IsShortest (counted_columns outs cells) n → (k i : ℕ) → k < length outs → i < n → signals_at outs cells k i ≡ signals_at outs streams k i
  same_signals outs n shortest k i low before = ap is_true (same_cell (get_or outs k 0) i (omega (arith, before, enough outs cells n k shortest low)))

-- what is told of a run is right where its outputs are
pub told_right : (o : Observing) → SignalsBelow (length o.outs) o.formula → (schedule : Option (List ℕ)) (new : World) (k : LoadedPlan) (outputs : Outputs) (told : Watched) → WatchTells o outputs.cells told → InCommand (run_along schedule new k) (Ok outputs) → told_verdict k.checked.program k.inputs.rows new.fabric o outputs (Ok told)
told_right o low schedule new k outputs told tells right =
    let p = k.checked.program in
    let read = has_read k.pace (OutputsShow p k.layout k.shape k.timing k.pace k.inputs.rows new.fabric) k.shape k.timing (length k.inputs.rows) schedule outputs right in
    record {
      tells = tells;
      whole = λ faithful n i least before.
          sat_alike (λ k. k < length o.outs) n (signals_at o.outs outputs.cells) (signals_at o.outs (output_streams p k.inputs.rows))
          (same_signals p k.layout k.shape k.inputs.rows new.fabric _ _ _ outputs.names outputs.cells read.at_end.told.shown faithful o.outs n least) o.formula (uses_below (length o.outs) o.formula low) i before;
    }

-- a program that reads has few outputs in each function
pub few_outputs : (fs : List Function) (n : ℕ) (d : Function) → length d.outs ≤ 64 → All IsSmallFunction fs → length (get_or fs n d).outs ≤ 64
few_outputs [] n d h small = h
few_outputs (f ∷ fs) zero d h small = (All-head IsSmallFunction f fs small).outputs
few_outputs (f ∷ fs) (suc n) d h small = few_outputs fs n d h (All-tail IsSmallFunction f fs small)

-- what was loaded, and then its observer and its run

-- what is right of a run of what was loaded is right of its plan
pub along_of : (fabric : FabricState) (file : Option (List ℕ)) (plan : Plan) (k : LoadedPlan) → IsLoadedFrom plan k → (o : Result Outputs CommandFault) → along_loaded fabric k file o → run_along_verdict fabric file plan o
unfolding run_along_verdict
along_of fabric file plan k from o along =
    let laid : IsLaidOutBy plan k.layout k.shape = record { layout = from.layout; shape = subst (λ (p : Pace × Timing). IsShapeBy k.layout p.0 p.1 k.shape) (λ i. (from.pace i, from.timing i)) from.shape } in
    let timed = subst (λ (t : Timing). placed_run_verdict k.checked.program k.layout k.shape t k.pace k.inputs.rows fabric file o) from.timing along in
    let paced = subst (λ (p : Pace). placed_run_verdict k.checked.program k.layout k.shape plan.setup.timing p k.inputs.rows fabric file o) from.pace timed in
    let fed = subst (λ (t : InputTable). placed_run_verdict k.checked.program k.layout k.shape plan.setup.timing plan.setup.pace t.rows fabric file o) from.inputs paced in
    let told = subst (λ (x : ExaminedText). placed_run_verdict x.program k.layout k.shape plan.setup.timing plan.setup.pace plan.inputs.rows fabric file o) from.checked fed in
    (k.layout, k.shape, laid, told)

module _ (named : List ℕ → Option (List ℕ)) (program inputs schedule observer : List ℕ) (config : Option (List ℕ)) (new : World) where
  near_of : (plan : Plan) (k : LoadedPlan) → IsLoadedFrom plan k → (o : Result Outputs WatchFault) → InCommand (run_along (named schedule) new k) o → InCommand (ReadNear (named schedule) new.files.place (run_along_verdict new.fabric (named schedule) plan)) o
  near_of plan k from (Ok outputs) right = along_of new.fabric (named schedule) plan k from (Ok outputs) right
  near_of plan k from (Err e) right = (right.0, (along_of new.fabric (named schedule) plan k from (Err right.0) right.1.0, right.1.1), right.2)

  told_of : (plan : Plan) (k : LoadedPlan) → IsLoadedFrom plan k → (o : Observing) (outputs : Outputs) (r : Result Watched WatchFault) → told_verdict k.checked.program k.inputs.rows new.fabric o outputs r → told_verdict plan.checked.program plan.inputs.rows new.fabric o outputs r
  told_of plan k from o outputs r right =
      subst (λ (x : ExaminedText). told_verdict x.program plan.inputs.rows new.fabric o outputs r) from.checked
      (subst (λ (t : InputTable). told_verdict k.checked.program t.rows new.fabric o outputs r) from.inputs right)

  followed_of : (plan : Plan) (k : LoadedPlan) → IsLoadedFrom plan k → (o : Observing) (r : Result Watched WatchFault) → followed_along (named schedule) new k o r → followed_verdict (named schedule) new plan o r
  unfolding followed_verdict
  followed_of plan k from o (Ok told) (inl refused) = absurd refused
  followed_of plan k from o (Err e) (inl refused) = inl (near_of plan k from (Err e) refused)
  followed_of plan k from o r (inr next) = inr (next.0, near_of plan k from (Ok next.0) next.1, told_of plan k from o next.0 r next.2)

  plan_of : (plan : Plan) (k : LoadedPlan) → IsLoadedFrom plan k → (r : Result Watched WatchFault) → loaded_watch_verdict named schedule observer new k r → plan_watch_verdict named schedule observer new plan r
  unfolding plan_watch_verdict
  plan_of plan k from (Ok told) (inl refused) = absurd refused
  plan_of plan k from (Err e) (inl refused) = inl (subst (λ (x : ExaminedText). observer_verdict (main_in x.program) (named observer) (Err e)) from.checked refused)
  plan_of plan k from r (inr next) = inr (next.0, subst (λ (x : ExaminedText). observer_verdict (main_in x.program) (named observer) (Ok next.0)) from.checked next.1, followed_of plan k from next.0 r next.2)

  pub wider : (r : Result Watched WatchFault) → AndThen (InCommand (Loads (load_verdict named program inputs config))) (λ k. loaded_watch_verdict named schedule observer new k) r → watch_verdict named program inputs schedule observer config new r
  unfolding watch_verdict
  wider (Ok told) (inl refused) = absurd refused
  wider (Err e) (inl refused) = inl refused
  wider r (inr next) = let from = next.1 in inr (from.0, from.1, plan_of from.0 next.0 from.2 r next.2)

-- its observer and its run

module _ (schedule observer : List ℕ) (a b : FilesState) (fabric : FabricState) (k : LoadedPlan) where
  -- the observer is refused
  pub no_observer : (new : World) (e : Or WatchFault) (r : Result Watched (Or WatchFault)) → IsErrAnd r (λ f. f ≡ e) → Answered watch_blame (observer_errand observer) (observer_verdict (main_in k.checked.program) (a.named observer)) (alone a) (alone b) (Err e)
      → Answered watch_blame (observer_errand observer ++ schedule_errand schedule) (loaded_watch_verdict a.named schedule observer new k) (world a fabric) (world b fabric) r
  no_observer new e r is first = stopped watch_blame (observer_verdict (main_in k.checked.program) (a.named observer)) (λ o. followed_along (a.named schedule) new k o) (world a fabric) (world b fabric) (schedule_errand schedule) e r is (beside a b fabric (Err e) first)

  -- it is there, and then the run
  pub with_observer : (c : FilesState) (fabric' : FabricState) (o : Observing) (r : Result Watched (Or WatchFault)) → Answered watch_blame (observer_errand observer) (observer_verdict (main_in k.checked.program) (a.named observer)) (alone a) (alone b) (Ok o)
      → Answered watch_blame (schedule_errand schedule) (followed_along (b.named schedule) (world c fabric') k o) (world b fabric) (world c fabric') r → Answered watch_blame (observer_errand observer ++ schedule_errand schedule) (loaded_watch_verdict a.named schedule observer (world c fabric') k) (world a fabric) (world c fabric') r
  with_observer c fabric' o r first second =
      goes_on (world a fabric) (world b fabric) (world c fabric') o r (beside a b fabric (Ok o) first)
      (renamed (λ names. followed_along (names schedule) (world c fabric') k o) b.named a.named (world b fabric) (world c fabric') r first.keeps.files.named second)

-- the whole

module _ (program inputs schedule observer : List ℕ) (config : Option (List ℕ)) (a b : FilesState) (fabric : FabricState) where
  -- it was not loaded
  pub not_loaded : (e : Or WatchFault) (r : Result Watched (Or WatchFault)) → IsErrAnd r (λ f. f ≡ e) → Answered watch_blame (load_errands program inputs config) (InCommand (Loads (load_verdict a.named program inputs config))) (alone a) (alone b) (Err e)
      → Answered watch_blame (watch_errands program inputs schedule observer config) (watch_verdict a.named program inputs schedule observer config (world b fabric)) (world a fabric) (world b fabric) r
  not_loaded e r is first =
      let V = InCommand (Loads (load_verdict a.named program inputs config)) in
      let next : LoadedPlan → Verdict Watched WatchFault = λ k. loaded_watch_verdict a.named schedule observer (world b fabric) k in
      widened (AndThen V next) (watch_verdict a.named program inputs schedule observer config (world b fabric)) (world a fabric) (world b fabric) r (wider a.named program inputs schedule observer config (world b fabric))
      (stopped watch_blame V next (world a fabric) (world b fabric) (observer_errand observer ++ schedule_errand schedule) e r is (beside a b fabric (Err e) first))

  -- it was, and then watched
  pub loaded_watched : (k : LoadedPlan) (c : FilesState) (fabric' : FabricState) (r : Result Watched (Or WatchFault)) → Answered watch_blame (load_errands program inputs config) (InCommand (Loads (load_verdict a.named program inputs config))) (alone a) (alone b) (Ok k)
      → Answered watch_blame (observer_errand observer ++ schedule_errand schedule) (loaded_watch_verdict b.named schedule observer (world c fabric') k) (world b fabric) (world c fabric') r → Answered watch_blame (watch_errands program inputs schedule observer config) (watch_verdict a.named program inputs schedule observer config (world c fabric')) (world a fabric) (world c fabric') r
  loaded_watched k c fabric' r first second =
      let V = InCommand (Loads (load_verdict a.named program inputs config)) in
      let next : LoadedPlan → Verdict Watched WatchFault = λ k. loaded_watch_verdict a.named schedule observer (world c fabric') k in
      widened (AndThen V next) (watch_verdict a.named program inputs schedule observer config (world c fabric')) (world a fabric) (world c fabric') r (wider a.named program inputs schedule observer config (world c fabric'))
      (goes_on (world a fabric) (world b fabric) (world c fabric') k r (beside a b fabric (Ok k) first)
      (renamed (λ names. loaded_watch_verdict names schedule observer (world c fabric') k) b.named a.named (world b fabric) (world c fabric') r first.keeps.files.named second))
