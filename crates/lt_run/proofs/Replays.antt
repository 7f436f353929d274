-- What a replay answers, in the words of what its value shows.
use Rattle.std.proofs.Common.{◌≡◌, ◌∙◌, ℕ, List, Option, Some, None, Result, Ok, Err, false, refl, ap, subst, sym}
use Rattle.std.specs.Prelude.{IsErrAnd, IsTrue, length}
use Rattle.lt_base.specs.declared.memory.Or.{Or}
use Rattle.lt_base.specs.declared.memory.Or.TheVariants.{Fault, Memory}
use Rattle.lt_base.specs.declared.value.Value.{Value}
use Rattle.lt_base.specs.declared.value.Cell.{Cell}
use Rattle.lt_base.specs.Program.{Function, GoodProgram}
use Rattle.lt_arch.specs.declared.shape.Shape.{Shape}
use Rattle.lt_arch.specs.declared.timing.Timing.{Timing}
use Rattle.lt_io.specs.Visits.{Errand}
use Rattle.lt_io.proofs.Visiting.{visited_any}
use Rattle.lt_io.specs.FilesState.{FilesState}
use Rattle.lt_io.specs.FabricState.{FabricState}
use Rattle.lt_arch.specs.declared.pace.Pace.{Pace}
use Rattle.lt_arch.specs.declared.pace.Pace.TheVariants.{Plain, Lossy, Leader}
use Rattle.lt_base.specs.Behaviour.{RowsFit}
use Rattle.lt_norm.specs.Flat.{Originated}
use Rattle.lt_place.specs.declared.layout.Layout.{Layout}
use Rattle.lt_place.specs.Layout.{IsPlaced}
use Rattle.lt_answer.specs.World.{World, world}
use Rattle.lt_answer.specs.Answered.{Answered, RefusesReading}
use Rattle.lt_answer.proofs.Stages.{opens_none, runs_short}
use Rattle.lt_net_bench.specs.Starts.{AreReady}
use Rattle.lt_net.specs.declared.replayed.Replayed.{Replayed}
use Rattle.lt_net_start.specs.declared.plan.NetPlan.{NetPlan}
use Rattle.lt_front.specs.Checked.{IsChecked}
use Rattle.lt_load_fit.specs.Main.{main_in}
use Rattle.lt_load.specs.Plan.{LoadedPlan, IsLoaded}
use Rattle.lt_evaluate.specs.Main.{output_names}
use Rattle.lt_run.specs.declared.fault.RunFault.{RunFault}
use Rattle.lt_run.specs.declared.fault.RunFault.TheVariants.{Read}
use Rattle.lt_run.specs.declared.printed.Printed.{Printed}
use Rattle.lt_run.specs.Fault.{run_blame}
use Rattle.lt_run.specs.Kinds.{EventsBy, RunEndsBy, HasStepsBy, IsRunBy, ExactBy, CrossesBy, fault_by, run_file_verdict, got_by, verdict_by}
use Rattle.lt_run.specs.Printed.{HasPrinted, HasTaken, IsReplayBy, ReplayShows, ShowsAt}
use Rattle.lt_run.proofs.Prefixes.{columns, shows}
use Rattle.lt_machine.specs.declared.machine.Machine.{Ghosts as Machines}

module _ {E F T U : Type 0} (raise : F → RunFault) (end : E → T → Type 0) (end' : E → U → Type 0) where
  ends_with : (v : Result E F) (x : T) (y : U) → ((events : E) → end events x → end' events y) → RunEndsBy raise end v (Ok x) → RunEndsBy raise end' v (Ok y)
  ends_with (Ok events) x y too ends = too events ends
  ends_with (Err f) x y too ends = absurd (cc)

  refused_with : (v : Result E F) (e : RunFault) → RunEndsBy raise end v (Err e) → RunEndsBy raise end' v (Err e)
  refused_with (Ok events) e ends = ends
  refused_with (Err f) e ends = let same : e ≡ raise f = cc in ap (λ (d : RunFault). Err d) same

module _ {T U : Type 0} (pace : Pace) (end : EventsBy pace → T → Type 0) (end' : EventsBy pace → U → Type 0) (s : Shape) (t : Timing) (rows : ℕ) where
  value_too : (file : Option (List ℕ)) (x : T) (y : U) → ((events : EventsBy pace) → end events x → end' events y) → run_file_verdict pace end s t rows file (Ok x) → run_file_verdict pace end' s t rows file (Ok y)
  unfolding run_file_verdict
  value_too None x y too right = absurd (cc)
  value_too (Some bytes) x y too right = ends_with (fault_by pace) end end' (verdict_by pace s t rows bytes) x y too right

  fault_too : (file : Option (List ℕ)) (e : RunFault) → run_file_verdict pace end s t rows file (Err e) → run_file_verdict pace end' s t rows file (Err e)
  unfolding run_file_verdict
  fault_too None e right = let same : e ≡ Read = cc in ap (λ (d : RunFault). Err d) same
  fault_too (Some bytes) e right = refused_with (fault_by pace) end end' (verdict_by pace s t rows bytes) e right

  module _ (file : Option (List ℕ)) (a b : World) where
    reading_too : RefusesReading run_blame (run_file_verdict pace end s t rows file) → RefusesReading run_blame (run_file_verdict pace end' s t rows file)
    reading_too reading = (reading.0, reading.1, fault_too file reading.0 reading.2)

    -- another value of which the same events say what it shows
    pub answered_value : {es : List Errand} (x : T) (y : U) → ((events : EventsBy pace) → end events x → end' events y) → Answered run_blame es (run_file_verdict pace end s t rows file) a b (Ok x) → Answered run_blame es (run_file_verdict pace end' s t rows file) a b (Ok y)
    answered_value x y too first = record {
      keeps = first.keeps;
      visits = first.visits;
      cause = first.cause;
      exact = λ told calm. value_too file x y too (first.exact told calm);
      sound = λ told sound rose. reading_too (first.sound told sound rose);
    }

    -- no memory for it
    pub answered_short : {es : List Errand} (x : T) → Answered run_blame es (run_file_verdict pace end s t rows file) a b (Ok x) → Answered run_blame es (run_file_verdict pace end' s t rows file) a b (Err Memory)
    answered_short {es} x first = record { keeps = first.keeps; visits = visited_any es a.files.visits b.files.visits false first.visits; cause = first.cause; exact = λ told calm. tt; sound = λ told sound rose. reading_too (first.sound told sound rose) }

    -- a refusal
    pub answered_fault : {es : List Errand} (e : Or RunFault) → Answered run_blame es (run_file_verdict pace end s t rows file) a b (Err e) → Answered run_blame es (run_file_verdict pace end' s t rows file) a b (Err e)
    answered_fault (Fault e) first = record {
      keeps = first.keeps;
      visits = first.visits;
      cause = first.cause;
      exact = λ told calm. fault_too file e (first.exact told calm);
      sound = λ told sound rose. reading_too (first.sound told sound rose);
    }
    answered_fault Memory first = record { keeps = first.keeps; visits = first.visits; cause = first.cause; exact = λ told calm. tt; sound = λ told sound rose. reading_too (first.sound told sound rose) }

-- a replay of what was loaded

module _ {M : Type 0} (mch : Machines M) (k : LoadedPlan) (name : List ℕ) (files files' : FilesState) (fabric fabric' : FabricState) where
  abbrev Takes : Result (Replayed M) (Or RunFault) → Type 0
  Takes r = HasTaken mch k.pace k.layout k.shape k.timing k.inputs.rows name files files' fabric fabric' r

  abbrev Prints : Result (Printed M) (Or RunFault) → Type 0
  Prints r = HasPrinted mch k name files files' fabric fabric' r

  abbrev taken_end : EventsBy k.pace → Replayed M → Type 0
  taken_end = IsReplayBy mch k.pace k.layout k.shape k.timing k.inputs.rows fabric'

  abbrev printed_end : EventsBy k.pace → Printed M → Type 0
  printed_end = ReplayShows mch k.checked.program k.layout k.shape k.timing k.pace k.inputs.rows fabric'

  -- it was refused
  pub not_replayed : (e : Or RunFault) (r : Result (Printed M) (Or RunFault)) → IsErrAnd r (λ f. f ≡ e) → Takes (Err e) → Prints r
  not_replayed e (Ok x) is takes = absurd is
  not_replayed e (Err f) is takes =
      let told : Prints (Err e) = record {
        answered = answered_fault k.pace taken_end printed_end k.shape k.timing (length k.inputs.rows) (files.named name) (world files fabric) (world files' fabric') e takes.answered;
        ended = tt;
        near = takes.near;
        opens = record { calls = takes.opens.calls; done = tt };
        layout = tt;
      } in
      subst (λ (g : Or RunFault). Prints (Err g)) (sym is) told

  -- no memory was found for the names
  pub not_named : (x : Replayed M) (r : Result (Printed M) (Or RunFault)) → IsErrAnd r (λ f. f ≡ Memory) → Takes (Ok x) → Prints r
  not_named x (Ok y) is takes = absurd is
  not_named x (Err f) is takes =
      let told : Prints (Err Memory) = record {
        answered = answered_short k.pace taken_end printed_end k.shape k.timing (length k.inputs.rows) (files.named name) (world files fabric) (world files' fabric') x takes.answered;
        ended = tt;
        near = λ told. tt;
        opens = record { calls = takes.opens.calls; done = tt };
        layout = tt;
      } in
      subst (λ (g : Or RunFault). Prints (Err g)) (sym is) told

  -- it is shown by name
  pub named : (x : Replayed M) (y : Printed M) → ((events : EventsBy k.pace) → taken_end events x → printed_end events y) → y.layout ≡ x.layout → Takes (Ok x) → Prints (Ok y)
  named x y too same takes = record {
    answered = answered_value k.pace taken_end printed_end k.shape k.timing (length k.inputs.rows) (files.named name) (world files fabric) (world files' fabric') x y too takes.answered;
    ended = (takes.ended.0, too takes.ended.0 takes.ended.1);
    near = λ told. tt;
    opens = record { calls = takes.opens.calls; done = takes.opens.done };
    layout = same ∙ takes.layout;
  }

-- the setup of what was loaded
abbrev pub setup_in : LoadedPlan → NetPlan
setup_in k = record { layout = k.layout; shape = k.shape; timing = k.timing }

-- with an equal setup it is the same
pub with_setup : (k : LoadedPlan) (s : NetPlan) → s ≡ setup_in k → record { checked = k.checked; layout = s.layout; shape = s.shape; timing = s.timing; inputs = k.inputs; pace = k.pace } ≡ k
with_setup k s is = ap (λ (z : NetPlan). record { checked = k.checked; layout = z.layout; shape = z.shape; timing = z.timing; inputs = k.inputs; pace = k.pace }) is

-- no memory was found for a setup
pub not_set_up : {M : Type 0} (mch : Machines M) (k : LoadedPlan) (name : List ℕ) (files : FilesState) (fabric : FabricState) (r : Result (Printed M) (Or RunFault))
    → IsErrAnd r (λ f. f ≡ Memory) → HasPrinted mch k name files files fabric fabric r
not_set_up mch k name files fabric (Ok x) is = absurd is
not_set_up mch k name files fabric (Err f) is =
    subst (λ (g : Or RunFault). HasPrinted mch k name files files fabric fabric (Err g)) (sym is) (record { answered = runs_short (world files fabric); ended = tt; near = λ told. tt; opens = record { calls = opens_none fabric; done = tt }; layout = tt })

-- the same of an equal plan
pub prints_at : {M : Type 0} (mch : Machines M) (k l : LoadedPlan) → k ≡ l → (name : List ℕ) (files files' : FilesState) (fabric fabric' : FabricState) (r : Result (Printed M) (Or RunFault))
    → HasPrinted mch k name files files' fabric fabric' r → HasPrinted mch l name files files' fabric fabric' r
prints_at mch k l is name files files' fabric fabric' r has = subst (λ (m : LoadedPlan). HasPrinted mch m name files files' fabric fabric' r) is has

-- machines that are ready for an equal plan
pub ready_at : {M : Type 0} (mch : Machines M) (k l : LoadedPlan) → k ≡ l → (machines : List M) → AreReady mch k.layout (length k.inputs.rows) machines → AreReady mch l.layout (length l.inputs.rows) machines
ready_at mch k l is machines ready = subst (λ (m : LoadedPlan). AreReady mch m.layout (length m.inputs.rows) machines) is ready

-- what a run says of its messages, by who paces its rounds

module _ (l : Layout) (s : Shape) (t : Timing) (inputs : List (List Value)) (fabric : FabricState) (cells : List (List Cell)) (horizon : ℕ) where
  exact_by : (pace : Pace) (events : EventsBy pace) → IsRunBy pace l s t inputs fabric events cells horizon → ExactBy pace s t (length inputs) events
  exact_by Plain events run = run.exact
  exact_by (Lossy losses) events run = tt
  exact_by (Leader leader) events run = run.exact

  crosses_by : (pace : Pace) (events : EventsBy pace) (run : IsRunBy pace l s t inputs fabric events cells horizon) (f : Originated) → IsPlaced f l → RowsFit f.func inputs → IsTrue fabric.faithful → CrossesBy pace f.func l s t inputs fabric events cells horizon run
  crosses_by Plain events run f placed fit faithful = run.crosses f placed fit faithful
  crosses_by (Lossy losses) events run f placed fit faithful = tt
  crosses_by (Leader leader) events run f placed fit faithful = run.crosses f placed fit faithful

-- what a replay's cells show by the names of the outputs

module _ {M : Type 0} (mch : Machines M) (k : LoadedPlan) (good : GoodProgram k.checked.program) (checked : IsChecked k.checked) (loaded : IsLoaded k) (fabric : FabricState) where
  abbrev outputs_shown : (events : EventsBy k.pace) (names : List (List ℕ)) (machines : List M) (cells : List (List Cell)) (horizon : ℕ) → Type 0
  outputs_shown events names machines cells horizon =
      (shown : ShowsAt k.checked.program k.layout k.shape k.timing k.pace k.inputs.rows fabric events names cells horizon)
      × HasStepsBy mch k.pace k.layout k.shape k.timing k.inputs.rows events shown.got machines

  pub shows_too : (x : Replayed M) (y : Printed M) → y.names ≡ output_names k.checked.program → y.cells ≡ x.cells → y.horizon ≡ x.horizon → y.machines ≡ x.machines → (events : EventsBy k.pace) → IsReplayBy mch k.pace k.layout k.shape k.timing k.inputs.rows fabric events x
      → ReplayShows mch k.checked.program k.layout k.shape k.timing k.pace k.inputs.rows fabric events y
  shows_too x y names cells horizon machines events r =
      let here : outputs_shown events y.names x.machines x.cells x.horizon = (
        record {
          run = r.run;
          got = got_by k.pace k.layout k.shape k.timing k.inputs.rows fabric events x.cells x.horizon r.run;
          got_is = refl;
          shown = shows k.checked.program good k.checked.flat checked.keeps k.layout loaded.placed k.shape k.timing k.inputs.rows loaded.rows_fit fabric k.pace loaded.paced events x.cells x.horizon r.run y.names names;
          exact = exact_by k.layout k.shape k.timing k.inputs.rows fabric x.cells x.horizon k.pace events r.run;
          crosses = λ faithful.
              subst (λ (f : Originated). CrossesBy k.pace f.func k.layout k.shape k.timing k.inputs.rows fabric events x.cells x.horizon r.run) checked.flat
              (crosses_by k.layout k.shape k.timing k.inputs.rows fabric x.cells x.horizon k.pace events r.run k.checked.flat loaded.placed loaded.rows_fit faithful);
        },
        r.steps,
      ) in
      let with_machines = subst (λ (ms : List M). outputs_shown events y.names ms x.cells x.horizon) (sym machines) here in
      let with_cells = subst (λ (cs : List (List Cell)). outputs_shown events y.names y.machines cs x.horizon) (sym cells) with_machines in
      let there = subst (λ (h : ℕ). outputs_shown events y.names y.machines y.cells h) (sym horizon) with_cells in
      record { shows = there.0; steps = there.1 }

  -- there is a column for each output
  pub has_columns : (x : Replayed M) → ((events : EventsBy k.pace) × IsReplayBy mch k.pace k.layout k.shape k.timing k.inputs.rows fabric events x) → length x.cells ≡ length (main_in k.checked.program).outs
  has_columns x ended =
      columns k.checked.program good k.checked.flat checked.keeps k.layout loaded.placed k.shape k.timing k.inputs.rows loaded.rows_fit fabric k.pace ended.0 x.cells x.horizon ended.1.run
