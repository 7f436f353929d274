-- A run of the large input: what is right of it, given what the fabric holds at its end.
use Rattle.std.specs.Prelude.{◌≡◌, ◌<◌, ◌≤◌, ℕ, List, [], ◌∷◌, Option, length, Ok, Err, codes}
use Rattle.lt_base.specs.declared.value.Value.{Value}
use Rattle.lt_base.specs.Program.{WholeProgram}
use Rattle.lt_arch.specs.declared.event.Event.{Event}
use Rattle.lt_arch.specs.declared.shape.Shape.{Shape}
use Rattle.lt_arch.specs.declared.timing.Timing.{Timing}
use Rattle.lt_io.specs.FabricState.{FabricState}
use Rattle.lt_io.specs.MemFiles.{lookup}
use Rattle.lt_io.specs.declared.mem_files.MemFile.{MemFile}
use Rattle.lt_place.specs.declared.layout.Layout.{Layout}
use Rattle.lt_arch.specs.declared.pace.Pace.TheVariants.{Plain}
use Rattle.lt_rows.specs.Limits.{most_events}
use Rattle.lt_answer.specs.Answered.{Verdict, AndThen}
use Rattle.lt_load_fit.specs.declared.fault.CommandFault.{CommandFault}
use Rattle.lt_load_fit.specs.Rows.{too_many_events}
use Rattle.lt_load.specs.Plan.{Plan}
use Rattle.lt_load.specs.Pacing.{plain_load_verdict}
use Rattle.lt_evaluate.specs.declared.outputs.Outputs.{Outputs}
use Rattle.lt_run.specs.Run.{IsLaidOutBy, OutputsShow}
use Rattle.lt_sim.specs.Drawn.{drawn}
use Rattle.lt_big_texts.specs.Texts.{program_text, setup_text, inputs_text, horizon_of}

-- the files of so many instants
abbrev pub files_of : (instants : ℕ) → List MemFile
files_of instants =
    record { name = codes "program"; bytes = program_text }
    ∷ record { name = codes "setup"; bytes = setup_text }
    ∷ record { name = codes "inputs"; bytes = inputs_text instants }
    ∷ []

-- their bytes, by their names
abbrev pub named_of : (instants : ℕ) → (name : List ℕ) → Option (List ℕ)
named_of instants name = lookup (files_of instants) name

-- what they are loaded as, where no node leads
unfoldable pub big_loaded_verdict : (instants : ℕ) → Verdict Plan CommandFault
big_loaded_verdict instants = plain_load_verdict (named_of instants) (codes "program") (codes "inputs") (codes "setup")

-- the list of events: the number of instants is the seed
abbrev pub events_of : (instants : ℕ) → Shape → Timing → (rows : ℕ) → List Event
events_of instants s t rows = drawn s t rows instants (horizon_of instants)

-- what the outputs of a program on these nodes show of the list, which is no longer than a schedule may be and ends at the horizon
pub record ShowsList (instants : ℕ) (fabric : FabricState) (p : WholeProgram) (l : Layout) (s : Shape) (t : Timing) (inputs : List (List Value)) (outputs : Outputs) : Type 0 where
  pub few : length (events_of instants s t (length inputs)) ≤ most_events
  pub shows : OutputsShow p l s t Plain inputs fabric (events_of instants s t (length inputs)) outputs
  pub at_horizon : shows.horizon ≡ horizon_of instants

-- a program on these nodes along the list: what its outputs show of it, unless it has more events than a schedule may have
abbrev pub played_verdict : (instants : ℕ) → FabricState → WholeProgram → Layout → Shape → Timing → (inputs : List (List Value)) → Verdict Outputs CommandFault
played_verdict instants fabric p l s t inputs (Ok outputs) = ShowsList instants fabric p l s t inputs outputs
played_verdict instants fabric p l s t inputs (Err e) = (most_events < length (events_of instants s t (length inputs))) × (e ≡ too_many_events)

-- the same of a plan, on its nodes
unfoldable pub big_along_verdict : (instants : ℕ) → FabricState → Plan → Verdict Outputs CommandFault
big_along_verdict instants fabric plan outcome =
    (l : Layout) × (s : Shape) × IsLaidOutBy plan l s × played_verdict instants fabric plan.checked.program l s plan.setup.timing plan.inputs.rows outcome

-- the files, and then the list that is drawn for them
unfoldable pub big_verdict : (instants : ℕ) → FabricState → Verdict Outputs CommandFault
big_verdict instants fabric = AndThen (big_loaded_verdict instants) (λ plan. big_along_verdict instants fabric plan)

-- where it is refused, the fabric is as it was
abbrev pub LeavesRefused : (instants : ℕ) → (old new : FabricState) → Type 0
LeavesRefused instants old new = (e : CommandFault) → big_verdict instants new (Err e) → new ≡ old
