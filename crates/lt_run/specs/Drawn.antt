-- What a loaded program comes to along a list of events.
use Rattle.std.specs.Prelude.{◌≡◌, IsTrue, List, Result, IfOk}
use Rattle.lt_base.specs.Inputs.{InputTable}
use Rattle.lt_arch.specs.declared.event.Event.{Event}
use Rattle.lt_arch.specs.declared.shape.Shape.{Shape}
use Rattle.lt_arch.specs.declared.timing.Timing.{Timing}
use Rattle.lt_arch.specs.declared.pace.Pace.TheVariants.{Plain}
use Rattle.lt_io.specs.Counts.{LinkCounted}
use Rattle.lt_io.specs.FabricState.{FabricState, KeepsPromises, OpensOnce}
use Rattle.lt_io.specs.declared.fault.LinkErr.{LinkErr}
use Rattle.lt_place.specs.declared.layout.Layout.{Layout}
use Rattle.lt_front.specs.Checked.{CheckedText}
use Rattle.lt_load.specs.Plan.{LoadedPlan}
use Rattle.lt_evaluate.specs.declared.outputs.Outputs.{Outputs}
use Rattle.lt_run.specs.declared.printed.Printed.{Printed}
use Rattle.lt_run.specs.Printed.{ShowsAt}
use Rattle.lt_run.specs.Run.{OutputsShow}

-- a program on its nodes, where no node leads and no message is lost
abbrev pub plainly : CheckedText → Layout → Shape → Timing → InputTable → LoadedPlan
plainly checked l s t inputs = record { checked = checked; layout = l; shape = s; timing = t; inputs = inputs; pace = Plain }

-- it took the list to its end, and of what it answers this holds; or a call on the fabric failed, or memory was wanting
pub record TakesList {T : Type 0} (end : T → Type 0) (fabric fabric' : FabricState) (result : Result T LinkErr) : Type 0 where
  pub comes_to : IfOk result end
  pub cause : LinkCounted fabric.faults fabric'.faults result
  -- the count of a sound fabric stays
  pub sound : IsTrue fabric.sound → fabric'.faults ≡ fabric.faults
  pub keeps : KeepsPromises fabric fabric'
  -- the fabric was opened at most once, and once where the list was taken
  pub opens : OpensOnce fabric fabric' result

-- the outputs show it
abbrev pub HasRunList : (k : LoadedPlan) → List Event → (fabric fabric' : FabricState) → Result Outputs LinkErr → Type 0
HasRunList k events fabric fabric' result =
    TakesList (λ (outputs : Outputs). OutputsShow k.checked.program k.layout k.shape k.timing Plain k.inputs.rows fabric' events outputs) fabric fabric' result

-- so do names and cells beside the machines
abbrev pub HasPrintedList : {M : Type 0} (k : LoadedPlan) → List Event → (fabric fabric' : FabricState) → Result (Printed M) LinkErr → Type 0
HasPrintedList {M = M} k events fabric fabric' result =
    TakesList (λ (x : Printed M). ShowsAt k.checked.program k.layout k.shape k.timing Plain k.inputs.rows fabric' events x.names x.cells x.horizon) fabric fabric' result
