-- What is right of the inputs of equal programs.
use Rattle.std.proofs.Common.{◌≡◌, ℕ, List, Option, Result, subst}
use Rattle.lt_base.specs.declared.memory.Or.{Or}
use Rattle.lt_base.specs.Inputs.{InputTable}
use Rattle.lt_base.specs.Program.{WholeProgram}
use Rattle.lt_io.specs.Visits.{Errand}
use Rattle.lt_answer.specs.World.{World}
use Rattle.lt_answer.specs.Answered.{Answered}
use Rattle.lt_base.specs.Main.{InputsFitMain}
use Rattle.lt_load_fit.specs.declared.fault.CommandFault.{CommandFault}
use Rattle.lt_load.specs.Blamed.{command_blame}
use Rattle.lt_load.specs.Loaded.{inputs_verdict}

pub inputs_at : {es : List Errand} (p q : WholeProgram) → p ≡ q → (file : Option (List ℕ)) (a b : World) (r : Result InputTable (Or CommandFault)) → Answered command_blame es (inputs_verdict p file) a b r → Answered command_blame es (inputs_verdict q file) a b r
inputs_at {es} p q is file a b r answered = subst (λ (t : WholeProgram). Answered command_blame es (inputs_verdict t file) a b r) is answered

pub fit_at : (p q : WholeProgram) → p ≡ q → (table : InputTable) → InputsFitMain p table → InputsFitMain q table
fit_at p q is table fit = subst (λ (t : WholeProgram). InputsFitMain t table) is fit
