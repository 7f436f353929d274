-- A machine that stepped the code of a function stepped that of an equal one.
use Rattle.std.proofs.Common.{◌≡◌, ℕ, subst}
use Rattle.lt_norm.specs.Flat.{Originated}
use Rattle.lt_step.specs.Compile.{CodeOf}
use Rattle.lt_machine.specs.declared.step_machine.StepMachine.{StepMachine}
use Rattle.lt_evaluate.specs.Columns.{StepsFunction}

pub steps_at : {G : Type 0} (f g : Originated) → f ≡ g → (steps : ℕ) (m : StepMachine G) → CodeOf f.func m.code → m.made ≡ steps → StepsFunction g.func steps m
steps_at f g is steps m code made = record { code = subst (λ (h : Originated). CodeOf h.func m.code) is code; made = made }
