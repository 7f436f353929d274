-- The types of slots: a variable of the type bool holds 0 or 1 also in step code.
use Rattle.std.specs.Prelude.{◌≡◌, ℕ, Some}
use Rattle.std.specs.List.{AllByRecursion}
use Rattle.lt_base.specs.declared.value.Ty.{Ty}
use Rattle.lt_base.specs.Value.{ty_of}
use Rattle.lt_base.specs.Program.{Function}
use Rattle.lt_base.specs.Typing.{ty_at}
use Rattle.lt_step.specs.Code.{StepCode}
use Rattle.lt_step.specs.Compile.{CodeOf}
use Rattle.lt_c.specs.Truths.{Types, AssignsTruths}
use Rattle.lt_c_step.specs.Translate.{of_lets, of_keeps, of_firsts}

-- slots have the types of the function's variables, and those of delays that of what they begin with
pub record SlotsTyped (f : Function) (c : StepCode) (ts : Types) : Type 0 where
  pub variables : (x : ℕ) (t : Ty) → ty_at f.decls x ≡ Some t → ts.slot_type x ≡ t
  pub delays : AllByRecursion (λ k. ts.slot_type k.slot ≡ ty_of k.first) c.keeps

-- then truth values alone are assigned to bools
pub record StepAssignsTruths (c : StepCode) (ts : Types) : Type 0 where
  pub firsts : AssignsTruths ts (of_firsts c.keeps)
  pub lets : AssignsTruths ts (of_lets c.lets)
  pub keeps : AssignsTruths ts (of_keeps c.keeps)

abbrev pub StepsAssignTruths : Type 0
StepsAssignTruths = (f : Function) (c : StepCode) → CodeOf f c → (ts : Types) → SlotsTyped f c ts → StepAssignsTruths c ts
