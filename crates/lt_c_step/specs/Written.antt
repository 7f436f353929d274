-- Words of the writer's contracts.
use Rattle.std.specs.Prelude.{ℕ, Bool, List, [], ◌∷◌, codes, nat_lt, if◌then◌else◌}
use Rattle.lt_base.specs.declared.operators.Un.{Un}
use Rattle.lt_base.specs.declared.operators.Un.TheVariants.{Neg, Not}
use Rattle.lt_base.specs.declared.operators.Bin.{Bin}
use Rattle.lt_base.specs.declared.operators.Bin.TheVariants.{Add, Sub, Mul, Div, Mod, Eq, Ne, Lt, Le, Gt, Ge, And, Or, Xor, Implies}
use Rattle.lt_base.specs.declared.operators.Imp.{Imp}
use Rattle.lt_base.specs.Meaning.{ClockPairs}
use Rattle.lt_c.specs.Text.{Spelling, helper_text, operator_text, conditions_text}
use Rattle.lt_c.specs.Tree.{h_add, h_sub, h_mul, h_div, h_mod, o_eq, o_ne, o_lt, o_le, o_gt, o_ge, o_and, o_or, Tree, c_join}
use Rattle.lt_c.specs.declared.calls.Calls.{Calls}
use Rattle.lt_c.specs.Uses.{no_calls, negating, calling, calls_and}
use Rattle.lt_c_step.specs.Translate.{of_imported}
use Rattle.lt_c_step.specs.Part.{of_condition}

-- what stands before the operands of an operator, and between them
abbrev pub before_one : Un → List ℕ
before_one Neg = codes "lt_neg("
before_one Not = codes "(!"

abbrev pub before_two : Bin → List ℕ
before_two Add = helper_text h_add
before_two Sub = helper_text h_sub
before_two Mul = helper_text h_mul
before_two Div = helper_text h_div
before_two Mod = helper_text h_mod
before_two Eq = codes "("
before_two Ne = codes "("
before_two Lt = codes "("
before_two Le = codes "("
before_two Gt = codes "("
before_two Ge = codes "("
before_two And = codes "("
before_two Or = codes "("
before_two Xor = codes "("
before_two Implies = codes "((!"

abbrev pub between : Bin → List ℕ
between Add = codes ", "
between Sub = codes ", "
between Mul = codes ", "
between Div = codes ", "
between Mod = codes ", "
between Eq = operator_text o_eq
between Ne = operator_text o_ne
between Lt = operator_text o_lt
between Le = operator_text o_le
between Gt = operator_text o_gt
between Ge = operator_text o_ge
between And = operator_text o_and
between Or = operator_text o_or
between Xor = operator_text o_ne
between Implies = codes ") || "

abbrev pub before_imported : Imp → List ℕ
before_imported o = helper_text (of_imported o)

-- what stands before the condition at this place
abbrev pub and_before : ℕ → List ℕ
and_before i = if nat_lt 0 i then codes " && " else []

-- conditions, of which there may be none yet
abbrev pub conditions_so_far : Spelling → ClockPairs → List ℕ
conditions_so_far nm [] = []
conditions_so_far nm (p ∷ ck) = conditions_text nm (p ∷ ck)

-- a condition behind those so far
abbrev pub next_clock : ℕ → Tree → ℕ → Bool → Tree
next_clock i all c b = if nat_lt 0 i then c_join o_and all (of_condition c b) else of_condition c b

-- the calls of an operator with those of its operand
abbrev pub unary_calls : Un → Calls → Calls
unary_calls Neg c = calls_and negating c
unary_calls Not c = c

-- the calls of an operator, beside those of its operands
abbrev pub binary_calls : Bin → Calls
binary_calls Add = calling h_add
binary_calls Sub = calling h_sub
binary_calls Mul = calling h_mul
binary_calls Div = calling h_div
binary_calls Mod = calling h_mod
binary_calls Eq = no_calls
binary_calls Ne = no_calls
binary_calls Lt = no_calls
binary_calls Le = no_calls
binary_calls Gt = no_calls
binary_calls Ge = no_calls
binary_calls And = no_calls
binary_calls Or = no_calls
binary_calls Xor = no_calls
binary_calls Implies = no_calls
