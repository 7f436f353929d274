-- Which C stands for step code.
use Rattle.std.specs.Prelude.{false, List, [], ◌∷◌}
use Rattle.lt_base.specs.declared.operators.Un.{Un}
use Rattle.lt_base.specs.declared.operators.Un.TheVariants.{Neg, Not}
use Rattle.lt_base.specs.declared.operators.Bin.{Bin}
use Rattle.lt_base.specs.declared.operators.Bin.TheVariants.{Add, Sub, Mul, Div, Mod, Eq, Ne, Lt, Le, Gt, Ge, And, Or, Xor, Implies}
use Rattle.lt_base.specs.declared.operators.Imp.{Imp}
use Rattle.lt_base.specs.declared.operators.Imp.TheVariants.{Min, Max, Gcd}
use Rattle.lt_base.specs.Expression.{Expression, literal, variable, unary, binary, imported, choose, sampled, merged, delayed, follow, arrow, call}
use Rattle.lt_base.specs.Meaning.{ClockPairs}
use Rattle.lt_step.specs.Code.{LetForm, KeepForm}
use Rattle.lt_c.specs.Literals.{of_value}
use Rattle.lt_c.specs.Tree.{slot, Helper, h_add, h_sub, h_mul, h_div, h_mod, h_min, h_max, h_gcd, o_eq, o_ne, o_lt, o_le, o_gt, o_ge, o_and, o_or, Tree, c_truth, c_var, c_negate, c_call, c_not, c_join, c_choice, Statement, assign, only, both, nothing}

-- an operator of the language: a call of a function at the head, or an operator of C
abbrev pub of_unary : Un → Tree → Tree
of_unary Neg a = c_negate a
of_unary Not a = c_not a

abbrev pub of_binary : Bin → Tree → Tree → Tree
of_binary Add a b = c_call h_add a b
of_binary Sub a b = c_call h_sub a b
of_binary Mul a b = c_call h_mul a b
of_binary Div a b = c_call h_div a b
of_binary Mod a b = c_call h_mod a b
of_binary Eq a b = c_join o_eq a b
of_binary Ne a b = c_join o_ne a b
of_binary Lt a b = c_join o_lt a b
of_binary Le a b = c_join o_le a b
of_binary Gt a b = c_join o_gt a b
of_binary Ge a b = c_join o_ge a b
of_binary And a b = c_join o_and a b
of_binary Or a b = c_join o_or a b
of_binary Xor a b = c_join o_ne a b
of_binary Implies a b = c_join o_or (c_not a) b

abbrev pub of_imported : Imp → Helper
of_imported Min = h_min
of_imported Max = h_max
of_imported Gcd = h_gcd

-- an operand. Step code has neither delays nor calls
abbrev pub of_expression : Expression → Tree
of_expression (literal v) = of_value v
of_expression (variable x) = c_var (slot x)
of_expression (unary o a) = of_unary o (of_expression a)
of_expression (binary o a b) = of_binary o (of_expression a) (of_expression b)
of_expression (imported o a b) = c_call (of_imported o) (of_expression a) (of_expression b)
of_expression (choose c a b) = c_choice (of_expression c) (of_expression a) (of_expression b)
of_expression (sampled e c b) = of_expression e
of_expression (merged c a b) = c_choice (c_var (slot c)) (of_expression a) (of_expression b)
of_expression (delayed v e) = c_truth false
of_expression (follow a b) = c_truth false
of_expression (arrow a b) = c_truth false
of_expression (call g args) = c_truth false

-- a statement at the instants of a clock
abbrev pub under : ClockPairs → Statement → Statement
under [] s = s
under (p ∷ ck) s = only (p ∷ ck) s

-- a let and a keep: an assignment at the instants of the guard
abbrev pub of_let : LetForm → Statement
of_let l = under l.guard (assign (slot l.slot) (of_expression l.operand))

abbrev pub of_keep : KeepForm → Statement
of_keep k = under k.guard (assign (slot k.slot) (of_expression k.operand))

-- all of them, in order
abbrev pub of_lets : List LetForm → Statement
of_lets [] = nothing
of_lets (l ∷ ls) = both (of_let l) (of_lets ls)

abbrev pub of_keeps : List KeepForm → Statement
of_keeps [] = nothing
of_keeps (k ∷ ks) = both (of_keep k) (of_keeps ks)

-- before the first instant
abbrev pub of_firsts : List KeepForm → Statement
of_firsts [] = nothing
of_firsts (k ∷ ks) = both (assign (slot k.slot) (of_value k.first)) (of_firsts ks)
