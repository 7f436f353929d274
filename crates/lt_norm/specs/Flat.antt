-- Flat functions: no call, no `->`, and each delay alone on a right side.
use Rattle.std.specs.Prelude.{ℕ, List}
use Rattle.std.proofs.Common.{refl}
use Rattle.std.specs.List.{All}
use Rattle.std.specs.Coded.{Coded, code_by, coded×, coded_ℕ, coded_list}
use Rattle.lt_base.specs.Expression.{Expression, literal, variable, unary, binary, imported, choose, sampled, merged, delayed, follow, arrow, call}
use Rattle.lt_base.specs.Program.{Function, coded_function}

-- neither a call nor a delay of any form, and no `->`
abbrev pub Direct : Expression → Type 0
Direct (literal v) = Unit {0}
Direct (variable x) = Unit {0}
Direct (unary o a) = Direct a
Direct (binary o a b) = Direct a × Direct b
Direct (imported o a b) = Direct a × Direct b
Direct (choose c a b) = Direct c × Direct a × Direct b
Direct (sampled e c b) = Direct e
Direct (merged c a b) = Direct a × Direct b
Direct (delayed v e) = ⊥
Direct (follow a b) = ⊥
Direct (arrow a b) = ⊥
Direct (call g args) = ⊥

-- a right side: direct, or one delay with a literal of what is direct
abbrev pub FlatRight : Expression → Type 0
FlatRight (delayed v a) = Direct a
FlatRight e = Direct e

-- every right side is flat
abbrev pub FlatFunction : Function → Type 0
FlatFunction f = All (λ q. FlatRight q.1) f.eqs

-- a function, and for each of its variables the variable of the program in whose equation it arose
pub record Originated : Type 0 where
  pub func : Function
  pub origin : List ℕ

abbrev pub coded_originated : Coded Originated
coded_originated =
    code_by (Function × List ℕ) (coded× coded_function (coded_list coded_ℕ)) (λ f. (f.func, f.origin)) (λ p. record { func = p.0; origin = p.1 }) (λ _. refl)
