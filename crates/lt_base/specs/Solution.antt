-- Environments that obey a function's equations.
use Rattle.std.specs.Prelude.{◌≡◌, ℕ, ◌<◌, length, true, Option, Some, None, List, [], ◌∷◌}
use Rattle.lt_base.specs.Expression.{Expression}
use Rattle.lt_base.specs.declared.function.Decl.{Decl}
use Rattle.lt_base.specs.Program.{Function}
use Rattle.lt_base.specs.Meaning.{Environment, Row, Callee, clock_of, right_of, entry, present, value_of}

-- a fact where there is no equation, and another where there is one
abbrev pub Given : Option Expression → Type 0 → (Expression → Type 0) → Type 0
Given None P Q = P
Given (Some e) P Q = Q e

-- a variable's equation holds at an instant at which the variable is present
abbrev pub Obeys : Callee → Function → List Environment → Row → Environment → ℕ → Type 0
Obeys callee f past row env x =
    Given (right_of f.eqs x) (env x ≡ entry row x) (λ e. present env (clock_of f.decls x) ≡ true → env x ≡ value_of callee e (clock_of f.decls x) past env)

-- newest first, an environment for each row, in which each equation holds
abbrev pub Solves : Callee → Function → List Environment → List Row → Type 0
Solves callee f [] [] = Unit {0}
Solves callee f [] (row ∷ rows) = ⊥
Solves callee f (env ∷ past) [] = ⊥
Solves callee f (env ∷ past) (row ∷ rows) = ((x : ℕ) → x < length f.decls → Obeys callee f past row env x) × Solves callee f past rows

-- the same value of each variable that is present
abbrev pub Same : List Decl → Environment → Environment → Type 0
Same ds env env' = (x : ℕ) → x < length ds → present env (clock_of ds x) ≡ true → env x ≡ env' x

-- the same at every instant
abbrev pub AllSame : List Decl → List Environment → List Environment → Type 0
AllSame ds [] [] = Unit {0}
AllSame ds [] (env' ∷ past') = ⊥
AllSame ds (env ∷ past) [] = ⊥
AllSame ds (env ∷ past) (env' ∷ past') = Same ds env env' × AllSame ds past past'
