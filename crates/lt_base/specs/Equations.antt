-- Lists of equations: which left sides stand in them, and what was appended.
use Rattle.std.specs.Prelude.{◌≡◌, ℕ, ◌&&◌, nat_eq, nat_le, nat_lt, Some, List, [], ◌∷◌, ◌++◌, if◌then◌else◌}
use Rattle.std.specs.List.{count_by}
use Rattle.lt_base.specs.declared.function.Decl.{Decl}
use Rattle.lt_base.specs.Expression.{Expression}
use Rattle.lt_base.specs.Program.{Function}
use Rattle.lt_base.specs.Meaning.{right_of}

-- how many of these equations are those of the variable
abbrev pub left_count : ℕ → List (ℕ × Expression) → ℕ
left_count x eqs = count_by (λ e. nat_eq x e.0) eqs

-- 1 for a number from low to below high, and 0 for another
abbrev pub inside : ℕ → ℕ → ℕ → ℕ
inside low high x = if nat_le low x && nat_lt x high then 1 else 0

-- each of these equations is its variable's in the function
abbrev pub EquationsIn : Function → List (ℕ × Expression) → Type 0
EquationsIn f [] = Unit {0}
EquationsIn f (q ∷ eqs) = (right_of f.eqs q.0 ≡ Some q.1) × EquationsIn f eqs

-- a fact of each right side
abbrev pub EachRight : (Expression → Type 0) → List (ℕ × Expression) → Type 0
EachRight P [] = Unit {0}
EachRight P (q ∷ eqs) = P q.1 × EachRight P eqs

-- these declarations and equations were appended
pub record Appended (decls : List Decl) (eqs : List (ℕ × Expression)) (more : List Decl) (new : List (ℕ × Expression)) (decls' : List Decl) (eqs' : List (ℕ × Expression)) : Type 0 where
  pub decls_are : decls' ≡ decls ++ more
  pub eqs_are : eqs' ≡ eqs ++ new
