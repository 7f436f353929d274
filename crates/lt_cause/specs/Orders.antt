-- The order of a function's equations, and the cycle that refuses one.
use Rattle.std.specs.Prelude.{◌≡◌, ℕ, suc, Bool, ◌<◌, ◌≤◌, true, false, nat_eq, nat_lt, Option, Some, None, List, length, take, slice_get, slice_index, slice_index_or, MatchOption, if◌then◌else◌}
use Rattle.std.specs.List.{position_or_len}
use Rattle.lt_base.specs.Expression.{Expression}
use Rattle.lt_base.specs.Program.{Function}
use Rattle.lt_base.specs.Meaning.{right_of}
use Rattle.lt_base.specs.Equations.{left_count}
use Rattle.lt_base.specs.Dependence.{has, dependencies, Depends}
use Rattle.lt_base.specs.Graph.{ClosedWalk}
use Rattle.lt_graph.specs.Tables.{next}
use Rattle.lt_cause.specs.Tables.{occurrences}

-- the number of each equation once, and each after those of the variables that its own variable depends on
pub record IsOrder (f : Function) (order : List ℕ) : Type 0 where
  pub once : (k : ℕ) → occurrences k order ≡ (if nat_lt k (length f.eqs) then 1 else 0)
  pub after : (i k m : ℕ) (p q : ℕ × Expression) → slice_get order i ≡ Some k → slice_get f.eqs k ≡ Some p → slice_get f.eqs m ≡ Some q → Depends f p.0 q.0 → has m (take i order) ≡ true

-- each variable depends on the next, and the last on the first; none is repeated; and the first is the least variable on any closed walk
pub record IsLeastCycle (f : Function) (vars : List ℕ) : Type 0 where
  pub closed : ClosedWalk (Depends f) vars
  pub once : (x : ℕ) → occurrences x vars ≤ 1
  pub least : (walk : List ℕ) → ClosedWalk (Depends f) walk → (x : ℕ) → has x walk ≡ true → slice_index vars 0 ≤ x

-- the table holds what each variable depends on
pub record HasDependencies (f : Function) (table : List (List ℕ)) : Type 0 where
  pub size : length table ≡ length f.decls
  pub tells : (x : ℕ) → next table x ≡ dependencies f x

-- a number tells of the variable's equation among the first ones, if it has one there
abbrev pub NumberOf : Function → ℕ → ℕ → Option ℕ → Type 0
NumberOf f n x o = MatchOption o (left_count x (take n f.eqs) ≡ 0) (λ k. (q : ℕ × Expression) × ((k < n) × (slice_get f.eqs k ≡ Some q) × (q.0 ≡ x)))

-- the table tells of each variable the number of its equation
pub record HasEquationNumbers (f : Function) (table : List (Option ℕ)) : Type 0 where
  pub size : length table ≡ length f.decls
  pub tells : (x : ℕ) → x < length f.decls → NumberOf f (length f.eqs) x (slice_index_or table x None)

-- whether the equation of that number is the variable's
abbrev pub is_left : Option (ℕ × Expression) → ℕ → Bool
is_left None x = false
is_left (Some q) x = nat_eq x q.0

abbrev pub place_by : Option Expression → ℕ → ℕ
place_by None n = 0
place_by (Some e) n = suc n

-- the place of a variable's equation in the order, from 1 on, and 0 for an input
abbrev pub order_place : Function → List ℕ → ℕ → ℕ
order_place f order x = place_by (right_of f.eqs x) (position_or_len (λ k. is_left (slice_get f.eqs k) x) order)
