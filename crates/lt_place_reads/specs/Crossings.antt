-- Which delays cross from one node to another, as the code keeps them.
use Rattle.std.specs.Prelude.{◌≡◌, ℕ, ◌<◌, ◌≤◌, Option, Some, None, List, length, get_or, nat_eq, slice_get, slice_index, if◌then◌else◌}
use Rattle.lt_base.specs.declared.value.Value.{Value}
use Rattle.lt_base.specs.Expression.{Expression, variable, delayed}
use Rattle.lt_base.specs.Meaning.{right_of}
use Rattle.lt_base.specs.Equations.{left_count}
use Rattle.lt_norm.specs.Flat.{Originated}
use Rattle.lt_place_reads.specs.declared.crossing.Crossing.{Crossing}

-- a delay of what is a variable of another node is a crossing
abbrev pub cross_of : List ℕ → ℕ → Value → Expression → Option Crossing
cross_of nodes x v (variable y) =
    if nat_eq (slice_index nodes y) (slice_index nodes x) then None else Some (record { from = slice_index nodes y; to = slice_index nodes x; first = v; var = y; reader = x })
cross_of nodes x v e = None

-- the crossing that a right side of x is
abbrev pub cross_in : List ℕ → ℕ → Expression → Option Crossing
cross_in nodes x (delayed v a) = cross_of nodes x v a
cross_in nodes x e = None

abbrev pub cross_by : List ℕ → ℕ → Option Expression → Option Crossing
cross_by nodes x None = None
cross_by nodes x (Some e) = cross_in nodes x e

-- the crossing whose reader is x
abbrev pub cross_at : Originated → List ℕ → ℕ → Option Crossing
cross_at f nodes x = cross_by nodes x (right_of f.func.eqs x)

-- a table has it for each variable
pub record HasReaders (f : Originated) (nodes : List ℕ) (readers : List (Option Crossing)) : Type 0 where
  pub size : length readers ≡ length f.func.decls
  pub each : (x : ℕ) → x < length f.func.decls → get_or readers x None ≡ cross_at f nodes x

-- a table has the crossings of these equations, the first ones of a function
pub record ReadsSoFar (f : Originated) (nodes : List ℕ) (qs : List (ℕ × Expression)) (readers : List (Option Crossing)) : Type 0 where
  pub size : length readers ≡ length f.func.decls
  pub told : (x : ℕ) → x < length f.func.decls → 0 < left_count x qs → get_or readers x None ≡ cross_at f nodes x
  pub untold : (x : ℕ) → x < length f.func.decls → left_count x qs ≡ 0 → get_or readers x None ≡ None

-- the crossings of the first variables in order, and each reader's place among them
pub record HasPlaces (readers : List (Option Crossing)) (bound : ℕ) (list : List Crossing) (places : List (Option ℕ)) : Type 0 where
  pub size : length places ≡ bound
  pub few : length list ≤ bound
  pub none : (x : ℕ) → x < bound → get_or readers x None ≡ None → get_or places x None ≡ None
  pub some : (x : ℕ) (c : Crossing) → x < bound → get_or readers x None ≡ Some c → (k : ℕ) × (get_or places x None ≡ Some k) × (slice_get list k ≡ Some c)
  pub each : (k : ℕ) (c : Crossing) → slice_get list k ≡ Some c → (c.reader < bound) × (get_or readers c.reader None ≡ Some c)
  pub ordered : (j k : ℕ) (b c : Crossing) → j < k → slice_get list j ≡ Some b → slice_get list k ≡ Some c → b.reader < c.reader
