-- What is read on other nodes, as the code keeps it.
use Rattle.std.specs.Prelude.{◌≡◌, ◌⊎◌, ℕ, ◌<◌, ◌≤◌, Option, Some, None, List, [], ◌∷◌, ◌++◌, length, get_or, nat_eq, slice_index, MatchOption, if◌then◌else◌}
use Rattle.lt_base.specs.Expression.{Expression}
use Rattle.lt_norm.specs.Flat.{Originated}
use Rattle.lt_place_reads.specs.declared.look.Look.{Look}
use Rattle.lt_place_reads.specs.Origins.{variable_count}
use Rattle.lt_place_reads.specs.Reads.{looked}
use Rattle.lt_arch.specs.declared.placement.Placement.{Placement}
use Rattle.lt_place.specs.declared.fault.PlaceFault.{PlaceFault}
use Rattle.lt_place.specs.declared.fault.PlaceFault.TheVariants.{DirectCross, SlowCross, ClockElsewhere}
use Rattle.lt_place.specs.Nodes.{listings, nodes_of, EachKnown}
use Rattle.lt_place.specs.Faults.{AllOnce, IsLowest, ReadsElsewhere}

-- the variables that have one equation for what reads and one for what is read
abbrev pub Report : Type 0
Report = ℕ × ℕ

abbrev pub IsAmong : Report → List Report → Type 0
IsAmong r [] = ⊥
IsAmong r (s ∷ rs) = (r ≡ s) ⊎ IsAmong r rs

-- what x reads of these on other nodes, by the origins
abbrev pub elsewhere : List ℕ → List ℕ → ℕ → List ℕ → List Report
elsewhere nodes origin x [] = []
elsewhere nodes origin x (y ∷ ys) =
    if nat_eq (slice_index nodes y) (slice_index nodes x) then elsewhere nodes origin x ys else (slice_index origin x, slice_index origin y) ∷ elsewhere nodes origin x ys

-- so over these equations
abbrev pub reports : (ℕ → Expression → List ℕ) → List ℕ → List ℕ → List (ℕ × Expression) → List Report
reports read_by nodes origin [] = []
reports read_by nodes origin (q ∷ qs) = elsewhere nodes origin q.0 (read_by q.0 q.1) ++ reports read_by nodes origin qs

-- the lowest number that is reported at m, where one is
abbrev pub LeastAt : List Report → ℕ → Option ℕ → Type 0
LeastAt rs m None = (n : ℕ) → IsAmong (m, n) rs → ⊥
LeastAt rs m (Some n) = IsAmong (m, n) rs × ((k : ℕ) → IsAmong (m, k) rs → n ≤ k)

-- a table has it for each m
abbrev pub HasLeast : List (Option ℕ) → List Report → Type 0
HasLeast marks rs = (m : ℕ) → m < length marks → LeastAt rs m (get_or marks m None)

-- a table has the lowest number that is read on another node, for each variable
abbrev pub MarksReads : Originated → Placement → Look → List (Option ℕ) → Type 0
MarksReads f p look marks =
    (m : ℕ) → m < variable_count f → MatchOption (get_or marks m None) ((n : ℕ) → ReadsElsewhere f p (looked look f) m n → ⊥) (λ n. IsLowest (ReadsElsewhere f p (looked look f) m) n)

-- the names that a placement lists are without fault, and these are the nodes of the variables
pub record IsAssigned (f : Originated) (p : Placement) (nodes : List ℕ) : Type 0 where
  pub each : nodes ≡ nodes_of f p
  pub once : AllOnce f p
  pub known : EachKnown f (listings p)

-- the fault at m's equation, where these are the lowest variables that it reads on other nodes
abbrev pub reported_fault : ℕ → Option ℕ → Option ℕ → Option ℕ → Option PlaceFault
reported_fault m (Some n) d s = Some (ClockElsewhere m n)
reported_fault m None (Some n) s = Some (DirectCross m n)
reported_fault m None None (Some n) = Some (SlowCross m n)
reported_fault m None None None = None
