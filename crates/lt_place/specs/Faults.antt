-- Why a placement is refused, and which fault comes first.
use Rattle.std.specs.Prelude.{◌≡◌, ◌≢◌, ℕ, zero, suc, ◌<◌, ◌≤◌, true, Some, List, [], ◌∷◌, ◌++◌, nat_eq, slice_get, slice_index, if◌then◌else◌}
use Rattle.lt_base.specs.Expression.{Expression}
use Rattle.lt_base.specs.Meaning.{right_of}
use Rattle.lt_base.specs.Dependence.{has}
use Rattle.lt_norm.specs.Flat.{Originated}
use Rattle.lt_place_reads.specs.Origins.{IsMain, name_of, origin_of}
use Rattle.lt_place_reads.specs.Reads.{clock_reads, plain_reads, slow_reads}
use Rattle.lt_arch.specs.declared.placement.Placement.{Placement}
use Rattle.lt_place.specs.declared.fault.PlaceFault.{PlaceFault}
use Rattle.lt_place.specs.declared.fault.PlaceFault.TheVariants.{Unplaced, PlacedTwice, UnknownName, DirectCross, SlowCross, ClockElsewhere}
use Rattle.lt_place.specs.Nodes.{Listing, listings, puts, node_of, IsNameOfMain, EachKnown}

-- the number has the property, and no lower one has it
pub record IsLowest (P : ℕ → Type 0) (n : ℕ) : Type 0 where
  pub holds : P n
  pub lowest : (k : ℕ) → P k → n ≤ k

-- ---- names

-- a variable of `main` that is on no node
abbrev pub IsUnplaced : Originated → Placement → ℕ → Type 0
IsUnplaced f p x = IsMain f x × (puts p (name_of f x) ≡ 0)

-- one that is listed twice
abbrev pub IsPlacedTwice : Originated → Placement → ℕ → Type 0
IsPlacedTwice f p x = IsMain f x × (2 ≤ puts p (name_of f x))

-- every variable of `main` is on a node
abbrev pub AllPlaced : Originated → Placement → Type 0
AllPlaced f p = (x : ℕ) → IsUnplaced f p x → ⊥

-- on one node, once
abbrev pub AllOnce : Originated → Placement → Type 0
AllOnce f p = (x : ℕ) → IsMain f x → puts p (name_of f x) ≡ 1

-- the first listed name that is none of a variable of `main`
pub record IsFirstUnknown (f : Originated) (p : Placement) (name : List ℕ) : Type 0 where
  pub before : List Listing
  pub node : ℕ
  pub after : List Listing
  pub listed : listings p ≡ before ++ (name, node) ∷ after
  pub known : EachKnown f before
  pub unknown : IsNameOfMain f name → ⊥

-- ---- reads and clocks

-- among the equations that arose from the equation of m one reads in this way a variable of another node, which arose from that of n
pub record ReadsElsewhere (f : Originated) (p : Placement) (read_by : ℕ → Expression → List ℕ) (m n : ℕ) : Type 0 where
  pub reader : ℕ
  pub right : Expression
  pub read : ℕ
  pub equation : right_of f.func.eqs reader ≡ Some right
  pub arose : origin_of f reader ≡ m
  pub reads : has read (read_by reader right) ≡ true
  pub named : origin_of f read ≡ n
  pub apart : node_of f p read ≢ node_of f p reader

-- a clock variable is on another node
abbrev pub IsClockElsewhere : Originated → Placement → ℕ → ℕ → Type 0
IsClockElsewhere f p = ReadsElsewhere f p (clock_reads f)

-- a variable of another node is read otherwise than as all that a delay delays
abbrev pub IsDirectCross : Originated → Placement → ℕ → ℕ → Type 0
IsDirectCross f p = ReadsElsewhere f p (plain_reads f)

-- it is so read, and the delay is not on the base clock
abbrev pub IsSlowCross : Originated → Placement → ℕ → ℕ → Type 0
IsSlowCross f p = ReadsElsewhere f p (slow_reads f)

-- nothing is at fault at the equation of m
pub record IsClear (f : Originated) (p : Placement) (m : ℕ) : Type 0 where
  pub clocks : (n : ℕ) → IsClockElsewhere f p m n → ⊥
  pub direct : (n : ℕ) → IsDirectCross f p m n → ⊥
  pub slow : (n : ℕ) → IsSlowCross f p m n → ⊥

-- ---- the order

-- the variables of `main` among those of these equations, in the order of the equations
abbrev pub main_lefts : List ℕ → List (ℕ × Expression) → List ℕ
main_lefts origin [] = []
main_lefts origin (q ∷ qs) = if nat_eq (slice_index origin q.0) q.0 then q.0 ∷ main_lefts origin qs else main_lefts origin qs

-- those among the first n
abbrev pub main_below : List ℕ → ℕ → List ℕ
main_below origin zero = []
main_below origin (suc n) = main_below origin n ++ (if nat_eq (slice_index origin n) n then n ∷ [] else [])

-- the variables of `main` as they are judged: by the order of their equations. The inputs, from which no equation of a normal form
-- arises, come last
abbrev pub judged_variables : Originated → List ℕ
judged_variables f = main_lefts f.origin f.func.eqs ++ main_below f.origin f.func.n_in

-- m is judged, the names are without fault, and so is each variable that is judged before
pub record IsReached (f : Originated) (p : Placement) (m : ℕ) : Type 0 where
  pub once : AllOnce f p
  pub known : EachKnown f (listings p)
  pub turn : ℕ
  pub here : slice_get (judged_variables f) turn ≡ Some m
  pub before : (i k : ℕ) → i < turn → slice_get (judged_variables f) i ≡ Some k → IsClear f p k

-- the fault is the first one
abbrev pub IsFirstPlaceFault : Originated → Placement → PlaceFault → Type 0
IsFirstPlaceFault f p (Unplaced x) = IsLowest (IsUnplaced f p) x
IsFirstPlaceFault f p (PlacedTwice x) = AllPlaced f p × IsLowest (IsPlacedTwice f p) x
IsFirstPlaceFault f p (UnknownName name) = AllOnce f p × IsFirstUnknown f p name
IsFirstPlaceFault f p (ClockElsewhere m n) = IsReached f p m × IsLowest (IsClockElsewhere f p m) n
IsFirstPlaceFault f p (DirectCross m n) = IsReached f p m × ((k : ℕ) → IsClockElsewhere f p m k → ⊥) × IsLowest (IsDirectCross f p m) n
IsFirstPlaceFault f p (SlowCross m n) =
    IsReached f p m × ((k : ℕ) → IsClockElsewhere f p m k → ⊥) × ((k : ℕ) → IsDirectCross f p m k → ⊥) × IsLowest (IsSlowCross f p m) n

-- at most one fault is the first
abbrev pub OneIsFirst : Type 0
OneIsFirst = (f : Originated) (p : Placement) (a b : PlaceFault) → IsFirstPlaceFault f p a → IsFirstPlaceFault f p b → a ≡ b
