-- Where names are listed, as the code keeps it.
use Rattle.std.specs.Prelude.{◌≡◌, ℕ, ◌<◌, Bool, true, false, Option, Some, None, List, [], ◌∷◌, ◌++◌, length, map, get_or, nat_eq, nat_le, slice_index, if◌then◌else◌}
use Rattle.std.specs.Borrow.{Bor}
use Rattle.std.specs.Option.{is_some}
use Rattle.std.specs.HashMap.{HashMap, get_by}
use Rattle.std.specs.Str.{bytes_eq}
use Rattle.lt_norm.specs.Flat.{Originated}
use Rattle.lt_place_reads.specs.Origins.{IsMain, name_of}
use Rattle.lt_place.specs.declared.seats.Seat.{Seat}
use Rattle.lt_place.specs.Nodes.{Listing, times, node_listed}

-- the node on whose list a name stands first, and whether it is listed again
abbrev pub seat_of : List Listing → List ℕ → Option Seat
seat_of ls name = if nat_eq (times ls name) 0 then None else Some (record { node = node_listed ls name; again = nat_le 2 (times ls name) })

-- what a map with borrowed names has at a name
abbrev pub at_name : {X S : Type 0} → HashMap (Bor (List ℕ)) X S → List ℕ → Option X
at_name m name = get_by (λ k. bytes_eq name k.now) m

-- a map has the seat of each name
abbrev pub HasSeats : {S : Type 0} → HashMap (Bor (List ℕ)) Seat S → List Listing → Type 0
HasSeats m ls = (name : List ℕ) → at_name m name ≡ seat_of ls name

-- the seats of these variables
abbrev pub seats_of : Originated → List Listing → List ℕ → List (Option Seat)
seats_of f ls xs = map (λ x. seat_of ls (name_of f x)) xs

-- ---- the seats of the variables

-- a variable of `main` without a seat
abbrev pub IsVacant : List ℕ → List (Option Seat) → ℕ → Type 0
IsVacant origin seats x = (x < length origin) × (slice_index origin x ≡ x) × (get_or seats x None ≡ None)

abbrev pub is_again : Option Seat → Bool
is_again None = false
is_again (Some seat) = seat.again

-- one with two seats
abbrev pub IsAgain : List ℕ → List (Option Seat) → ℕ → Type 0
IsAgain origin seats x = (x < length origin) × (slice_index origin x ≡ x) × (is_again (get_or seats x None) ≡ true)

abbrev pub seat_node : Option Seat → ℕ
seat_node None = 0
seat_node (Some seat) = seat.node

-- ---- the names of the variables of `main`

-- a map knows these names, and each has the number of a variable of `main` with this name
pub record KnowsMain {S : Type 0} (f : Originated) (bound : ℕ) (m : HashMap (Bor (List ℕ)) ℕ S) : Type 0 where
  pub sound : (name : List ℕ) (x : ℕ) → at_name m name ≡ Some x → IsMain f x × (name_of f x ≡ name)
  pub complete : (x : ℕ) → x < bound → IsMain f x → is_some (at_name m (name_of f x)) ≡ true

-- each listed name is in the map
abbrev pub EachIn : {X S : Type 0} → HashMap (Bor (List ℕ)) X S → List Listing → Type 0
EachIn m [] = Unit {0}
EachIn m (l ∷ ls) = (is_some (at_name m l.0) ≡ true) × EachIn m ls

-- the first listed name that is not in it
pub record IsFirstOut {X S : Type 0} (m : HashMap (Bor (List ℕ)) X S) (ls : List Listing) (name : List ℕ) : Type 0 where
  pub before : List Listing
  pub node : ℕ
  pub after : List Listing
  pub listed : ls ≡ before ++ (name, node) ∷ after
  pub each : EachIn m before
  pub none : at_name m name ≡ None
