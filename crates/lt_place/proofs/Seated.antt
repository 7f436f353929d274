-- What the seats of the variables say of a placement.
use Rattle.std.proofs.Common.{◌≡◌, ℕ, zero, suc, ◌+◌, ◌<◌, ◌≤◌, Bool, true, false, cond, List, [], ◌∷◌, length, map, get_or, Option, Some, None, refl, sym, ap, ◌∙◌, subst, arith, Bor}
use Rattle.std.specs.Prelude.{nat_eq, nat_le, if◌then◌else◌}
use Rattle.std.specs.Str.{bytes_eq}
use Rattle.std.specs.HashMap.{HashMap}
use Rattle.std.proofs.lemmas.List.{length-map}
use Rattle.std.proofs.lemmas.Bool.Decides.{nat_tests}
use Rattle.lt_norm.specs.Flat.{Originated}
use Rattle.lt_base.specs.declared.memory.Or.{Or}
use Rattle.lt_base.specs.declared.memory.Or.TheVariants.{Fault, Memory}
use Rattle.lt_base.specs.Or.{ForFault}
use Rattle.lt_place_reads.specs.Origins.{IsMain, HasOrigins, variable_count, name_of, origin_of}
use Rattle.lt_place.specs.declared.fault.PlaceFault.{PlaceFault}
use Rattle.lt_place.specs.declared.fault.PlaceFault.TheVariants.{UnknownName}
use Rattle.lt_arch.specs.declared.named.NamedNode.{NamedNode}
use Rattle.lt_arch.specs.declared.nodes.NamedNodes.{NamedNodes}
use Rattle.lt_arch.specs.declared.placement.Placement.{Placement}
use Rattle.lt_arch.specs.declared.placement.Placement.TheVariants.{Named}
use Rattle.lt_place.specs.declared.seats.Seat.{Seat}
use Rattle.lt_place.specs.Nodes.{Listing, listings_from, times, node_listed, nodes_of, EachKnown}
use Rattle.lt_place.specs.Faults.{IsLowest, IsUnplaced, IsPlacedTwice, AllPlaced, AllOnce, IsFirstUnknown}
use Rattle.lt_place.specs.Seats.{seat_of, seats_of, seat_node, is_again, IsVacant, IsAgain, HasSeats, KnowsMain, EachIn, IsFirstOut}
use Rattle.lt_place.proofs.Listed.{times_front}
use Rattle.lt_place.proofs.Assigned.{each_known, not_known}

-- ---- one seat

none_by : (t : ℕ) (s : Seat) → ◌≡◌ {A = Option Seat} (if nat_eq t 0 then None else Some s) None → t ≡ 0
none_by zero s h = refl
none_by (suc t) s h = let e : nat_eq (suc t) 0 ≡ false = grind (arith, nat_tests) in let k : ◌≡◌ {A = Option Seat} (Some s) None = sym (ap (λ b. if b then None else Some s) e) ∙ h in absurd (cc)

seat_none : (ls : List Listing) (q : List ℕ) → seat_of ls q ≡ None → times ls q ≡ 0
seat_none ls q h = none_by (times ls q) _ h

none_seat : (ls : List Listing) (q : List ℕ) → times ls q ≡ 0 → seat_of ls q ≡ None
none_seat ls q h = ap (λ t. if nat_eq t 0 then None else Some (record { node = node_listed ls q; again = nat_le 2 t })) h

again_by : (t m : ℕ) → is_again (if nat_eq t 0 then None else Some (record { node = m; again = nat_le 2 t })) ≡ nat_le 2 t
again_by zero m = refl
again_by (suc t) m = let e : nat_eq (suc t) 0 ≡ false = grind (arith, nat_tests) in ap (λ b. is_again (if b then None else Some (record { node = m; again = nat_le 2 (suc t) }))) e

seat_again : (ls : List Listing) (q : List ℕ) → is_again (seat_of ls q) ≡ nat_le 2 (times ls q)
seat_again ls q = again_by (times ls q) (node_listed ls q)

two_le : (t : ℕ) → nat_le 2 t ≡ true → 2 ≤ t
two_le t h = grind (arith, nat_tests)

le_two : (t : ℕ) → 2 ≤ t → nat_le 2 t ≡ true
le_two t h = grind (arith, nat_tests)

not_listed_by : (l : Listing) (ls : List Listing) (q : List ℕ) → (times ls q ≡ 0 → node_listed ls q ≡ 0) → (b : Bool) → cond b 1 0 + times ls q ≡ 0 → (if b then l.1 else node_listed ls q) ≡ 0
not_listed_by l ls q h true e = absurd (omega (arith, e))
not_listed_by l ls q h false e = h (omega (arith, e))

not_listed : (ls : List Listing) (q : List ℕ) → times ls q ≡ 0 → node_listed ls q ≡ 0
not_listed [] q h = refl
not_listed (l ∷ ls) q h = not_listed_by l ls q (not_listed ls q) (bytes_eq q l.0) (sym (times_front l ls q) ∙ h)

node_by : (t m : ℕ) → (t ≡ 0 → m ≡ 0) → seat_node (if nat_eq t 0 then None else Some (record { node = m; again = nat_le 2 t })) ≡ m
node_by zero m h = sym (h refl)
node_by (suc t) m h = let e : nat_eq (suc t) 0 ≡ false = grind (arith, nat_tests) in ap (λ b. seat_node (if b then None else Some (record { node = m; again = nat_le 2 (suc t) }))) e

seat_node_is : (ls : List Listing) (q : List ℕ) → seat_node (seat_of ls q) ≡ node_listed ls q
seat_node_is ls q = node_by (times ls q) (node_listed ls q) (not_listed ls q)

-- ---- the seats of all variables

module _ (f : Originated) (h : HasOrigins f) (named : NamedNodes) (each : List (Option Seat)) (e : each ≡ seats_of f (listings_from 0 named.nodes) f.origin) (origin : List ℕ) (o : origin ≡ f.origin) where
  abbrev L : List Listing
  L = listings_from 0 named.nodes

  abbrev P : Placement
  P = Named named

  pub each_length : length each ≡ length origin
  each_length = ap length e ∙ length-map f.origin (λ x. seat_of L (name_of f x)) ∙ sym (ap length o)

  origin_length : length origin ≡ variable_count f
  origin_length = ap length o ∙ h.each

  get_map : (g : ℕ → Option Seat) (xs : List ℕ) (x : ℕ) → x < length xs → get_or (map g xs) x None ≡ g (get_or xs x 0)
  get_map g [] x l = absurd (omega arith)
  get_map g (y ∷ xs) zero l = refl
  get_map g (y ∷ xs) (suc x) l = get_map g xs x (omega arith)

  seat_at : (x : ℕ) → x < variable_count f → get_or each x None ≡ seat_of L (name_of f (origin_of f x))
  seat_at x l = ap (λ (es : List (Option Seat)). get_or es x None) e ∙ get_map (λ x. seat_of L (name_of f x)) f.origin x (let k = h.each in omega (arith, k, l))

  main_seat : (x : ℕ) → IsMain f x → get_or each x None ≡ seat_of L (name_of f x)
  main_seat x m = seat_at x m.declared ∙ ap (λ z. seat_of L (name_of f z)) m.own

  main_of : (x : ℕ) → x < length origin → get_or origin x 0 ≡ x → IsMain f x
  main_of x l s = record { declared = (let k = origin_length in omega (arith, k, l)); own = sym (ap (λ (xs : List ℕ). get_or xs x 0) o) ∙ s }

  inside_of : (x : ℕ) → IsMain f x → (x < length origin) × (get_or origin x 0 ≡ x)
  inside_of x m = ((let k = origin_length in let d = m.declared in omega (arith, k, d)), ap (λ (xs : List ℕ). get_or xs x 0) o ∙ m.own)

  unplaced_of : (x : ℕ) → IsVacant origin each x → IsUnplaced f P x
  unplaced_of x v = let m = main_of x v.0 v.1 in (m, seat_none L (name_of f x) (sym (main_seat x m) ∙ v.2))

  vacant_of : (x : ℕ) → IsUnplaced f P x → IsVacant origin each x
  vacant_of x u = let i = inside_of x u.0 in (i.0, i.1, main_seat x u.0 ∙ none_seat L (name_of f x) u.1)

  twice_of : (x : ℕ) → IsAgain origin each x → IsPlacedTwice f P x
  twice_of x a = let m = main_of x a.0 a.1 in (m, two_le (times L (name_of f x)) (sym (seat_again L (name_of f x)) ∙ sym (ap is_again (main_seat x m)) ∙ a.2))

  again_of : (x : ℕ) → IsPlacedTwice f P x → IsAgain origin each x
  again_of x t = let i = inside_of x t.0 in (i.0, i.1, ap is_again (main_seat x t.0) ∙ seat_again L (name_of f x) ∙ le_two (times L (name_of f x)) t.1)

  pub first_unplaced : (x : ℕ) → IsLowest (IsVacant origin each) x → IsLowest (IsUnplaced f P) x
  first_unplaced x l = record { holds = unplaced_of x l.holds; lowest = λ k u. l.lowest k (vacant_of k u) }

  pub all_placed : ((x : ℕ) → IsVacant origin each x → ⊥) → AllPlaced f P
  all_placed n x u = n x (vacant_of x u)

  pub first_twice : (x : ℕ) → IsLowest (IsAgain origin each) x → IsLowest (IsPlacedTwice f P) x
  first_twice x l = record { holds = twice_of x l.holds; lowest = λ k t. l.lowest k (again_of k t) }

  one_of : (t : ℕ) → (t ≡ 0 → ⊥) → (2 ≤ t → ⊥) → t ≡ 1
  one_of zero a b = absurd (a refl)
  one_of (suc zero) a b = refl
  one_of (suc (suc t)) a b = absurd (b (omega arith))

  pub all_once : ((x : ℕ) → IsVacant origin each x → ⊥) → ((x : ℕ) → IsAgain origin each x → ⊥) → AllOnce f P
  all_once n a x m = one_of (times L (name_of f x)) (λ z. n x (vacant_of x (m, z))) (λ z. a x (again_of x (m, z)))

  nodes_by : (xs : List ℕ) → map seat_node (seats_of f L xs) ≡ map (λ x. node_listed L (name_of f x)) xs
  nodes_by [] = refl
  nodes_by (x ∷ xs) = λ i. seat_node_is L (name_of f x) i ∷ nodes_by xs i

  pub nodes_are : map seat_node each ≡ nodes_of f P
  nodes_are = ap (map seat_node) e ∙ nodes_by f.origin

pub seats_length : (f : Originated) (named : NamedNodes) (each : List (Option Seat)) → each ≡ seats_of f (listings_from 0 named.nodes) f.origin → length each ≡ length f.origin
seats_length f named each e = ap length e ∙ length-map f.origin (λ x. seat_of (listings_from 0 named.nodes) (name_of f x))

-- ---- the maps that the code makes

pub each_is : {S : Type 0} (f : Originated) (named : NamedNodes) (m : HashMap (Bor (List ℕ)) Seat S) (nodes : List NamedNode) → nodes ≡ named.nodes → HasSeats m (listings_from 0 nodes) → (each : List (Option Seat)) → ((ls : List Listing) → HasSeats m ls → each ≡ seats_of f ls f.origin) → each ≡ seats_of f (listings_from 0 named.nodes) f.origin
each_is f named m nodes e h each k = k (listings_from 0 nodes) h ∙ ap (λ ns. seats_of f (listings_from 0 ns) f.origin) e

pub known_are : {S : Type 0} (f : Originated) (named : NamedNodes) (m : HashMap (Bor (List ℕ)) ℕ S) (nodes : List NamedNode) → nodes ≡ named.nodes → KnowsMain f (variable_count f) m → EachIn m (listings_from 0 nodes) → EachKnown f (listings_from 0 named.nodes)
known_are f named m nodes e k h = each_known f m k (listings_from 0 named.nodes) (subst (λ ns. EachIn m (listings_from 0 ns)) e h)

-- the fault of an unknown name, where there was memory for the name
pub unknown_fault : (P : PlaceFault → Type 0) (e : Or PlaceFault) (name : List ℕ) → ForFault e (λ fault. fault ≡ UnknownName name) → P (UnknownName name) → ForFault e P
unknown_fault P (Fault e) name is p = subst P (sym is) p
unknown_fault P Memory name is p = tt

pub unknown_is : {S : Type 0} (f : Originated) (named : NamedNodes) (m : HashMap (Bor (List ℕ)) ℕ S) (nodes : List NamedNode) → nodes ≡ named.nodes → KnowsMain f (variable_count f) m → (name name' : List ℕ) → name' ≡ name → IsFirstOut m (listings_from 0 nodes) name → IsFirstUnknown f (Named named) name'
unknown_is f named m nodes e k name name' s w = subst (IsFirstUnknown f (Named named)) (sym s) (record {
  before = w.before;
  node = w.node;
  after = w.after;
  listed = ap (listings_from 0) (sym e) ∙ w.listed;
  known = each_known f m k w.before w.each;
  unknown = not_known f m k name w.none;
})
