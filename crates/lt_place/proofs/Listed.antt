-- The seat of a name, over the lists of a placement.
use Rattle.std.proofs.Common.{◌≡◌, ℕ, zero, suc, ◌+◌, ◌<◌, Bool, true, false, cond, List, [], ◌∷◌, ◌++◌, length, take, get_or, Option, Some, None, refl, sym, ap, ◌∙◌, subst, arith, Bor}
use Rattle.std.specs.Prelude.{nat_eq, nat_le, if◌then◌else◌}
use Rattle.std.specs.Str.{bytes_eq}
use Rattle.std.specs.HashMap.{HashMap}
use Rattle.std.proofs.lemmas.List.{append_assoc, append-nil, length-take-le, take_more, map_more}
use Rattle.std.proofs.lemmas.List.Sums.{sum_by-append, sum_by-cons}
use Rattle.std.proofs.lemmas.Slice.Eq.{bytes_eq-Decides}
use Rattle.std.proofs.lemmas.Bool.Decides.{nat_tests}
use Rattle.lt_arch.specs.declared.named.NamedNode.{NamedNode}
use Rattle.lt_place.specs.declared.seats.Seat.{Seat}
use Rattle.lt_place.specs.Nodes.{Listing, listings_on, listings_from, times, node_listed}
use Rattle.lt_place.specs.Seats.{seat_of, at_name, HasSeats}

pub times_more : (ls : List Listing) (l : Listing) (q : List ℕ) → times (ls ++ l ∷ []) q ≡ times ls q + cond (bytes_eq q l.0) 1 0
times_more ls l q =
    let one = λ (z : Listing). cond (bytes_eq q z.0) 1 0 in
    sum_by-append one ls (l ∷ []) ∙ ap (λ n. times ls q + n) (sum_by-cons one l [] ∙ omega arith)

pub times_front : (l : Listing) (ls : List Listing) (q : List ℕ) → times (l ∷ ls) q ≡ cond (bytes_eq q l.0) 1 0 + times ls q
times_front l ls q = sum_by-cons (λ (z : Listing). cond (bytes_eq q z.0) 1 0) l ls

node_more_by : (l m : Listing) (ls : List Listing) (q : List ℕ) (t : ℕ) → (node_listed (ls ++ l ∷ []) q ≡ (if nat_eq t 0 then node_listed (l ∷ []) q else node_listed ls q)) → (b : Bool) → (if b then m.1 else node_listed (ls ++ l ∷ []) q) ≡ (if nat_eq (cond b 1 0 + t) 0 then node_listed (l ∷ []) q else (if b then m.1 else node_listed ls q))
node_more_by l m ls q t h true = let e : nat_eq (1 + t) 0 ≡ false = grind (arith, nat_tests) in sym (ap (λ b. if b then node_listed (l ∷ []) q else m.1) e)
node_more_by l m ls q t h false = h ∙ ap (λ k. if nat_eq k 0 then node_listed (l ∷ []) q else node_listed ls q) (omega arith)

-- the first node of a name, after one more listing
pub node_more : (ls : List Listing) (l : Listing) (q : List ℕ) → node_listed (ls ++ l ∷ []) q ≡ (if nat_eq (times ls q) 0 then node_listed (l ∷ []) q else node_listed ls q)
node_more [] l q = refl
node_more (m ∷ ls) l q = node_more_by l m ls q (times ls q) (node_more ls l q) (bytes_eq q m.0) ∙ ap (λ k. if nat_eq k 0 then node_listed (l ∷ []) q else node_listed (m ∷ ls) q) (sym (times_front m ls q))

-- a seat after one more listing of its name
abbrev pub next : ℕ → Option Seat → Seat
next n None = record { node = n; again = false }
next n (Some s) = record { node = s.node; again = true }

next_by : (n t t' m m' : ℕ) → t' ≡ t + 1 → m' ≡ (if nat_eq t 0 then n else m) → ◌≡◌ {A = Option Seat} (if nat_eq t' 0 then None else Some (record { node = m'; again = nat_le 2 t' })) (Some (next n (if nat_eq t 0 then None else Some (record { node = m; again = nat_le 2 t }))))
next_by n zero t' m m' e h =
    let one : t' ≡ 1 = omega arith in
    λ i. if nat_eq (one i) 0 then None else Some (record { node = h i; again = nat_le 2 (one i) })
next_by n (suc t) t' m m' e h =
    let p : nat_eq (suc t) 0 ≡ false = grind (arith, nat_tests) in
    let p' : nat_eq t' 0 ≡ false = grind (arith, nat_tests) in
    let q : nat_le 2 t' ≡ true = grind (arith, nat_tests) in
    let left : ◌≡◌ {A = Option Seat} (if nat_eq t' 0 then None else Some (record { node = m'; again = nat_le 2 t' })) (Some (record { node = m; again = true })) =
    λ i. if p' i then None else Some (record { node = (h ∙ ap (λ b. if b then n else m) p) i; again = q i }) in
    left ∙ sym (ap (λ b. Some (next n (if b then None else Some (record { node = m; again = nat_le 2 (suc t) })))) p)

seat_same : (ls : List Listing) (x : List ℕ) (n : ℕ) → seat_of (ls ++ (x, n) ∷ []) x ≡ Some (next n (seat_of ls x))
seat_same ls x n =
    let e : bytes_eq x x ≡ true = (bytes_eq-Decides x x).1 refl in
    next_by n (times ls x) (times (ls ++ (x, n) ∷ []) x) (node_listed ls x) (node_listed (ls ++ (x, n) ∷ []) x)
    (times_more ls (x, n) x ∙ ap (λ b. times ls x + cond b 1 0) e)
    (node_more ls (x, n) x ∙ ap (λ b. if nat_eq (times ls x) 0 then (if b then n else 0) else node_listed ls x) e)

seat_other_by : (t m t' m' : ℕ) → t' ≡ t → m' ≡ (if nat_eq t 0 then 0 else m) → ◌≡◌ {A = Option Seat} (if nat_eq t' 0 then None else Some (record { node = m'; again = nat_le 2 t' })) (if nat_eq t 0 then None else Some (record { node = m; again = nat_le 2 t }))
seat_other_by t m t' m' e h =
    ap (λ k. if nat_eq k 0 then None else Some (record { node = m'; again = nat_le 2 k })) e ∙ by (nat_eq t 0) h
  where
    by : (b : Bool) → m' ≡ (if b then 0 else m) → ◌≡◌ {A = Option Seat} (if b then None else Some (record { node = m'; again = nat_le 2 t })) (if b then None else Some (record { node = m; again = nat_le 2 t }))
    by true h = refl
    by false h = ap (λ k. Some (record { node = k; again = nat_le 2 t })) h

seat_other : (ls : List Listing) (x : List ℕ) (n : ℕ) (q : List ℕ) → bytes_eq q x ≡ false → seat_of (ls ++ (x, n) ∷ []) q ≡ seat_of ls q
seat_other ls x n q e =
    seat_other_by (times ls q) (node_listed ls q) (times (ls ++ (x, n) ∷ []) q) (node_listed (ls ++ (x, n) ∷ []) q)
    (times_more ls (x, n) q ∙ ap (λ b. times ls q + cond b 1 0) e ∙ omega arith)
    (node_more ls (x, n) q ∙ ap (λ b. if nat_eq (times ls q) 0 then (if b then n else 0) else node_listed ls q) e)

-- the seats after one more listing
pub seat_more : (ls : List Listing) (x : List ℕ) (n : ℕ) (q : List ℕ) → seat_of (ls ++ (x, n) ∷ []) q ≡ cond (bytes_eq x q) (Some (next n (seat_of ls x))) (seat_of ls q)
seat_more ls x n q = by (bytes_eq x q) refl
  where
    by : (b : Bool) → bytes_eq x q ≡ b → seat_of (ls ++ (x, n) ∷ []) q ≡ cond b (Some (next n (seat_of ls x))) (seat_of ls q)
    by true e = subst (λ q. seat_of (ls ++ (x, n) ∷ []) q ≡ Some (next n (seat_of ls x))) ((bytes_eq-Decides x q).0 e) (seat_same ls x n)
    by false e = seat_other ls x n q (other (bytes_eq q x) refl)
      where
        other : (c : Bool) → bytes_eq q x ≡ c → c ≡ false
        other true h = let s : x ≡ q = sym ((bytes_eq-Decides q x).0 h) in let t : bytes_eq x q ≡ true = (bytes_eq-Decides x q).1 s in absurd (cc)
        other false h = refl

-- a map after its entry at a name was set so
pub seats_put : {S : Type 0} (m m' : HashMap (Bor (List ℕ)) Seat S) (ls : List Listing) (x : List ℕ) (n : ℕ) (s : Seat) → HasSeats m ls → ((q : List ℕ) → at_name m' q ≡ cond (bytes_eq x q) (Some s) (at_name m q)) → s ≡ next n (at_name m x) → HasSeats m' (ls ++ (x, n) ∷ [])
seats_put m m' ls x n s h u e q =
    u q ∙ (λ i. cond (bytes_eq x q) (Some ((e ∙ ap (next n) (h x)) i)) (h q i)) ∙ sym (seat_more ls x n q)

-- ---- the lists

pub on_more : (n : ℕ) (names : List (List ℕ)) (i : ℕ) (d : List ℕ) → i < length names → listings_on n (take (i + 1) names) ≡ listings_on n (take i names) ++ (get_or names i d, n) ∷ []
on_more n names i d h = map_more (λ (name : List ℕ). (name, n)) names i d h

from_append : (n : ℕ) (xs ys : List NamedNode) → listings_from n (xs ++ ys) ≡ listings_from n xs ++ listings_from (n + length xs) ys
from_append n [] ys = ap (λ k. listings_from k ys) (omega arith)
from_append n (x ∷ xs) ys =
    ap (λ l. listings_on n x.vars ++ l) (from_append (suc n) xs ys ∙ ap (λ k. listings_from (suc n) xs ++ listings_from k ys) (omega arith))
    ∙ sym (append_assoc (listings_on n x.vars) (listings_from (suc n) xs) (listings_from (n + length (x ∷ xs)) ys))

pub from_more : (nodes : List NamedNode) (i : ℕ) (d : NamedNode) → i < length nodes → listings_from 0 (take (i + 1) nodes) ≡ listings_from 0 (take i nodes) ++ listings_on i (get_or nodes i d).vars
from_more nodes i d h =
    ap (listings_from 0) (take_more nodes i d h)
    ∙ from_append 0 (take i nodes) (get_or nodes i d ∷ [])
    ∙ ap (λ l. listings_from 0 (take i nodes) ++ l) (append-nil (listings_on (0 + length (take i nodes)) (get_or nodes i d).vars) ∙ ap (λ k. listings_on k (get_or nodes i d).vars) (taken nodes i h))
  where
    taken : (nodes : List NamedNode) (i : ℕ) → i < length nodes → 0 + length (take i nodes) ≡ i
    taken nodes i h = let t : length (take i nodes) ≡ i = length-take-le i nodes (omega arith) in omega (arith, t)

-- ---- one turn of the loops

pub list_step : {S : Type 0} (m : HashMap (Bor (List ℕ)) Seat S) (ls : List Listing) (n : ℕ) (names : List (List ℕ)) (i : ℕ) (x d : List ℕ) → i < length names → x ≡ get_or names i d → HasSeats m ((ls ++ listings_on n (take i names)) ++ (x, n) ∷ []) → HasSeats m (ls ++ listings_on n (take (i + 1) names))
list_step m ls n names i x d l e h =
    let step : (ls ++ listings_on n (take i names)) ++ (x, n) ∷ [] ≡ ls ++ listings_on n (take (i + 1) names) =
    append_assoc ls (listings_on n (take i names)) ((x, n) ∷ []) ∙ ap (λ l. ls ++ l) (ap (λ y. listings_on n (take i names) ++ (y, n) ∷ []) e ∙ sym (on_more n names i d l)) in
    subst (HasSeats m) step h

pub node_step : {S : Type 0} (m : HashMap (Bor (List ℕ)) Seat S) (nodes : List NamedNode) (i : ℕ) (node : NamedNode) (vars : List (List ℕ)) → i < length nodes → node ≡ get_or nodes i node → vars ≡ node.vars → HasSeats m (listings_from 0 (take i nodes) ++ listings_on i vars) → HasSeats m (listings_from 0 (take (i + 1) nodes))
node_step m nodes i node vars l e v h =
    subst (HasSeats m) (ap (λ vs. listings_from 0 (take i nodes) ++ listings_on i vs) (v ∙ ap (λ (n : NamedNode). n.vars) e) ∙ sym (from_more nodes i node l)) h
