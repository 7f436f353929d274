-- The names that a placement lists, and the variables of `main`.
use Rattle.std.proofs.Common.{◌≡◌, ℕ, zero, suc, ◌+◌, ◌-◌, ◌<◌, Bool, true, false, cond, List, [], ◌∷◌, ◌++◌, length, map, take, drop, replicate, get_or, Option, Some, None, refl, sym, ap, ◌∙◌, subst, arith, ⊎_elim, Bor}
use Rattle.std.specs.Option.{is_some}
use Rattle.std.specs.Str.{bytes_eq}
use Rattle.std.specs.HashMap.{HashMap}
use Rattle.std.proofs.lemmas.List.{append_assoc, append-nil, map_more}
use Rattle.std.proofs.lemmas.Bool.{cases_eq}
use Rattle.std.proofs.lemmas.Slice.Eq.{bytes_eq-Decides}
use Rattle.lt_base.specs.declared.function.Decl.{Decl}
use Rattle.lt_norm.specs.Flat.{Originated}
use Rattle.lt_place_reads.specs.Origins.{IsMain, HasOrigins, variable_count, name_in, name_of}
use Rattle.lt_arch.specs.declared.named.NamedNode.{NamedNode}
use Rattle.lt_place.specs.declared.seats.Seat.{Seat}
use Rattle.lt_place.specs.Nodes.{Listing, listings_on, listings_from, IsNameOfMain, EachKnown}
use Rattle.lt_place.specs.Seats.{at_name, KnowsMain, EachIn, IsFirstOut, seat_of, seats_of}
use Rattle.lt_place.proofs.Lists.{name_get}

abbrev Named : Type 0 → Type 0 → Type 0
Named X S = HashMap (Bor (List ℕ)) X S

none_of : {X : Type 0} (o : Option X) → is_some o ≡ false → o ≡ None
none_of None h = refl
none_of (Some x) h = absurd (cc)

some_of : {X : Type 0} (o : Option X) → is_some o ≡ true → (x : X) × (o ≡ Some x)
some_of None h = absurd (cc)
some_of (Some x) h = (x, refl)

-- ---- lists of names

on_split : (n : ℕ) (names : List (List ℕ)) (i : ℕ) (d : List ℕ) → i < length names → listings_on n names ≡ listings_on n (take i names) ++ (get_or names i d, n) ∷ listings_on n (drop (suc i) names)
on_split n [] i d l = absurd (omega arith)
on_split n (x ∷ xs) zero d l = refl
on_split n (x ∷ xs) (suc i) d l = ap (λ l. (x, n) ∷ l) (on_split n xs i d (omega arith))

from_split : (n : ℕ) (nodes : List NamedNode) (i : ℕ) (d : NamedNode) → i < length nodes → listings_from n nodes ≡ listings_from n (take i nodes) ++ (listings_on (n + i) (get_or nodes i d).vars ++ listings_from (suc (n + i)) (drop (suc i) nodes))
from_split n [] i d l = absurd (omega arith)
from_split n (x ∷ xs) zero d l = ap (λ k. listings_on k x.vars ++ listings_from (suc k) xs) (omega arith)
from_split n (x ∷ xs) (suc i) d l =
    let k : suc n + i ≡ n + suc i = omega arith in
    ap (λ l. listings_on n x.vars ++ l) (from_split (suc n) xs i d (omega arith) ∙ ap (λ k. listings_from (suc n) (take i xs) ++ (listings_on k (get_or xs i d).vars ++ listings_from (suc k) (drop (suc i) xs))) k)
    ∙ sym (append_assoc (listings_on n x.vars) (listings_from (suc n) (take i xs)) (listings_on (n + suc i) (get_or xs i d).vars ++ listings_from (suc (n + suc i)) (drop (suc i) xs)))

module _ {X S : Type 0} (m : Named X S) where
  pub in_append : (xs ys : List Listing) → EachIn m xs → EachIn m ys → EachIn m (xs ++ ys)
  in_append [] ys h k = k
  in_append (x ∷ xs) ys h k = (h.0, in_append xs ys h.1 k)

  pub out_here : (n : ℕ) (names : List (List ℕ)) (i : ℕ) (x : List ℕ) (b : Bool) → EachIn m (listings_on n (take i names)) → i < length names → x ≡ get_or names i x → b ≡ is_some (at_name m x) → b ≡ false → IsFirstOut m (listings_on n names) x
  out_here n names i x b h l e s k = record {
    before = listings_on n (take i names);
    node = n;
    after = listings_on n (drop (suc i) names);
    listed = on_split n names i x l ∙ ap (λ y. listings_on n (take i names) ++ (y, n) ∷ listings_on n (drop (suc i) names)) (sym e);
    each = h;
    none = none_of (at_name m x) (sym s ∙ k);
  }

  pub in_more : (n : ℕ) (names : List (List ℕ)) (i : ℕ) (x : List ℕ) (b : Bool) → EachIn m (listings_on n (take i names)) → i < length names → x ≡ get_or names i x → b ≡ is_some (at_name m x) → b ≡ true → EachIn m (listings_on n (take (i + 1) names))
  in_more n names i x b h l e s k =
      subst (EachIn m) (ap (λ y. listings_on n (take i names) ++ (y, n) ∷ []) e ∙ sym (map_more (λ (name : List ℕ). (name, n)) names i x l))
      (in_append (listings_on n (take i names)) ((x, n) ∷ []) h (sym s ∙ k, tt))

  pub out_later : (n : ℕ) (nodes : List NamedNode) (i : ℕ) (node : NamedNode) (vars : List (List ℕ)) (x : List ℕ) → EachIn m (listings_from n (take i nodes)) → i < length nodes → node ≡ get_or nodes i node → vars ≡ node.vars → ((k : ℕ) → IsFirstOut m (listings_on k vars) x) → IsFirstOut m (listings_from n nodes) x
  out_later n nodes i node vars x h l e v o =
      let w = o (n + i) in
      let rest = listings_from (suc (n + i)) (drop (suc i) nodes) in
      let front = listings_from n (take i nodes) in
      let same : listings_on (n + i) (get_or nodes i node).vars ≡ w.before ++ (x, w.node) ∷ w.after = sym (ap (listings_on (n + i)) (v ∙ ap (λ (n : NamedNode). n.vars) e)) ∙ w.listed in
      record {
        before = front ++ w.before;
        node = w.node;
        after = w.after ++ rest;
        listed = from_split n nodes i node l
            ∙ ap (λ z. front ++ (z ++ rest)) same
            ∙ ap (λ z. front ++ z) (append_assoc w.before ((x, w.node) ∷ w.after) rest)
            ∙ sym (append_assoc front w.before ((x, w.node) ∷ (w.after ++ rest)));
        each = in_append front w.before h w.each;
        none = w.none;
      }

  pub in_node : (n : ℕ) (nodes : List NamedNode) (i : ℕ) (node : NamedNode) (vars : List (List ℕ)) → EachIn m (listings_from n (take i nodes)) → i < length nodes → node ≡ get_or nodes i node → vars ≡ node.vars → ((k : ℕ) → EachIn m (listings_on k vars)) → EachIn m (listings_from n (take (i + 1) nodes))
  in_node n nodes i node vars h l e v o =
      subst (EachIn m)
      (ap (λ vs. listings_from n (take i nodes) ++ listings_on (n + i) vs) (v ∙ ap (λ (n : NamedNode). n.vars) e) ∙ sym (more n nodes i l))
      (in_append (listings_from n (take i nodes)) (listings_on (n + i) vars) h (o (n + i)))
    where
      more : (n : ℕ) (nodes : List NamedNode) (i : ℕ) → i < length nodes → listings_from n (take (i + 1) nodes) ≡ listings_from n (take i nodes) ++ listings_on (n + i) (get_or nodes i node).vars
      more n [] i l = absurd (omega arith)
      more n (x ∷ xs) zero l = append-nil (listings_on n x.vars) ∙ ap (λ k. listings_on k x.vars) (omega arith)
      more n (x ∷ xs) (suc i) l =
          let k : suc n + i ≡ n + suc i = omega arith in
          let s : suc i + 1 ≡ suc (i + 1) = omega arith in
          ap (λ t. listings_from n (take t (x ∷ xs))) s
          ∙ ap (λ l. listings_on n x.vars ++ l) (more (suc n) xs i (omega arith) ∙ ap (λ k. listings_from (suc n) (take i xs) ++ listings_on k (get_or xs i node).vars) k)
          ∙ sym (append_assoc (listings_on n x.vars) (listings_from (suc n) (take i xs)) (listings_on (n + suc i) (get_or xs i node).vars))

-- ---- the variables of `main`

module _ {S : Type 0} (f : Originated) (i : ℕ) (m : Named ℕ S) (k : KnowsMain f i m) where
  pub known_skip : (IsMain f i → ⊥) → KnowsMain f (i + 1) m
  known_skip h = record {
    sound = k.sound;
    complete = λ x l s. ⊎_elim (λ (e : x ≡ i). absurd (h (subst (IsMain f) e s))) (λ e. k.complete x (omega (arith, e)) s) (cases_eq x i);
  }

  pub known_put : IsMain f i → (m' : Named ℕ S) → ((q : List ℕ) → at_name m' q ≡ cond (bytes_eq (name_of f i) q) (Some i) (at_name m q)) → KnowsMain f (i + 1) m'
  known_put h m' u = record {
    sound = λ q x e. sound_by q x (bytes_eq (name_of f i) q) refl (sym (u q) ∙ e);
    complete = λ x l s. ap is_some (u (name_of f x)) ∙ complete_by x l s (bytes_eq (name_of f i) (name_of f x)) refl;
  }
    where
      sound_by : (q : List ℕ) (x : ℕ) (b : Bool) → bytes_eq (name_of f i) q ≡ b → cond b (Some i) (at_name m q) ≡ Some x → IsMain f x × (name_of f x ≡ q)
      sound_by q x true e z = let same : i ≡ x = cc in subst (λ x. IsMain f x × (name_of f x ≡ q)) same (h, (bytes_eq-Decides (name_of f i) q).0 e)
      sound_by q x false e z = k.sound q x z

      complete_by : (x : ℕ) → x < i + 1 → IsMain f x → (b : Bool) → bytes_eq (name_of f i) (name_of f x) ≡ b → is_some (cond b (Some i) (at_name m (name_of f x))) ≡ true
      complete_by x l s true e = refl
      complete_by x l s false e =
          ⊎_elim
          (λ (y : x ≡ i). let t : bytes_eq (name_of f i) (name_of f x) ≡ true = (bytes_eq-Decides (name_of f i) (name_of f x)).1 (ap (name_of f) (sym y)) in absurd (cc))
          (λ y. k.complete x (omega (arith, y)) s) (cases_eq x i)

module _ {S : Type 0} (f : Originated) (i : ℕ) (m : Named ℕ S) (k : KnowsMain f i m) (decls : List Decl) (origin : List ℕ) (ds : decls ≡ f.func.decls) (os : origin ≡ f.origin) (l : i < length decls) where
  pub known_then : get_or origin i 0 ≡ i → (d : Decl) (name : List ℕ) → d ≡ get_or decls i d → name ≡ d.name → (m' : Named ℕ S) → ((q : List ℕ) → at_name m' q ≡ cond (bytes_eq name q) (Some i) (at_name m q)) → KnowsMain f (i + 1) m'
  known_then own d name e n m' u =
      let dl = ap length ds in
      let main : IsMain f i = record { declared = omega (arith, dl, l); own = sym (ap (λ (xs : List ℕ). get_or xs i 0) os) ∙ own } in
      let named : name ≡ name_of f i = n ∙ ap (λ (d : Decl). d.name) e ∙ sym (name_get decls i d l) ∙ ap (λ xs. name_in xs i) ds in
      known_put f i m k main m' (λ q. u q ∙ ap (λ z. cond (bytes_eq z q) (Some i) (at_name m q)) named)

  pub known_else : (get_or origin i 0 ≡ i → ⊥) → KnowsMain f (i + 1) m
  known_else h = known_skip f i m k (λ s. h (ap (λ (xs : List ℕ). get_or xs i 0) os ∙ s.own))

module _ {S : Type 0} (f : Originated) (m : Named ℕ S) (k : KnowsMain f (variable_count f) m) where
  pub each_known : (ls : List Listing) → EachIn m ls → EachKnown f ls
  each_known [] h = tt
  each_known (l ∷ ls) h =
      let s = some_of (at_name m l.0) h.0 in
      let r = k.sound l.0 s.0 s.1 in
      ((s.0, r.0, r.1), each_known ls h.1)

  pub not_known : (name : List ℕ) → at_name m name ≡ None → IsNameOfMain f name → ⊥
  not_known name e w =
      let t = k.complete w.0 w.1.declared w.1 in
      let s : is_some (at_name m name) ≡ true = subst (λ n. is_some (at_name m n) ≡ true) w.2 t in
      let r : is_some (at_name m name) ≡ false = ap is_some e in
      absurd (cc)

-- ---- the seat of each variable

pub seat_step : (f : Originated) (ls : List Listing) (origin : List ℕ) (i : ℕ) (decls : List Decl) (d : Decl) (name : List ℕ) (o : Option Seat) → i < length origin → decls ≡ f.func.decls → get_or origin i 0 < length decls → name ≡ (get_or decls (get_or origin i 0) d).name → o ≡ seat_of ls name → (each each' : List (Option Seat)) → each ≡ seats_of f ls (take i origin) → each' ≡ each ++ o ∷ [] → each' ≡ seats_of f ls (take (i + 1) origin)
seat_step f ls origin i decls d name o l e b n s each each' h k =
    let here : o ≡ seat_of ls (name_of f (get_or origin i 0)) =
    s ∙ ap (seat_of ls) (n ∙ sym (name_get decls (get_or origin i 0) d b) ∙ ap (λ ds. name_in ds (get_or origin i 0)) e) in
    k ∙ (λ j. h j ++ here j ∷ []) ∙ sym (map_more (λ x. seat_of ls (name_of f x)) origin i 0 l)

pub owner_inside : (f : Originated) → HasOrigins f → (origin : List ℕ) (decls : List Decl) (i : ℕ) → origin ≡ f.origin → decls ≡ f.func.decls → i < length origin → get_or origin i 0 < length decls
owner_inside f h origin decls i o d l =
    let e = h.each in
    let ol = ap length o in
    let dl = ap length d in
    let m = (h.main i (omega (arith, e, ol, l))).declared in
    let same : get_or origin i 0 ≡ get_or f.origin i 0 = ap (λ (xs : List ℕ). get_or xs i 0) o in
    omega (arith, m, same, dl)

no_front : (n : ℕ) (ys : List ℕ) → ◌++◌ {A = ℕ} (take n []) ys ≡ ys
no_front zero ys = refl
no_front (suc n) ys = refl

all_zero : (xs : List ℕ) → replicate {A = ℕ} (length xs) 0 ≡ map (λ (o : ℕ). 0) xs
all_zero [] = refl
all_zero (x ∷ xs) = ap (λ l. 0 ∷ l) (all_zero xs)

pub zeros : (origin : List ℕ) (n : ℕ) → n ≡ length origin → ◌++◌ {A = ℕ} (take n []) (replicate (n - 0) 0) ≡ map (λ (o : ℕ). 0) origin
zeros origin n e =
    let k : n - 0 ≡ length origin = omega arith in
    no_front n (replicate (n - 0) 0) ∙ ap (λ k. replicate {A = ℕ} k 0) k ∙ all_zero origin

pub resized_zeros : (origin : List ℕ) (n k : ℕ) (xs : List ℕ) → n ≡ length origin → xs ≡ [] → k ≡ 0 → ◌++◌ {A = ℕ} (take n xs) (replicate {A = ℕ} (n - k) 0) ≡ map (λ (o : ℕ). 0) origin
resized_zeros origin n k xs e x z = (λ i. ◌++◌ {A = ℕ} (take n (x i)) (replicate {A = ℕ} (n - z i) 0)) ∙ zeros origin n e
