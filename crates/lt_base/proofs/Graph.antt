-- A graph of finitely many nodes has ranks where it has no closed walk: for equations and for calls alike.
use Rattle.std.proofs.Common.{◌≡◌, ℕ, zero, suc, ◌<◌, ◌≤◌, ◌⊎◌, inl, inr, Bool, true, false, List, [], ◌∷◌, length, refl, sym, ap, ◌∙◌, subst, arith, eqb-true, leb-true, leb-false, ⊎_elim}
use Rattle.std.specs.Prelude.{◌&&◌, ◌||◌, nat_eq, nat_le, if◌then◌else◌}
use Rattle.std.specs.List.{list_all, IsDistinct, AllByRecursion}
use Rattle.std.specs.Cmp.{nat_eq_equiv}
use Rattle.std.proofs.lemmas.Map.Made.{length-le_from_is_member}
use Rattle.lt_base.specs.Dependence.{has}
use Rattle.lt_base.specs.Graph.{Walks, ClosedWalk, NoClosedWalk}
use Rattle.lt_base.proofs.Lookups.{same_self}
use Rattle.lt_base.proofs.Reading.{or_left, or_right}

-- ---- ranks leave no closed walk

module _ (R : ℕ → ℕ → Type 0) (rank : ℕ → ℕ) (lower : (x y : ℕ) → R x y → rank y < rank x) where
  walk_lower : (zs : List ℕ) (x y : ℕ) → Walks R x zs y → rank y < rank x
  walk_lower [] x y w = lower x y w
  walk_lower (z ∷ zs) x y w = let a = lower x z w.0 in let b = walk_lower zs z y w.1 in omega arith

  pub no_closed_walk : NoClosedWalk R
  no_closed_walk [] w = elim w [ ]
  no_closed_walk (x ∷ xs) w = let a = walk_lower xs x x w in absurd (omega arith)

-- ---- settled after n rounds

module _ (next : ℕ → List ℕ) (sink : ℕ → Bool) (ends : (x : ℕ) → sink x ≡ true → next x ≡ []) where
  abbrev pub Leads : ℕ → ℕ → Type 0
  Leads x y = has y (next x) ≡ true

  abbrev pub settled : ℕ → ℕ → Bool
  settled zero x = sink x
  settled (suc n) x = list_all (settled n) (next x)

  all_members : (t : ℕ → Bool) (xs : List ℕ) → list_all t xs ≡ true → (y : ℕ) → has y xs ≡ true → t y ≡ true
  all_members t [] h y m = absurd (cc)
  all_members t (x ∷ xs) h y m =
      let go : (a : Bool) → t x ≡ a → (a && list_all t xs) ≡ true → (b : Bool) → nat_eq y x ≡ b → (b || has y xs) ≡ true → t y ≡ true =
      elim [
        | true ↦ λ p q. elim [ true ↦ λ e _. ap t (eqb-true y x e) ∙ p | false ↦ λ _ k. all_members t xs q y k ]
        | false ↦ λ p q. absurd (cc)
      ] in
      go (t x) refl h (nat_eq y x) refl m

  all_from : (t : ℕ → Bool) (xs : List ℕ) → ((y : ℕ) → has y xs ≡ true → t y ≡ true) → list_all t xs ≡ true
  all_from t [] m = refl
  all_from t (x ∷ xs) m =
      let here = m x (or_left (nat_eq x x) (has x xs) (same_self x)) in
      let later = all_from t xs (λ y h. m y (or_right (nat_eq y x) (has y xs) h)) in
      λ i. here i && later i

  no_next : (x : ℕ) → sink x ≡ true → (t : ℕ → Bool) → list_all t (next x) ≡ true
  no_next x h t = ap (list_all t) (ends x h)

  pub settled_more : (n x : ℕ) → settled n x ≡ true → settled (suc n) x ≡ true
  settled_more zero x h = no_next x h (settled zero)
  settled_more (suc n) x h = all_from (settled (suc n)) (next x) (λ y m. settled_more n y (all_members (settled n) (next x) h y m))

  -- the first round, of n at most, from which on the variable is settled
  abbrev pub place : ℕ → ℕ → ℕ
  place zero x = zero
  place (suc n) x = if settled n x then place n x else suc n

  place_le : (n x : ℕ) → place n x ≤ n
  place_le zero x = omega arith
  place_le (suc n) x =
      let go : (b : Bool) → (if b then place n x else suc n) ≤ suc n = elim [ true ↦ omega (arith, place_le n x) | false ↦ omega arith ] in
      go (settled n x)

  le_cases : (m n : ℕ) → m ≤ suc n → (m ≤ n) ⊎ (m ≡ suc n)
  le_cases m n l =
      let go : (b : Bool) → nat_le m n ≡ b → (m ≤ n) ⊎ (m ≡ suc n) = elim [ true ↦ λ e. inl (leb-true m n e) | false ↦ λ e. inr (omega (arith, leb-false m n e)) ] in
      go (nat_le m n) refl

  pub settled_up : (n m x : ℕ) → m ≤ n → settled m x ≡ true → settled n x ≡ true
  settled_up zero m x l h = let e : m ≡ zero = omega arith in subst (λ k. settled k x ≡ true) e h
  settled_up (suc n) m x l h = ⊎_elim (λ k. settled_more n x (settled_up n m x k h)) (λ e. subst (λ k. settled k x ≡ true) e h) (le_cases m n l)

  place_below : (n m x : ℕ) → m ≤ n → settled m x ≡ true → place n x ≤ m
  place_below zero m x l h = omega arith
  place_below (suc n) m x l h =
      let inner : m ≤ n → (b : Bool) → settled n x ≡ b → (if b then place n x else suc n) ≤ m =
      λ k. elim [ true ↦ λ e. place_below n m x k h | false ↦ λ e. let up = settled_up n m x k h in absurd (cc) ] in
      ⊎_elim (λ k. inner k (settled n x) refl) (λ e. omega (arith, place_le (suc n) x, e)) (le_cases m n l)

  pub is_settled : (n x : ℕ) → settled n x ≡ true → settled (place n x) x ≡ true
  is_settled zero x h = h
  is_settled (suc n) x h =
      let go : (b : Bool) → settled n x ≡ b → settled (if b then place n x else suc n) x ≡ true = elim [ true ↦ λ e. is_settled n x e | false ↦ λ e. h ] in
      go (settled n x) refl

  -- ---- what is never settled walks on

  -- each depends on the next, and each has an equation
  abbrev Chain : List ℕ → Type 0
  Chain [] = Unit {0}
  Chain (x ∷ []) = sink x ≡ false
  Chain (x ∷ y ∷ ys) = Leads x y × (sink x ≡ false) × Chain (y ∷ ys)

  some_member : (t : ℕ → Bool) (xs : List ℕ) → list_all t xs ≡ false → (y : ℕ) × (has y xs ≡ true) × (t y ≡ false)
  some_member t [] h = absurd (cc)
  some_member t (x ∷ xs) h =
      let go : (b : Bool) → t x ≡ b → (b && list_all t xs) ≡ false → (y : ℕ) × (has y (x ∷ xs) ≡ true) × (t y ≡ false) =
      elim [
        | true ↦ λ p q. let r = some_member t xs q in (r.0, or_right (nat_eq r.0 x) (has r.0 xs) r.1, r.2)
        | false ↦ λ p q. (x, or_left (nat_eq x x) (has x xs) (same_self x), p)
      ] in
      go (t x) refl h

  -- a walk of n + 1 variables
  record Long (n x : ℕ) : Type 0 where
    more : List ℕ
    chain : Chain (x ∷ more)
    long : length more ≡ n

  unsettled_first : (n x : ℕ) → settled n x ≡ false → sink x ≡ false
  unsettled_first n x h =
      let go : (b : Bool) → sink x ≡ b → b ≡ false =
      elim [ true ↦ λ e. let up = settled_up n zero x (omega arith) e in absurd (cc) | false ↦ λ e. refl ] in
      go (sink x) refl

  unsettled : (n x : ℕ) → settled n x ≡ false → Long n x
  unsettled zero x h = record { more = []; chain = h; long = refl }
  unsettled (suc n) x h =
      let s = some_member (settled n) (next x) h in
      let l = unsettled n s.0 s.2 in
      record { more = s.0 ∷ l.more; chain = (s.1, unsettled_first (suc n) x h, l.chain); long = ap suc l.long }

  to_walk : (x : ℕ) (xs : List ℕ) → Chain (x ∷ xs) → (y : ℕ) → has y xs ≡ true → (zs : List ℕ) × Walks Leads x zs y
  to_walk x [] c y h = absurd (cc)
  to_walk x (z ∷ xs) c y h =
      let go : (b : Bool) → nat_eq y z ≡ b → (b || has y xs) ≡ true → (zs : List ℕ) × Walks Leads x zs y =
      elim [
        | true ↦ λ e _. ([], subst (Leads x) (sym (eqb-true y z e)) c.0)
        | false ↦ λ e k. let r = to_walk z xs c.2 y k in (z ∷ r.0, (c.0, r.1))
      ] in
      go (nat_eq y z) refl h

  tail_chain : (x : ℕ) (xs : List ℕ) → Chain (x ∷ xs) → Chain xs
  tail_chain x [] c = tt
  tail_chain x (y ∷ ys) c = c.2

  apart : (x : ℕ) (xs : List ℕ) → has x xs ≡ false → AllByRecursion (λ y. nat_eq x y ≡ false) xs
  apart x [] h = tt
  apart x (y ∷ ys) h =
      let go : (b : Bool) → nat_eq x y ≡ b → (b || has x ys) ≡ false → AllByRecursion (λ y. nat_eq x y ≡ false) (y ∷ ys) =
      elim [ true ↦ λ e k. absurd (cc) | false ↦ λ e k. (e, apart x ys k) ] in
      go (nat_eq x y) refl h

  repeated : (xs : List ℕ) → Chain xs → IsDistinct nat_eq xs ⊎ ((ws : List ℕ) × ClosedWalk Leads ws)
  unfolding IsDistinct
  repeated [] c = inl tt
  repeated (x ∷ xs) c =
      let go : (b : Bool) → has x xs ≡ b → IsDistinct nat_eq (x ∷ xs) ⊎ ((ws : List ℕ) × ClosedWalk Leads ws) =
      elim [
        | true ↦ λ e. let r = to_walk x xs c x e in inr (x ∷ r.0, r.1)
        | false ↦ λ e. ⊎_elim (λ d. inl (apart x xs e, d)) inr (repeated xs (tail_chain x xs c))
      ] in
      go (has x xs) refl

  chain_lefts : (nodes : List ℕ) → ((x : ℕ) → sink x ≡ false → has x nodes ≡ true) → (xs : List ℕ) → Chain xs → (q : ℕ) → has q xs ≡ true → has q nodes ≡ true
  chain_lefts nodes listed [] c q h = absurd (cc)
  chain_lefts nodes listed (x ∷ xs) c q h =
      let first : sink x ≡ false = head_equation xs c in
      let go : (b : Bool) → nat_eq q x ≡ b → (b || has q xs) ≡ true → has q nodes ≡ true =
      elim [
        | true ↦ λ e _. listed q (subst (λ z. sink z ≡ false) (sym (eqb-true q x e)) first)
        | false ↦ λ e k. chain_lefts nodes listed xs (tail_chain x xs c) q k
      ] in
      go (nat_eq q x) refl h
    where
      head_equation : (ys : List ℕ) → Chain (x ∷ ys) → sink x ≡ false
      head_equation [] d = d
      head_equation (y ∷ ys) d = d.1

  module _ (nodes : List ℕ) (listed : (x : ℕ) → sink x ≡ false → has x nodes ≡ true) (causal : NoClosedWalk Leads) where
    all_settled : (x : ℕ) → settled (length nodes) x ≡ true
    all_settled x =
        let n = length nodes in
        let never : Long n x → ⊥ = λ l.
        ⊎_elim
        (λ d.
        let short = length-le_from_is_member nat_eq_equiv (x ∷ l.more) nodes d (chain_lefts nodes listed (x ∷ l.more) l.chain) in
        let long = l.long in
        omega (arith, short, long))
        (λ w. causal w.0 w.1)
        (repeated (x ∷ l.more) l.chain) in
        let go : (b : Bool) → settled n x ≡ b → b ≡ true = elim [ true ↦ λ _. refl | false ↦ λ e. absurd (never (unsettled n x e)) ] in
        go (settled n x) refl

    abbrev pub order : ℕ → ℕ
    order x = place (length nodes) x

    before_by : (x y p : ℕ) → Leads x y → order x ≡ p → settled p x ≡ true → order y < p
    before_by x y zero d e s = let none = all_members (λ _. false) (next x) (no_next x s (λ _. false)) y d in absurd (cc)
    before_by x y (suc p) d e s =
        let here = all_members (settled p) (next x) s y d in
        let low = place_le (length nodes) x in
        omega (arith, place_below (length nodes) p y (omega (arith, low, e)) here)

    pub before : (x y : ℕ) → Leads x y → order y < order x
    before x y d = before_by x y (order x) d refl (is_settled (length nodes) x (all_settled x))

    pub order_le : (x : ℕ) → order x ≤ length nodes
    order_le x = place_le (length nodes) x

    pub order_pos : (x : ℕ) → sink x ≡ false → 0 < order x
    order_pos x h = order_pos_by x h (order x) (is_settled (length nodes) x (all_settled x))
      where
        order_pos_by : (x : ℕ) → sink x ≡ false → (p : ℕ) → settled p x ≡ true → 0 < p
        order_pos_by x h zero s = absurd (cc)
        order_pos_by x h (suc p) s = omega arith
