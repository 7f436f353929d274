-- At most one fault is the first, and it excludes a legal placement.
use Rattle.std.proofs.Common.{◌≡◌, ◌≢◌, ℕ, ◌<◌, true, List, [], ◌∷◌, ◌++◌, Some, sym, ap, ◌∙◌, subst, arith, ⊎_elim}
use Rattle.std.specs.Prelude.{slice_get}
use Rattle.std.proofs.lemmas.Bool.{cases_order}
use Rattle.lt_base.specs.Meaning.{ClockPairs, clock_of}
use Rattle.lt_base.specs.Dependence.{has}
use Rattle.lt_base.specs.Program.{GoodFunction}
use Rattle.lt_base.proofs.Lookups.{left_below}
use Rattle.lt_norm.specs.Flat.{Originated}
use Rattle.lt_place_reads.specs.Reads.{unless_base}
use Rattle.lt_arch.specs.declared.placement.Placement.{Placement}
use Rattle.lt_place.specs.declared.fault.PlaceFault.{PlaceFault}
use Rattle.lt_place.specs.declared.fault.PlaceFault.TheVariants.{Unplaced, PlacedTwice, UnknownName, DirectCross, SlowCross, ClockElsewhere}
use Rattle.lt_place.specs.Nodes.{Listing, listings, IsNameOfMain, EachKnown}
use Rattle.lt_place.specs.Legal.{Legal}
use Rattle.lt_place.specs.Faults.{IsLowest, IsUnplaced, IsPlacedTwice, AllOnce, IsFirstUnknown, IsClear, IsReached, IsFirstPlaceFault, judged_variables, IsClockElsewhere, IsDirectCross, IsSlowCross}

same_lowest : (P : ℕ → Type 0) (m n : ℕ) → IsLowest P m → IsLowest P n → m ≡ n
same_lowest P m n a b = let p = a.lowest n b.holds in let q = b.lowest m a.holds in omega (arith, p, q)

-- ---- names

known_at : (f : Originated) (xs : List Listing) (y : Listing) (ys : List Listing) → EachKnown f (xs ++ y ∷ ys) → IsNameOfMain f y.0
known_at f [] y ys k = k.0
known_at f (x ∷ xs) y ys k = known_at f xs y ys k.1

head_of : Listing → List Listing → Listing
head_of d [] = d
head_of d (x ∷ xs) = x

tail_of : List Listing → List Listing
tail_of [] = []
tail_of (x ∷ xs) = xs

same_unknown_by : (f : Originated) (xs : List Listing) (m : List ℕ) (j : ℕ) (ys xs' : List Listing) (n : List ℕ) (k : ℕ) (ys' : List Listing) → xs ++ (m, j) ∷ ys ≡ xs' ++ (n, k) ∷ ys' → EachKnown f xs → EachKnown f xs' → (IsNameOfMain f m → ⊥) → (IsNameOfMain f n → ⊥) → m ≡ n
same_unknown_by f [] m j ys [] n k ys' e a b u v = let h : (m, j) ≡ (n, k) = cc in ap (λ (l : Listing). l.0) h
same_unknown_by f [] m j ys (x ∷ xs') n k ys' e a b u v = let h : (m, j) ≡ x = cc in absurd (u (subst (λ (l : Listing). IsNameOfMain f l.0) (sym h) b.0))
same_unknown_by f (x ∷ xs) m j ys [] n k ys' e a b u v = let h : x ≡ (n, k) = cc in absurd (v (subst (λ (l : Listing). IsNameOfMain f l.0) h a.0))
same_unknown_by f (x ∷ xs) m j ys (x' ∷ xs') n k ys' e a b u v = let h : xs ++ (m, j) ∷ ys ≡ xs' ++ (n, k) ∷ ys' = cc in same_unknown_by f xs m j ys xs' n k ys' h a.1 b.1 u v

same_unknown : (f : Originated) (p : Placement) (m n : List ℕ) → IsFirstUnknown f p m → IsFirstUnknown f p n → m ≡ n
same_unknown f p m n a b = same_unknown_by f a.before m a.node a.after b.before n b.node b.after (sym a.listed ∙ b.listed) a.known b.known a.unknown b.unknown

module _ (f : Originated) (p : Placement) where
  once_placed : AllOnce f p → (x : ℕ) → IsUnplaced f p x → ⊥
  once_placed a x h = let e = a x h.0 in absurd (omega (arith, e, h.1))

  once_not_twice : AllOnce f p → (x : ℕ) → IsPlacedTwice f p x → ⊥
  once_not_twice a x h = let e = a x h.0 in absurd (omega (arith, e, h.1))

  none_unknown : EachKnown f (listings p) → (n : List ℕ) → IsFirstUnknown f p n → ⊥
  none_unknown k n u = u.unknown (known_at f u.before (n, u.node) u.after (subst (EachKnown f) u.listed k))

  -- ---- turns

  one_turn : (m n : ℕ) → IsReached f p m → IsReached f p n → (IsClear f p m → ⊥) → (IsClear f p n → ⊥) → m ≡ n
  one_turn m n a b u v =
      ⊎_elim
      (λ (e : a.turn ≡ b.turn). let h : Some m ≡ Some n = sym a.here ∙ ap (slice_get (judged_variables f)) e ∙ b.here in cc)
      (⊎_elim (λ (l : a.turn < b.turn). absurd (u (b.before a.turn m l a.here))) (λ (l : b.turn < a.turn). absurd (v (a.before b.turn n l b.here))))
      (cases_order a.turn b.turn)

  clock_unclear : (m n : ℕ) → IsLowest (IsClockElsewhere f p m) n → IsClear f p m → ⊥
  clock_unclear m n h c = c.clocks n h.holds

  direct_unclear : (m n : ℕ) → IsLowest (IsDirectCross f p m) n → IsClear f p m → ⊥
  direct_unclear m n h c = c.direct n h.holds

  slow_unclear : (m n : ℕ) → IsLowest (IsSlowCross f p m) n → IsClear f p m → ⊥
  slow_unclear m n h c = c.slow n h.holds

  -- at most one fault is the first
  pub one_first : (a b : PlaceFault) → IsFirstPlaceFault f p a → IsFirstPlaceFault f p b → a ≡ b
  one_first (Unplaced x) (Unplaced y) h k = ap Unplaced (same_lowest (IsUnplaced f p) x y h k)
  one_first (Unplaced x) (PlacedTwice y) h k = absurd (k.0 x h.holds)
  one_first (Unplaced x) (UnknownName n) h k = absurd (once_placed k.0 x h.holds)
  one_first (Unplaced x) (DirectCross m n) h k = absurd (once_placed k.0.once x h.holds)
  one_first (Unplaced x) (SlowCross m n) h k = absurd (once_placed k.0.once x h.holds)
  one_first (Unplaced x) (ClockElsewhere m n) h k = absurd (once_placed k.0.once x h.holds)
  one_first (PlacedTwice x) (Unplaced y) h k = absurd (h.0 y k.holds)
  one_first (PlacedTwice x) (PlacedTwice y) h k = ap PlacedTwice (same_lowest (IsPlacedTwice f p) x y h.1 k.1)
  one_first (PlacedTwice x) (UnknownName n) h k = absurd (once_not_twice k.0 x h.1.holds)
  one_first (PlacedTwice x) (DirectCross m n) h k = absurd (once_not_twice k.0.once x h.1.holds)
  one_first (PlacedTwice x) (SlowCross m n) h k = absurd (once_not_twice k.0.once x h.1.holds)
  one_first (PlacedTwice x) (ClockElsewhere m n) h k = absurd (once_not_twice k.0.once x h.1.holds)
  one_first (UnknownName a) (Unplaced y) h k = absurd (once_placed h.0 y k.holds)
  one_first (UnknownName a) (PlacedTwice y) h k = absurd (once_not_twice h.0 y k.1.holds)
  one_first (UnknownName a) (UnknownName b) h k = ap UnknownName (same_unknown f p a b h.1 k.1)
  one_first (UnknownName a) (DirectCross m n) h k = absurd (none_unknown k.0.known a h.1)
  one_first (UnknownName a) (SlowCross m n) h k = absurd (none_unknown k.0.known a h.1)
  one_first (UnknownName a) (ClockElsewhere m n) h k = absurd (none_unknown k.0.known a h.1)
  one_first (DirectCross m n) (Unplaced y) h k = absurd (once_placed h.0.once y k.holds)
  one_first (DirectCross m n) (PlacedTwice y) h k = absurd (once_not_twice h.0.once y k.1.holds)
  one_first (DirectCross m n) (UnknownName b) h k = absurd (none_unknown h.0.known b k.1)
  one_first (DirectCross m n) (DirectCross m' n') h k =
      let e = one_turn m m' h.0 k.0 (direct_unclear m n h.2) (direct_unclear m' n' k.2) in
      let d = same_lowest (IsDirectCross f p m') n n' (subst (λ z. IsLowest (IsDirectCross f p z) n) e h.2) k.2 in
      λ i. DirectCross (e i) (d i)
  one_first (DirectCross m n) (SlowCross m' n') h k =
      let e = one_turn m m' h.0 k.0 (direct_unclear m n h.2) (slow_unclear m' n' k.3) in
      absurd (k.2 n (subst (λ z. IsDirectCross f p z n) e h.2.holds))
  one_first (DirectCross m n) (ClockElsewhere m' n') h k =
      let e = one_turn m m' h.0 k.0 (direct_unclear m n h.2) (clock_unclear m' n' k.1) in
      absurd (h.1 n' (subst (λ z. IsClockElsewhere f p z n') (sym e) k.1.holds))
  one_first (SlowCross m n) (Unplaced y) h k = absurd (once_placed h.0.once y k.holds)
  one_first (SlowCross m n) (PlacedTwice y) h k = absurd (once_not_twice h.0.once y k.1.holds)
  one_first (SlowCross m n) (UnknownName b) h k = absurd (none_unknown h.0.known b k.1)
  one_first (SlowCross m n) (DirectCross m' n') h k =
      let e = one_turn m m' h.0 k.0 (slow_unclear m n h.3) (direct_unclear m' n' k.2) in
      absurd (h.2 n' (subst (λ z. IsDirectCross f p z n') (sym e) k.2.holds))
  one_first (SlowCross m n) (SlowCross m' n') h k =
      let e = one_turn m m' h.0 k.0 (slow_unclear m n h.3) (slow_unclear m' n' k.3) in
      let d = same_lowest (IsSlowCross f p m') n n' (subst (λ z. IsLowest (IsSlowCross f p z) n) e h.3) k.3 in
      λ i. SlowCross (e i) (d i)
  one_first (SlowCross m n) (ClockElsewhere m' n') h k =
      let e = one_turn m m' h.0 k.0 (slow_unclear m n h.3) (clock_unclear m' n' k.1) in
      absurd (h.1 n' (subst (λ z. IsClockElsewhere f p z n') (sym e) k.1.holds))
  one_first (ClockElsewhere m n) (Unplaced y) h k = absurd (once_placed h.0.once y k.holds)
  one_first (ClockElsewhere m n) (PlacedTwice y) h k = absurd (once_not_twice h.0.once y k.1.holds)
  one_first (ClockElsewhere m n) (UnknownName b) h k = absurd (none_unknown h.0.known b k.1)
  one_first (ClockElsewhere m n) (DirectCross m' n') h k =
      let e = one_turn m m' h.0 k.0 (clock_unclear m n h.1) (direct_unclear m' n' k.2) in
      absurd (k.1 n (subst (λ z. IsClockElsewhere f p z n) e h.1.holds))
  one_first (ClockElsewhere m n) (SlowCross m' n') h k =
      let e = one_turn m m' h.0 k.0 (clock_unclear m n h.1) (slow_unclear m' n' k.3) in
      absurd (k.1 n (subst (λ z. IsClockElsewhere f p z n) e h.1.holds))
  one_first (ClockElsewhere m n) (ClockElsewhere m' n') h k =
      let e = one_turn m m' h.0 k.0 (clock_unclear m n h.1) (clock_unclear m' n' k.1) in
      let d = same_lowest (IsClockElsewhere f p m') n n' (subst (λ z. IsLowest (IsClockElsewhere f p z) n) e h.1) k.1 in
      λ i. ClockElsewhere (e i) (d i)

  -- ---- a legal placement has no fault

  unless_has : (ck : ClockPairs) (ys : List ℕ) (y : ℕ) → has y (unless_base ck ys) ≡ true → (ck ≢ []) × (has y ys ≡ true)
  unless_has [] ys y h = absurd (cc)
  unless_has (q ∷ ck) ys y h = ((λ e. absurd (cc)), h)

  legal_clear : GoodFunction f.func → Legal f p → (m : ℕ) → IsClear f p m
  legal_clear good l m = record {
    clocks = λ n r. r.apart (l.clocks r.reader r.read (left_below f.func good r.reader r.right r.equation) r.reads);
    direct = λ n r. r.apart (l.direct r.reader r.right r.read r.equation r.reads);
    slow = λ n r. let u = unless_has (clock_of f.func.decls r.reader) _ r.read r.reads in r.apart (l.slow r.reader r.right r.read r.equation u.0 u.1);
  }

  pub not_legal : GoodFunction f.func → (e : PlaceFault) → IsFirstPlaceFault f p e → Legal f p → ⊥
  not_legal good (Unplaced x) h l = once_placed l.once x h.holds
  not_legal good (PlacedTwice x) h l = once_not_twice l.once x h.1.holds
  not_legal good (UnknownName n) h l = none_unknown l.known n h.1
  not_legal good (DirectCross m n) h l = direct_unclear m n h.2 (legal_clear good l m)
  not_legal good (SlowCross m n) h l = slow_unclear m n h.3 (legal_clear good l m)
  not_legal good (ClockElsewhere m n) h l = clock_unclear m n h.1 (legal_clear good l m)
