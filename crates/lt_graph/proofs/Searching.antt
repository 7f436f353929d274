-- What a step of the search changes.
use Rattle.std.proofs.Common.{◌≡◌, ℕ, zero, suc, ◌<◌, ◌≤◌, ◌-◌, ◌⊎◌, inl, inr, Bool, true, false, List, length, get_or, refl, sym, ap, ◌∙◌, subst, arith, leb-true, leb-false}
use Rattle.std.specs.Prelude.{nat_eq, nat_le, if◌then◌else◌}
use Rattle.std.proofs.lemmas.Bool.Decides.{leb_tells, eqb_tells}
use Rattle.lt_base.proofs.Lookups.{same_self}
use Rattle.lt_graph.specs.Tables.{next, Leads}
use Rattle.lt_graph.specs.Reach.{IsOrReaches}
use Rattle.lt_graph.specs.Search.{Searching, NoStart, Settled, IsMet, IsDone, closed_mark}
use Rattle.lt_graph.specs.declared.search.Mark.{Mark}
use Rattle.lt_graph.specs.declared.search.Mark.TheVariants.{New, Open, Done}
use Rattle.lt_graph.proofs.Reaches.{has_place, reach_same, reach_step, reach_trans, reach_on}

-- ---- marks

is_done : (k : Mark) → IsDone k → (c : ℕ) × (k ≡ Done c)
is_done New h = absurd h
is_done (Open i) h = absurd h
is_done (Done c) h = (c, refl)

done_is : (k : Mark) (c : ℕ) → k ≡ Done c → IsDone k
done_is k c e = subst IsDone (sym e) tt

not_open_done : (k : Mark) (i : ℕ) → IsDone k → k ≡ Open i → ⊥
not_open_done New i h e = h
not_open_done (Open j) i h e = h
not_open_done (Done c) i h e = cc

pub closed_new : (q c : ℕ) (k : Mark) → closed_mark q c k ≡ New → k ≡ New
closed_new q c New e = refl
closed_new q c (Open j) e = by (nat_le q j) e
  where
    by : (b : Bool) → (if b then Done c else Open j) ≡ New → Open j ≡ New
    by true e = absurd (cc)
    by false e = absurd (cc)
closed_new q c (Done d) e = e

closed_open : (q c : ℕ) (k : Mark) (i : ℕ) → closed_mark q c k ≡ Open i → (k ≡ Open i) × (i < q)
closed_open q c New i e = absurd (cc)
closed_open q c (Open j) i e = by (nat_le q j) refl e
  where
    by : (b : Bool) → nat_le q j ≡ b → (if b then Done c else Open j) ≡ Open i → (Open j ≡ Open i) × (i < q)
    by true t e = absurd (cc)
    by false t e = let same : j ≡ i = cc in (e, omega (arith, leb-false q j t, same))
closed_open q c (Done d) i e = absurd (cc)

closed_done : (q c : ℕ) (k : Mark) (d : ℕ) → closed_mark q c k ≡ Done d → (k ≡ Done d) ⊎ ((j : ℕ) × (k ≡ Open j) × (q ≤ j) × (d ≡ c))
closed_done q c New d e = absurd (cc)
closed_done q c (Open j) d e = by (nat_le q j) refl e
  where
    by : (b : Bool) → nat_le q j ≡ b → (if b then Done c else Open j) ≡ Done d → (Open j ≡ Done d) ⊎ ((i : ℕ) × (Open j ≡ Open i) × (q ≤ i) × (d ≡ c))
    by true t e = let same : c ≡ d = cc in inr (j, refl, leb-true q j t, sym same)
    by false t e = absurd (cc)
closed_done q c (Done d') d e = inl e

pub closed_low : (q c i : ℕ) → i < q → closed_mark q c (Open i) ≡ Open i
closed_low q c i l = elim (leb_tells q i) [ inl e ↦ absurd (let a = e.1 in omega (arith, a, l)) | inr e ↦ ap (λ b. if b then Done c else Open i) e.0 ]

pub closed_high : (q c i : ℕ) → q ≤ i → closed_mark q c (Open i) ≡ Done c
closed_high q c i l = elim (leb_tells q i) [ inl e ↦ ap (λ b. if b then Done c else Open i) e.0 | inr e ↦ absurd (let a = e.1 in omega (arith, a, l)) ]

closed_still : (q c : ℕ) (k : Mark) → IsDone k → IsDone (closed_mark q c k)
closed_still q c New h = h
closed_still q c (Open j) h = absurd h
closed_still q c (Done d) h = tt

module _ (g : List (List ℕ)) (m : ℕ → Mark) (rest stack : ℕ → ℕ) (height : ℕ) (Start OnPath : ℕ → Type 0) (s : Searching g m rest stack height Start OnPath) where
  abbrev R : ℕ → ℕ → Type 0
  R = Leads g

  -- what is done leads to what is done
  done_on : (x y : ℕ) → IsOrReaches R x y → IsDone (m x) → IsDone (m y)
  done_on = reach_on R (λ z. IsDone (m z)) (λ x y d l. let k = is_done (m x) d in s.closed x k.0 k.1 y l)

  -- ---- the last number of the path has been looked at, and no part begins with it
  module _ (q : ℕ) (none : rest (stack q) ≡ 0) (OnPath' : ℕ → Type 0) (was : (i : ℕ) → OnPath' i → OnPath i) (keeps : (i : ℕ) → OnPath i → (i ≡ q → ⊥) → OnPath' i) where
    waits_left : (i : ℕ) → i < height → 0 < rest (stack i) → OnPath' i
    waits_left i l p = keeps i (s.waits i l p) (λ e. let n = ap (λ j. rest (stack j)) e ∙ none in omega (arith, n, p))

    pub leave : (Start q → ⊥) → Searching g m rest stack height Start OnPath'
    leave never = record {
      small = s.small;
      fresh = s.fresh;
      stacked = s.stacked;
      placed = s.placed;
      ahead = s.ahead;
      back = s.back;
      looked = s.looked;
      closed = s.closed;
      named = s.named;
      together = s.together;
      waits = waits_left;
      started = λ p h. keeps p (s.started p h) (λ e. never (subst Start e h));
      first = s.first;
      inside = λ i h. s.inside i (was i h);
    }

    -- ---- a part begins with it: the part is closed
    module _ (inside : q < height) (begins : Start q) (most : (i : ℕ) → OnPath i → i ≤ q) (below : (i : ℕ) → OnPath' i → i < q) (Start' : ℕ → Type 0) (start_was : (p : ℕ) → Start' p → Start p × (p < q)) (start_keeps : (p : ℕ) → Start p → (p ≡ q → ⊥) → Start' p)
        (m' : ℕ → Mark) (marks : (z : ℕ) → m' z ≡ closed_mark q (stack q) (m z)) (stack' : ℕ → ℕ) (same : (i : ℕ) → i < q → stack' i ≡ stack i) where
      no_later : (j : ℕ) → NoStart Start q j
      no_later j p h a b = let l = most p (s.started p h) in omega (arith, l, a)

      settled_still : (i : ℕ) (k : Mark) → Settled Start i k → Settled Start' i (closed_mark q (stack q) k)
      settled_still i New h = h
      settled_still i (Open j) h = by (nat_le q j)
        where
          by : (b : Bool) → Settled Start' i (if b then Done (stack q) else Open j)
          by true = tt
          by false = λ p a b c. h p (start_was p a).0 b c
      settled_still i (Done c) h = tt

      -- what the closed part leads to is done
      settled_done : (i : ℕ) (k : Mark) → q ≤ i → Settled Start i k → IsDone (closed_mark q (stack q) k)
      settled_done i New l h = h
      settled_done i (Open j) l h = elim (leb_tells q j) [
        | inl e ↦ subst IsDone (sym (ap (λ b. if b then Done (stack q) else Open j) e.0)) tt
        | inr e ↦ absurd (h q begins (let a = e.1 in omega (arith, a)) l)
      ]
      settled_done i (Done c) l h = tt

      looked_at : (x i : ℕ) → m x ≡ Open i → q ≤ i → (y : ℕ) → R x y → IsDone (m' y)
      looked_at x i o l y r =
          let at = s.placed x i o in
          let here = has_place y (next g x) r in
          let zero : rest x ≡ 0 = all_looked x i at.1 l at.0 in
          let there = s.looked i here.0 at.0 (let e = ap rest at.1 ∙ zero in omega (arith, e)) (let e = ap (λ z. length (next g z)) at.1 in let n = here.1 in omega (arith, e, n)) in
          let settled : Settled Start i (m y) = subst (λ z. Settled Start i (m z)) (ap (λ z. get_or (next g z) here.0 0) at.1 ∙ here.2) there in
          subst IsDone (sym (marks y)) (settled_done i (m y) l settled)
        where
          zero_or : (n : ℕ) → (0 < n → ⊥) → n ≡ 0
          zero_or zero h = refl
          zero_or (suc n) h = absurd (h (omega arith))

          all_looked : (x i : ℕ) → stack i ≡ x → q ≤ i → i < height → rest x ≡ 0
          all_looked x i e l in' = zero_or (rest x) (λ p.
              let on = s.waits i in' (let k = ap rest e in omega (arith, k, p)) in
              let top : i ≡ q = let a = most i on in omega (arith, a, l) in
              let none' : rest x ≡ 0 = ap rest (sym e ∙ ap stack top) ∙ none in
              omega (arith, none', p))

      closed_now : (x c : ℕ) → m' x ≡ Done c → (y : ℕ) → R x y → IsDone (m' y)
      closed_now x c h y r = elim (closed_done q (stack q) (m x) c (sym (marks x) ∙ h)) [
        | inl e ↦ subst IsDone (sym (marks y)) (closed_still q (stack q) (m y) (s.closed x c e y r))
        | inr e ↦ looked_at x e.0 e.1 e.2 y r
      ]

      named_now : (x c : ℕ) → m' x ≡ Done c → IsOrReaches R x c × IsOrReaches R c x
      named_now x c h = elim (closed_done q (stack q) (m x) c (sym (marks x) ∙ h)) [
        | inl e ↦ s.named x c e
        | inr e ↦
            let at = s.placed x e.0 e.1 in
            let up = s.ahead q e.0 e.2 at.0 in
            let down = s.back q e.0 e.2 at.0 (no_later e.0) in
            (subst (λ z. IsOrReaches R z c) at.1 (subst (IsOrReaches R (stack e.0)) (sym e.3) down), subst (IsOrReaches R c) at.1 (subst (λ z. IsOrReaches R z (stack e.0)) (sym e.3) up))
      ]

      together_now : (x y a b : ℕ) → m' x ≡ Done a → m' y ≡ Done b → IsOrReaches R x y → IsOrReaches R y x → a ≡ b
      together_now x y a b h k up down = elim (closed_done q (stack q) (m x) a (sym (marks x) ∙ h)) [
        | inl e ↦ elim (closed_done q (stack q) (m y) b (sym (marks y) ∙ k)) [
          | inl f ↦ s.together x y a b e f up down
          | inr f ↦ absurd (not_open_done (m y) f.0 (done_on x y up (done_is (m x) a e)) f.1)
        ]
        | inr e ↦ elim (closed_done q (stack q) (m y) b (sym (marks y) ∙ k)) [
          | inl f ↦ absurd (not_open_done (m x) e.0 (done_on y x down (done_is (m y) b f)) e.1)
          | inr f ↦ e.3 ∙ sym f.3
        ]
      ]

      pub close : Searching g m' rest stack' q Start' OnPath'
      close = record {
        small = s.small;
        fresh = λ x l h. s.fresh x l (closed_new q (stack q) (m x) (sym (marks x) ∙ h));
        stacked = λ i l. ap m' (same i l) ∙ marks (stack i) ∙ ap (closed_mark q (stack q)) (s.stacked i (omega (arith, l, inside))) ∙ closed_low q (stack q) i l;
        placed = λ x i h. let o = closed_open q (stack q) (m x) i (sym (marks x) ∙ h) in (o.1, same i o.1 ∙ (s.placed x i o.0).1);
        ahead = λ i j l k. subst (λ z. IsOrReaches R z (stack' j)) (sym (same i (omega (arith, l, k)))) (subst (IsOrReaches R (stack i)) (sym (same j k)) (s.ahead i j l (omega (arith, k, inside))));
        back = λ i j l k n. subst (λ z. IsOrReaches R z (stack' i)) (sym (same j k)) (subst (IsOrReaches R (stack j)) (sym (same i (omega (arith, l, k)))) (s.back i j l (omega (arith, k, inside)) (λ p h a b. n p (start_keeps p h (λ e. omega (arith, e, b, k))) a b)));
        looked = λ i k l a b.
            let e = same i l in
            subst (λ z. Settled Start' i (m' (get_or (next g z) k 0))) (sym e)
            (subst (Settled Start' i) (sym (marks (get_or (next g (stack i)) k 0)))
            (settled_still i (m (get_or (next g (stack i)) k 0)) (s.looked i k (omega (arith, l, inside)) (subst (λ z. rest z ≤ k) e a) (subst (λ z. k < length (next g z)) e b))));
        closed = closed_now;
        named = named_now;
        together = together_now;
        waits = λ i l p. waits_left i (omega (arith, l, inside)) (subst (λ z. 0 < rest z) (same i l) p);
        started = λ p h. let a = start_was p h in keeps p (s.started p a.0) (λ e. let b = a.1 in omega (arith, b, e));
        first = λ l. start_keeps 0 (s.first (omega (arith, l, inside))) (λ e. omega (arith, e, l));
        inside = below;
      }

      pub close_met : (z : ℕ) → IsMet (m z) → IsMet (m' z)
      close_met z h e = h (closed_new q (stack q) (m z) (sym (marks z) ∙ e))

  -- ---- a number is put on the stack as a part of its own
  module _ (y : ℕ) (within : y < length g) (new : m y ≡ New) (reached : (i : ℕ) → i < height → IsOrReaches R (stack i) y)
      (m' : ℕ → Mark) (marks : (z : ℕ) → m' z ≡ (if nat_eq z y then Open height else m z)) (stack' : ℕ → ℕ) (same : (i : ℕ) → i < height → stack' i ≡ stack i) (last : stack' height ≡ y)
      (Start' : ℕ → Type 0) (start_was : (p : ℕ) → Start' p → Start p ⊎ (height ≡ p)) (start_keeps : (p : ℕ) → Start p → Start' p) (start_new : Start' height)
      (OnPath' : ℕ → Type 0) (path_was : (p : ℕ) → OnPath' p → OnPath p ⊎ (height ≡ p)) (path_keeps : (p : ℕ) → OnPath p → OnPath' p) (path_new : OnPath' height) where
    mark_new : m' y ≡ Open height
    mark_new = marks y ∙ ap (λ b. if b then Open height else m y) (same_self y)

    mark_old : (z : ℕ) → (z ≡ y → ⊥) → m' z ≡ m z
    mark_old z n = elim (eqb_tells z y) [ inl e ↦ absurd (n e.1) | inr e ↦ marks z ∙ ap (λ b. if b then Open height else m z) e.0 ]

    which : (z : ℕ) → (z ≡ y) ⊎ (m' z ≡ m z)
    which z = elim (eqb_tells z y) [ inl e ↦ inl e.1 | inr e ↦ inr (marks z ∙ ap (λ b. if b then Open height else m z) e.0) ]

    still_done : (z : ℕ) → IsDone (m z) → IsDone (m' z)
    still_done z h = elim (which z) [ inl e ↦ absurd (subst IsDone (ap m e ∙ new) h) | inr e ↦ subst IsDone (sym e) h ]

    was_done : (z c : ℕ) → m' z ≡ Done c → m z ≡ Done c
    was_done z c h = elim (which z) [ inl e ↦ let k = ap m' e ∙ mark_new in absurd (cc) | inr e ↦ sym e ∙ h ]

    split : (i : ℕ) → i < suc height → (i < height) ⊎ (i ≡ height)
    split i l = elim (leb_tells (suc i) height) [ inl a ↦ inl (let b = a.1 in omega (arith, b)) | inr a ↦ inr (let b = a.1 in omega (arith, b, l)) ]

    settled_more : (i : ℕ) → i < height → (z : ℕ) → Settled Start i (m z) → Settled Start' i (m' z)
    settled_more i l z h = elim (which z) [
      | inl e ↦ absurd (subst (Settled Start i) (ap m e ∙ new) h)
      | inr e ↦ subst (Settled Start' i) (sym e) (by (m z) h)
    ]
      where
        by : (k : Mark) → Settled Start i k → Settled Start' i k
        by New h = h
        by (Open j) h = λ p a b c. elim (start_was p a) [ inl d ↦ h p d b c | inr e ↦ omega (arith, e, c, l) ]
        by (Done c) h = tt

    stacked_now : (i : ℕ) → i < suc height → m' (stack' i) ≡ Open i
    stacked_now i l = elim (split i l) [
      | inl a ↦ ap m' (same i a) ∙ mark_old (stack i) (λ e. let k = s.stacked i a in let n = ap m e ∙ new in absurd (cc)) ∙ s.stacked i a
      | inr e ↦ ap m' (ap stack' e ∙ last) ∙ mark_new ∙ ap Open (sym e)
    ]

    placed_now : (x i : ℕ) → m' x ≡ Open i → (i < suc height) × (stack' i ≡ x)
    placed_now x i h = elim (which x) [
      | inl e ↦ let at : height ≡ i = (let k : Open height ≡ Open i = sym mark_new ∙ ap m' (sym e) ∙ h in cc) in (omega (arith, at), ap stack' (sym at) ∙ last ∙ sym e)
      | inr e ↦ let a = s.placed x i (sym e ∙ h) in ((let l = a.0 in omega (arith, l)), same i a.0 ∙ a.1)
    ]

    ahead_now : (i j : ℕ) → i ≤ j → j < suc height → IsOrReaches R (stack' i) (stack' j)
    ahead_now i j l k = elim (split j k) [
      | inl b ↦ subst (λ z. IsOrReaches R z (stack' j)) (sym (same i (omega (arith, l, b)))) (subst (IsOrReaches R (stack i)) (sym (same j b)) (s.ahead i j l b))
      | inr e ↦ elim (split i (omega (arith, l, k))) [
        | inl a ↦ subst (λ z. IsOrReaches R z (stack' j)) (sym (same i a)) (subst (IsOrReaches R (stack i)) (sym (ap stack' e ∙ last)) (reached i a))
        | inr f ↦ reach_same R (stack' i) (stack' j) (ap stack' (f ∙ sym e))
      ]
    ]

    back_now : (i j : ℕ) → i ≤ j → j < suc height → NoStart Start' i j → IsOrReaches R (stack' j) (stack' i)
    back_now i j l k n = elim (split j k) [
      | inl b ↦ subst (λ z. IsOrReaches R z (stack' i)) (sym (same j b)) (subst (IsOrReaches R (stack j)) (sym (same i (omega (arith, l, b)))) (s.back i j l b (λ p h c d. n p (start_keeps p h) c d)))
      | inr e ↦ elim (split i (omega (arith, l, k))) [
        | inl a ↦ absurd (n height start_new a (omega (arith, e)))
        | inr f ↦ reach_same R (stack' j) (stack' i) (ap stack' (e ∙ sym f))
      ]
    ]

    looked_now : (i k : ℕ) → i < suc height → rest (stack' i) ≤ k → k < length (next g (stack' i)) → Settled Start' i (m' (get_or (next g (stack' i)) k 0))
    looked_now i k l a b = elim (split i l) [
      | inl c ↦
          let e = same i c in
          subst (λ z. Settled Start' i (m' (get_or (next g z) k 0))) (sym e) (settled_more i c (get_or (next g (stack i)) k 0) (s.looked i k c (subst (λ z. rest z ≤ k) e a) (subst (λ z. k < length (next g z)) e b)))
      | inr e ↦
          let at = ap stack' e ∙ last in
          let f = s.fresh y within new in
          absurd (let c = ap rest at in let d = ap (λ z. length (next g z)) at in omega (arith, a, b, c, d, f))
    ]

    pub add : Searching g m' rest stack' (suc height) Start' OnPath'
    add = record {
      small = s.small;
      fresh = λ x l h. elim (which x) [ inl e ↦ let k = ap m' e ∙ mark_new in absurd (cc) | inr e ↦ s.fresh x l (sym e ∙ h) ];
      stacked = stacked_now;
      placed = placed_now;
      ahead = ahead_now;
      back = back_now;
      looked = looked_now;
      closed = λ x c h z r. still_done z (s.closed x c (was_done x c h) z r);
      named = λ x c h. s.named x c (was_done x c h);
      together = λ x z a b h k. s.together x z a b (was_done x a h) (was_done z b k);
      waits = λ i l p. elim (split i l) [ inl a ↦ path_keeps i (s.waits i a (subst (λ z. 0 < rest z) (same i a) p)) | inr e ↦ subst OnPath' (sym e) path_new ];
      started = λ p h. elim (start_was p h) [ inl a ↦ path_keeps p (s.started p a) | inr e ↦ subst OnPath' e path_new ];
      first = λ l. elim (split 0 l) [ inl a ↦ start_keeps 0 (s.first a) | inr e ↦ subst Start' (sym e) start_new ];
      inside = λ i h. elim (path_was i h) [ inl a ↦ let b = s.inside i a in omega (arith, b) | inr e ↦ omega (arith, e) ];
    }

    pub add_met : (z : ℕ) → IsMet (m z) → IsMet (m' z)
    add_met z h e = elim (which z) [ inl f ↦ let k = ap m' f ∙ mark_new in absurd (cc) | inr f ↦ h (sym f ∙ e) ]

    pub add_met_here : IsMet (m' y)
    add_met_here e = let k = mark_new in absurd (cc)

    -- what leads to it is settled
    pub add_settled : (q : ℕ) → q < height → Settled Start' q (m' y)
    add_settled q l = subst (Settled Start' q) (sym mark_new) (λ p a b c. omega (arith, b, c, l))

  -- each number of the stack reaches the last of the path
  module _ (q : ℕ) (inside : q < height) (most : (i : ℕ) → OnPath i → i ≤ q) where
    pub to_last : (j : ℕ) → j < height → IsOrReaches R (stack j) (stack q)
    to_last j l = elim (leb_tells j q) [
      | inl a ↦ s.ahead j q a.1 inside
      | inr a ↦ s.back q j (let b = a.1 in omega (arith, b)) l (λ p h c d. let b = most p (s.started p h) in omega (arith, b, c))
    ]

  -- ---- it leads to a number of an earlier part, or of its own: the parts from there on are joined
  module _ (q at y : ℕ) (inside : q < height) (most : (i : ℕ) → OnPath i → i ≤ q) (opened : m y ≡ Open at) (leads : R (stack q) y) (Start' : ℕ → Type 0) (start_was : (p : ℕ) → Start' p → Start p × (p ≤ at)) (start_keeps : (p : ℕ) → Start p → p ≤ at → Start' p) where
    back_joined : (i j : ℕ) → i ≤ j → j < height → NoStart Start' i j → IsOrReaches R (stack j) (stack i)
    back_joined i j l k n =
        let o = s.placed y at opened in
        let there : IsOrReaches R (stack j) (stack at) = reach_trans R (stack j) (stack q) (stack at) (to_last q inside most j k) (reach_step R (stack q) (stack at) (subst (R (stack q)) (sym o.1) leads)) in
        elim (leb_tells j at) [
          | inl a ↦ s.back i j l k (λ p h c d. n p (start_keeps p h (let e = a.1 in omega (arith, e, d))) c d)
          | inr a ↦ reach_trans R (stack j) (stack at) (stack i) there (elim (leb_tells at i) [
            | inl b ↦ s.ahead at i b.1 (omega (arith, l, k))
            | inr b ↦ s.back i at (let e = b.1 in omega (arith, e)) o.0 (λ p h c d. n p (start_keeps p h d) c (let e = a.1 in omega (arith, e, d)))
          ])
        ]

    settled_joined : (i : ℕ) (k : Mark) → Settled Start i k → Settled Start' i k
    settled_joined i New h = h
    settled_joined i (Open j) h = λ p a b c. h p (start_was p a).0 b c
    settled_joined i (Done c) h = tt

    pub join : Searching g m rest stack height Start' OnPath
    join = record {
      small = s.small;
      fresh = s.fresh;
      stacked = s.stacked;
      placed = s.placed;
      ahead = s.ahead;
      back = back_joined;
      looked = λ i k l a b. settled_joined i (m (get_or (next g (stack i)) k 0)) (s.looked i k l a b);
      closed = s.closed;
      named = s.named;
      together = s.together;
      waits = s.waits;
      started = λ p h. s.started p (start_was p h).0;
      first = λ l. start_keeps 0 (s.first l) (omega arith);
      inside = s.inside;
    }

    pub join_settled : Settled Start' q (m y)
    join_settled = subst (Settled Start' q) (sym opened) (λ p a b c. let d = (start_was p a).1 in omega (arith, b, d))

  -- ---- one more of the numbers that it leads to was looked at
  module _ (q left : ℕ) (inside : q < height) (within : stack q < length g) (is : rest (stack q) ≡ left) (some : 0 < left) (on : OnPath q) (settled : Settled Start q (m (get_or (next g (stack q)) (left - 1) 0)))
      (rest' : ℕ → ℕ) (fewer : (z : ℕ) → rest' z ≡ (if nat_eq z (stack q) then left - 1 else rest z)) where
    rest_here : rest' (stack q) ≡ left - 1
    rest_here = fewer (stack q) ∙ ap (λ b. if b then left - 1 else rest (stack q)) (same_self (stack q))

    which_rest : (z : ℕ) → (z ≡ stack q) ⊎ (rest' z ≡ rest z)
    which_rest z = elim (eqb_tells z (stack q)) [ inl e ↦ inl e.1 | inr e ↦ inr (fewer z ∙ ap (λ b. if b then left - 1 else rest z) e.0) ]

    lower : (z : ℕ) → rest' z ≤ rest z
    lower z = elim (which_rest z) [ inl e ↦ let a = ap rest' e ∙ rest_here in let b = ap rest e in omega (arith, a, b, is) | inr e ↦ omega (arith, e) ]

    same_place : (i : ℕ) → i < height → stack i ≡ stack q → i ≡ q
    same_place i l e = let a = s.stacked i l in let b = s.stacked q inside in let c : Open i ≡ Open q = sym a ∙ ap m e ∙ b in cc

    looked_more : (i k : ℕ) → i < height → rest' (stack i) ≤ k → k < length (next g (stack i)) → Settled Start i (m (get_or (next g (stack i)) k 0))
    looked_more i k l a b = elim (which_rest (stack i)) [
      | inl e ↦ elim (leb_tells (rest (stack i)) k) [
        | inl c ↦ s.looked i k l c.1 b
        | inr c ↦
            let at : k ≡ left - 1 = let d = c.1 in let f = ap rest' e ∙ rest_here in let h = ap rest e in omega (arith, d, f, h, a, is, some) in
            let place = same_place i l e in
            subst (λ j. Settled Start j (m (get_or (next g (stack j)) k 0))) (sym place) (subst (λ j. Settled Start q (m (get_or (next g (stack q)) j 0))) (sym at) settled)
      ]
      | inr e ↦ s.looked i k l (omega (arith, e, a)) b
    ]

    pub pass : Searching g m rest' stack height Start OnPath
    pass = record {
      small = λ x l. let a = lower x in let b = s.small x l in omega (arith, a, b);
      fresh = λ x l h. elim (which_rest x) [ inl e ↦ let o = s.stacked q inside in let k = ap m (sym e) ∙ h in absurd (cc) | inr e ↦ e ∙ s.fresh x l h ];
      stacked = s.stacked;
      placed = s.placed;
      ahead = s.ahead;
      back = s.back;
      looked = looked_more;
      closed = s.closed;
      named = s.named;
      together = s.together;
      waits = λ i l p. s.waits i l (let a = lower (stack i) in omega (arith, a, p));
      started = s.started;
      first = s.first;
      inside = s.inside;
    }
