-- Steps in order: each reads what was written before it, and writes a cell that none before it touches.
use Rattle.std.proofs.Common.{◌≡◌, ◌≢◌, ℕ, ◌+◌, ◌<◌, ◌≤◌, inl, inr, true, false, List, [], ◌∷◌, ◌++◌, length, take, sym, ap, subst, ◌∙◌, arith, ⊎_elim}
use Rattle.std.proofs.lemmas.List.{append_assoc, append-nil, take-append-le, take_all}
use Rattle.std.proofs.lemmas.Option.{slice_get_within}
use Rattle.lt_base.specs.Expression.{Expression, literal, variable, unary, binary, imported, choose, sampled, merged, delayed, follow, arrow, call, Arguments, no_arguments, argument}
use Rattle.lt_base.specs.Meaning.{ClockPairs, outer}
use Rattle.lt_base.specs.Order.{EachRead, EachArgumentRead, EachClockVar}
use Rattle.lt_base.proofs.Reading.{each_map, each_argument_map, each_clock_map}
use Rattle.lt_meaning.specs.Lift.{delay_count, call_count, call_counts, part, Item, calls_in, arguments_calls}
use Rattle.lt_meaning.specs.Planned.{IsElement, AreElements, EachCell, expression_of, inner_calls, MayFollow, InOrder}
use Rattle.lt_meaning.proofs.Standing.{get_either, in_right, in_either}
use Rattle.lt_meaning.proofs.Sites.{in_one}

each_cell_map : (P Q : ℕ → Type 0) → ((s : ℕ) → P s → Q s) → (x : Item) → EachCell P x → EachCell Q x
each_cell_map P Q h x e = (each_map P Q h (expression_of x.source) e.0, each_clock_map P Q h x.clock e.1)

-- a step after others
push_order : (items : List Item) (u : Item) → InOrder items → MayFollow items u → InOrder (items ++ u ∷ [])
push_order items u o f i x h =
    elim (get_either items (u ∷ []) i x h) [
      | inl e ↦ let l = slice_get_within items i x e in subst (λ l. MayFollow l x) (sym (take-append-le i items (u ∷ []) (omega (arith, l)))) (o i x e)
      | inr r ↦
          let same : u ≡ x = in_one u x (r.0, r.2) in
          let place : i ≡ length items = let l = slice_get_within (u ∷ []) r.0 x r.2 in let e = r.1 in omega (arith, l, e) in
          let front : take i (items ++ u ∷ []) ≡ items = ap (λ n. take n (items ++ u ∷ [])) place ∙ take-append-le (length items) items (u ∷ []) (omega arith) ∙ take_all (length items) items (omega arith) in
          subst (λ l. MayFollow l x) (sym front) (subst (MayFollow items) same f)
    ]

module _ (n n_in : ℕ) (place : ℕ → ℕ) where
  -- a cell that is taken, and whose variable, if it is one, is among the first i
  abbrev pub Known : ℕ → ℕ → ℕ → Type 0
  Known i cells s = (s < cells) × (s < n → place s ≤ i)

  -- steps in order, which touch known cells
  pub record Good (items : List Item) (i cells : ℕ) : Type 0 where
    pub in_order : InOrder items
    pub reads : (x : Item) → IsElement items x → EachCell (Known i cells) x
    pub writes : (x : Item) → IsElement items x → Known i cells x.cell
    pub apart : (x : Item) → IsElement items x → n_in ≤ x.cell

  pub good_none : (i cells : ℕ) → Good [] i cells
  good_none i cells = record {
    in_order = λ j x h. absurd (cc);
    reads = λ x m. let h = m.1 in absurd (cc);
    writes = λ x m. let h = m.1 in absurd (cc);
    apart = λ x m. let h = m.1 in absurd (cc);
  }

  pub good_push : (items : List Item) (u : Item) (i i' cells cells' : ℕ) → Good items i cells → EachCell (Known i cells) u
      → AreElements (inner_calls u.delays_before u.cells_before u.source u.clock) items → ((s : ℕ) → Known i cells s → s ≢ u.cell) → ((s : ℕ) → Known i cells s → Known i' cells' s) → Known i' cells' u.cell → n_in ≤ u.cell
      → Good (items ++ u ∷ []) i' cells'
  good_push items u i i' cells cells' g reads needs other more own low = record {
    in_order = push_order items u g.in_order (record {
      needs = needs;
      own = each_cell_map (Known i cells) (λ s. s ≢ u.cell) other u reads;
      apart = λ t m. (each_cell_map (Known i cells) (λ s. s ≢ u.cell) other t (g.reads t m), other t.cell (g.writes t m));
    });
    reads = λ x m. ⊎_elim
        (λ j. each_cell_map (Known i cells) (Known i' cells') more x (g.reads x j))
        (λ j. subst (EachCell (Known i' cells')) (in_one u x j) (each_cell_map (Known i cells) (Known i' cells') more u reads))
        (in_either items (u ∷ []) x m);
    writes = λ x m. ⊎_elim (λ j. more x.cell (g.writes x j)) (λ j. subst (λ (x : Item). Known i' cells' x.cell) (in_one u x j) own) (in_either items (u ∷ []) x m);
    apart = λ x m. ⊎_elim (g.apart x) (λ j. subst (λ (x : Item). n_in ≤ x.cell) (in_one u x j) low) (in_either items (u ∷ []) x m);
  }

  more_known : (i cells cells' s : ℕ) → cells ≤ cells' → Known i cells s → Known i cells' s
  more_known i cells cells' s l h = let p = h.0 in (omega (arith, l, p), h.1)

  outer_known : (P : ℕ → Type 0) (ck : ClockPairs) → EachClockVar P ck → EachClockVar P (outer ck)
  outer_known P [] h = tt
  outer_known P ((c, b) ∷ ck) h = h.1

  weaken : (i cells more : ℕ) (e : Expression) → EachRead (Known i cells) e → EachRead (Known i (cells + more)) e
  weaken i cells more e r = each_map (Known i cells) (Known i (cells + more)) (λ s. more_known i cells (cells + more) s (omega arith)) e r

  weaken_clock : (i cells more : ℕ) (ck : ClockPairs) → EachClockVar (Known i cells) ck → EachClockVar (Known i (cells + more)) ck
  weaken_clock i cells more ck r = each_clock_map (Known i cells) (Known i (cells + more)) (λ s. more_known i cells (cells + more) s (omega arith)) ck r

  weaken_arguments : (i cells more : ℕ) (args : Arguments) → EachArgumentRead (Known i cells) args → EachArgumentRead (Known i (cells + more)) args
  weaken_arguments i cells more args r = each_argument_map (Known i cells) (Known i (cells + more)) (λ s. more_known i cells (cells + more) s (omega arith)) args r

  same_good : (items items' : List Item) (i cells cells' : ℕ) → items ≡ items' → cells ≡ cells' → Good items i cells → Good items' i cells'
  same_good items items' i cells cells' p q g = subst (λ l. Good l i cells') p (subst (λ c. Good items i c) q g)

  module _ (i : ℕ) (low : n_in ≤ n) where
    two_good : (items xs ys : List Item) (c p q : ℕ) → Good ((items ++ xs) ++ ys) i (c + p + q) → Good (items ++ (xs ++ ys)) i (c + (p + q))
    two_good items xs ys c p q g = same_good _ _ i _ _ (append_assoc items xs ys) (omega arith) g

    no_good : (items : List Item) (c : ℕ) → Good items i c → Good (items ++ []) i (c + 0)
    no_good items c g = same_good _ _ i _ _ (sym (append-nil items)) (omega arith) g

    mutual
      -- the calls of an expression, after others
      pub lifted_good : (e : Expression) (k c : ℕ) (ck : ClockPairs) (items : List Item) → n ≤ c → Good items i c → EachRead (Known i c) e → EachClockVar (Known i c) ck → Good (items ++ calls_in k c e ck) i (c + call_count e)
      lifted_good (literal v) k c ck items l g r q = no_good items c g
      lifted_good (variable x) k c ck items l g r q = no_good items c g
      lifted_good (unary o a) k c ck items l g r q = lifted_good a k c ck items l g r q
      lifted_good (binary o a b) k c ck items l g r q =
          let first = lifted_good a k c ck items l g r.0 q in
          two_good items _ _ c (call_count a) (call_count b)
          (lifted_good b (k + delay_count a) (c + call_count a) ck (items ++ calls_in k c a ck) (omega arith) first (weaken i c (call_count a) b r.1) (weaken_clock i c (call_count a) ck q))
      lifted_good (imported o a b) k c ck items l g r q =
          let first = lifted_good a k c ck items l g r.0 q in
          two_good items _ _ c (call_count a) (call_count b)
          (lifted_good b (k + delay_count a) (c + call_count a) ck (items ++ calls_in k c a ck) (omega arith) first (weaken i c (call_count a) b r.1) (weaken_clock i c (call_count a) ck q))
      lifted_good (choose t a b) k c ck items l g r q =
          let k₁ = k + delay_count t in
          let c₁ = c + call_count t in
          let k₂ = k₁ + delay_count a in
          let c₂ = c₁ + call_count a in
          let xs = calls_in k c t ck in
          let ys = calls_in k₁ c₁ a ck in
          let zs = calls_in k₂ c₂ b ck in
          let first = lifted_good t k c ck items l g r.0 q in
          let second = lifted_good a k₁ c₁ ck (items ++ xs) (omega arith) first (weaken i c (call_count t) a r.1) (weaken_clock i c (call_count t) ck q) in
          let third = lifted_good b k₂ c₂ ck ((items ++ xs) ++ ys) (omega arith) second (weaken i c₁ (call_count a) b (weaken i c (call_count t) b r.2)) (weaken_clock i c₁ (call_count a) ck (weaken_clock i c (call_count t) ck q)) in
          same_good _ _ i _ _ (ap (λ l. l ++ zs) (append_assoc items xs ys) ∙ append_assoc items (xs ++ ys) zs) (omega arith) third
      lifted_good (sampled e x b) k c ck items l g r q = lifted_good e k c (outer ck) items l g r.0 (outer_known (Known i c) ck q)
      lifted_good (merged x a b) k c ck items l g r q =
          let first = lifted_good a k c ((x, true) ∷ ck) items l g r.1 (r.0, q) in
          two_good items _ _ c (call_count a) (call_count b)
          (lifted_good b (k + delay_count a) (c + call_count a) ((x, false) ∷ ck) (items ++ calls_in k c a ((x, true) ∷ ck)) (omega arith) first (weaken i c (call_count a) b r.2) (weaken_clock i c (call_count a) ((x, false) ∷ ck) (r.0, q)))
      lifted_good (delayed v e) k c ck items l g r q = no_good items c g
      lifted_good (follow a b) k c ck items l g r q = lifted_good a k c ck items l g r q
      lifted_good (arrow a b) k c ck items l g r q =
          let first = lifted_good a k c ck items l g r.0 q in
          two_good items _ _ c (call_count a) (call_count b)
          (lifted_good b (k + delay_count a) (c + call_count a) ck (items ++ calls_in k c a ck) (omega arith) first (weaken i c (call_count a) b r.1) (weaken_clock i c (call_count a) ck q))
      lifted_good (call f args) k c ck items l g r q =
          let m = call_counts args in
          let u : Item = record { cell = c + m; clock = ck; delays_before = k; cells_before = c; source = part f args } in
          let first = arguments_good args k c ck items l g r q in
          let pushed = good_push (items ++ arguments_calls k c args ck) u i i (c + m) (c + m + 1) first (weaken_arguments i c m args r, weaken_clock i c m ck q)
          (λ x j. in_right items (arguments_calls k c args ck) x j)
          (λ s h e. let p = h.0 in absurd (omega (arith, p, e)))
          (λ s. more_known i (c + m) (c + m + 1) s (omega arith))
          (omega arith, λ less. absurd (omega (arith, less, l)))
          (omega (arith, low, l)) in
          same_good _ _ i _ _ (append_assoc items (arguments_calls k c args ck) (u ∷ [])) (omega arith) pushed

      arguments_good : (args : Arguments) (k c : ℕ) (ck : ClockPairs) (items : List Item) → n ≤ c → Good items i c → EachArgumentRead (Known i c) args → EachClockVar (Known i c) ck → Good (items ++ arguments_calls k c args ck) i (c + call_counts args)
      arguments_good no_arguments k c ck items l g r q = no_good items c g
      arguments_good (argument e args) k c ck items l g r q =
          let first = lifted_good e k c ck items l g r.0 q in
          two_good items _ _ c (call_count e) (call_counts args)
          (arguments_good args (k + delay_count e) (c + call_count e) ck (items ++ calls_in k c e ck) (omega arith) first (weaken_arguments i c (call_count e) args r.1) (weaken_clock i c (call_count e) ck q))
