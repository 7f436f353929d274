-- The search over lists: marks and places.
use Rattle.std.proofs.Common.{◌≡◌, ℕ, zero, suc, ◌<◌, ◌≤◌, ◌+◌, ◌-◌, ◌⊎◌, inl, inr, List, [], ◌∷◌, ◌++◌, length, take, get_or, set, refl, sym, ap, ◌∙◌, subst, arith}
use Rattle.std.specs.Prelude.{nat_eq, if◌then◌else◌, Result, Ok, Err, IfOk, OnOk}
use Rattle.std.specs.List.{Contains, sum}
use Rattle.std.proofs.lemmas.List.Sums.{sum_by-set}
use Rattle.std.proofs.lemmas.List.{get_or_default, get_or-set_same, get_or-set_other, get_or_past, get_or_push, get_or_append_left, length_push, get_or-take, length-take, take_more, take_at, same_from_push}
use Rattle.std.proofs.lemmas.List.Elements.{Contains-get_or, Contains-append_left, Contains-push, Contains-push_cases}
use Rattle.std.proofs.lemmas.Bool.Decides.{leb_tells, eqb_tells}
use Rattle.lt_graph.specs.Tables.{next, Leads, IsTable}
use Rattle.lt_graph.specs.Reach.{IsOrReaches, AreComponents}
use Rattle.lt_graph.specs.Search.{Searching, Keeping, Settled, IsMet, IsDone, Rising, KeepsUpTo, AreNames, closed_mark, mark}
use Rattle.lt_graph.specs.declared.search.Mark.{Mark}
use Rattle.lt_graph.specs.declared.search.Mark.TheVariants.{New, Open, Done}
use Rattle.lt_graph.proofs.Reaches.{place_has, reach_trans, reach_step}
use Rattle.lt_graph.proofs.Searching.{closed_low, closed_high, leave, close, add, to_last, join, pass}

-- ---- marks

pub mark_set : (marks : List Mark) (x : ℕ) (v : Mark) (z : ℕ) → x < length marks → mark (set marks x v) z ≡ (if nat_eq z x then v else mark marks z)
mark_set marks x v z l = elim (eqb_tells z x) [
  | inl e ↦ subst (λ w. mark (set marks x v) w ≡ v) (sym e.1) (get_or-set_same marks x v New l) ∙ ap (λ b. if b then v else mark marks z) (sym e.0)
  | inr e ↦ get_or-set_other marks x z v New e.1 ∙ ap (λ b. if b then v else mark marks z) (sym e.0)
]

pub rest_set : (rest : List ℕ) (x v z : ℕ) → x < length rest → get_or (set rest x v) z 0 ≡ (if nat_eq z x then v else get_or rest z 0)
rest_set rest x v z l = elim (eqb_tells z x) [
  | inl e ↦ subst (λ w. get_or (set rest x v) w 0 ≡ v) (sym e.1) (get_or-set_same rest x v 0 l) ∙ ap (λ b. if b then v else get_or rest z 0) (sym e.0)
  | inr e ↦ get_or-set_other rest x z v 0 e.1 ∙ ap (λ b. if b then v else get_or rest z 0) (sym e.0)
]

pub open_inside : (marks : List Mark) (x i : ℕ) → mark marks x ≡ Open i → x < length marks
open_inside marks x i h = elim (leb_tells (suc x) (length marks)) [ inl a ↦ omega (arith, a.1) | inr a ↦ let e = get_or_past marks x New (omega (arith, a.1)) in absurd (cc) ]

pub mark_read : (marks : List Mark) (y : ℕ) (k : Mark) → y < length marks → k ≡ get_or marks y k → mark marks y ≡ k
mark_read marks y k l e = get_or_default marks y New k l ∙ sym e

-- ---- the close of a part, one number after another

closed_all : (n c : ℕ) (k : Mark) → ((i : ℕ) → k ≡ Open i → i < n) → closed_mark n c k ≡ k
closed_all n c New h = refl
closed_all n c (Open j) h = closed_low n c j (h j refl)
closed_all n c (Done d) h = refl

closed_less : (n c : ℕ) (k : Mark) → (k ≡ Open n → ⊥) → closed_mark (n + 1) c k ≡ closed_mark n c k
closed_less n c New h = refl
closed_less n c (Open j) h = elim (leb_tells n j) [
  | inl a ↦ elim (eqb_tells j n) [
    | inl e ↦ absurd (h (ap Open e.1))
    | inr e ↦ let b = a.1 in let d = e.1 in closed_high (n + 1) c j (omega (arith, b, d)) ∙ sym (closed_high n c j b)
  ]
  | inr a ↦ let b = a.1 in closed_low (n + 1) c j (omega (arith, b)) ∙ sym (closed_low n c j (omega (arith, b)))
]
closed_less n c (Done d) h = refl

module _ (marks0 : List Mark) (stack0 : List ℕ) (name : ℕ) (stacked : (i : ℕ) → i < length stack0 → mark marks0 (get_or stack0 i 0) ≡ Open i) (placed : (x i : ℕ) → mark marks0 x ≡ Open i → (i < length stack0) × (get_or stack0 i 0 ≡ x)) where
  pub close_begins : (x : ℕ) → mark marks0 x ≡ closed_mark (length stack0) name (mark marks0 x)
  close_begins x = sym (closed_all (length stack0) name (mark marks0 x) (λ i e. (placed x i e).0))

  module _ (marks : List Mark) (stack stack' : List ℕ) (x : ℕ) (size : length marks ≡ length marks0) (high : length stack ≤ length stack0) (is : stack ≡ take (length stack) stack0) (top : stack ≡ stack' ++ x ∷ []) where
    one_less : length stack ≡ length stack' + 1
    one_less = ap length top ∙ length_push stack' x

    at_top : get_or stack0 (length stack') 0 ≡ x
    at_top =
        let l = one_less in
        sym (get_or-take (length stack) stack0 (length stack') 0 (omega (arith, l))) ∙ ap (λ s. get_or s (length stack') 0) (sym is ∙ top) ∙ get_or_push stack' x 0 (length stack') refl

    top_open : mark marks0 x ≡ Open (length stack')
    top_open = let l = one_less in ap (mark marks0) (sym at_top) ∙ stacked (length stack') (omega (arith, l, high))

    pub top_inside : x < length marks
    top_inside = let l = open_inside marks0 x (length stack') top_open in omega (arith, l, size)

    pub close_more : ((z : ℕ) → mark marks z ≡ closed_mark (length stack) name (mark marks0 z)) → (z : ℕ) → mark (set marks x (Done name)) z ≡ closed_mark (length stack') name (mark marks0 z)
    close_more now z = elim (eqb_tells z x) [
      | inl e ↦ mark_set marks x (Done name) z top_inside ∙ ap (λ b. if b then Done name else mark marks z) e.0 ∙ sym (closed_high (length stack') name (length stack') (omega arith)) ∙ ap (closed_mark (length stack') name) (sym top_open ∙ ap (mark marks0) (sym e.1))
      | inr e ↦
          mark_set marks x (Done name) z top_inside ∙ ap (λ b. if b then Done name else mark marks z) e.0 ∙ now z ∙ ap (λ n. closed_mark n name (mark marks0 z)) one_less
          ∙ closed_less (length stack') name (mark marks0 z) (λ o. e.1 (sym ((placed z (length stack') o).1) ∙ at_top))
    ]

    pub close_stack : stack' ≡ take (length stack') stack0
    close_stack =
        let l = one_less in
        let more = take_more stack0 (length stack') 0 (omega (arith, l, high)) in
        (same_from_push stack' (take (length stack') stack0) x (get_or stack0 (length stack') 0) (sym top ∙ is ∙ ap (λ n. take n stack0) l ∙ more)).0

-- ---- rising lists

module _ (xs : List ℕ) (t : ℕ) where
  at_front : (k : ℕ) → k < length xs → get_or (xs ++ t ∷ []) k 0 ≡ get_or xs k 0
  at_front k l = get_or_append_left xs (t ∷ []) 0 k l

  at_end : get_or (xs ++ t ∷ []) (length xs) 0 ≡ t
  at_end = get_or_push xs t 0 (length xs) refl

  pub rising_below : Rising (xs ++ t ∷ []) → (i : ℕ) → Contains xs i → i < t
  rising_below r i h =
      let n = length_push xs t in
      let l = h.1 in
      let a = r h.0 (length xs) l (omega (arith, n)) in
      let b = at_front h.0 l ∙ get_or_default xs h.0 0 i l ∙ h.2 in
      let e = at_end in
      omega (arith, a, b, e)

  pub rising_most : Rising (xs ++ t ∷ []) → (i : ℕ) → Contains (xs ++ t ∷ []) i → i ≤ t
  rising_most r i h = elim (Contains-push_cases xs t i h) [ inl a ↦ let b = rising_below r i a in omega (arith, b) | inr e ↦ omega (arith, e) ]

  pub rising_front : Rising (xs ++ t ∷ []) → Rising xs
  rising_front r i j l k =
      let n = length_push xs t in
      let a = r i j l (omega (arith, k, n)) in
      let b = at_front i (omega (arith, l, k)) in
      let c = at_front j k in
      omega (arith, a, b, c)

  pub rising_push : Rising xs → ((i : ℕ) → Contains xs i → i < t) → Rising (xs ++ t ∷ [])
  rising_push r below i j l k =
      let n = length_push xs t in
      elim (leb_tells (suc j) (length xs)) [
        | inl a ↦
            let b = a.1 in
            let c = r i j l (omega (arith, b)) in
            let d = at_front i (omega (arith, l, b)) in
            let e = at_front j (omega (arith, b)) in
            omega (arith, c, d, e)
        | inr a ↦
            let b = a.1 in
            let last : j ≡ length xs = omega (arith, b, k, n) in
            let inside : i < length xs = omega (arith, l, last) in
            let c = below (get_or xs i 0) (Contains-get_or xs i 0 inside) in
            let d = at_front i inside in
            let e = ap (λ z. get_or (xs ++ t ∷ []) z 0) last ∙ at_end in
            omega (arith, c, d, e)
      ]

  -- all but the last
  pub kept_front : (i : ℕ) → Contains (xs ++ t ∷ []) i → (i ≡ t → ⊥) → Contains xs i
  kept_front i h n = elim (Contains-push_cases xs t i h) [ inl a ↦ a | inr e ↦ absurd (n (sym e)) ]

-- ---- the end of a list

pub split_end : (xs : List ℕ) → 0 < length xs → (p : List ℕ) × (t : ℕ) × (xs ≡ p ++ t ∷ [])
split_end [] l = absurd (omega arith)
split_end (x ∷ []) l = ([], x, refl)
split_end (x ∷ y ∷ xs) l = let r = split_end (y ∷ xs) (omega arith) in (x ∷ r.0, r.1, ap (λ zs. x ∷ zs) r.2)

pub end_read : (xs p : List ℕ) (t : ℕ) → xs ≡ p ++ t ∷ [] → get_or xs (length xs - 1) 0 ≡ t
end_read xs p t e =
    let n = ap length e ∙ length_push p t in
    let k : length p ≡ length xs - 1 = omega (arith, n) in
    ap (λ k. get_or xs k 0) (sym k) ∙ ap (λ ys. get_or ys (length p) 0) e ∙ get_or_push p t 0 (length p) refl

pub end_taken : (xs p : List ℕ) (t n : ℕ) → xs ≡ p ++ t ∷ [] → n ≡ length xs → take (n - 1) xs ≡ p
end_taken xs p t n e h =
    let k = ap length e ∙ length_push p t in
    let m : length p ≡ n - 1 = omega (arith, k, h) in
    ap (λ ys. take (n - 1) ys) e ∙ take_at p (t ∷ []) (n - 1) m

-- ---- the last number of the path has been looked at

module _ (g : List (List ℕ)) (marks : List Mark) (rest stack starts path : List ℕ) (s : Searching g (mark marks) (λ x. get_or rest x 0) (λ i. get_or stack i 0) (length stack) (Contains starts) (Contains path)) (rising_path : Rising path) (rising_starts : Rising starts)
    (p : List ℕ) (q : ℕ) (top : path ≡ p ++ q ∷ []) where
  pub top_most : (i : ℕ) → Contains path i → i ≤ q
  top_most i h = rising_most p q (subst Rising top rising_path) i (subst (λ (xs : List ℕ). Contains xs i) top h)

  pub top_on : Contains path q
  top_on = subst (λ (xs : List ℕ). Contains xs q) (sym top) (Contains-push p q)

  pub top_in : q < length stack
  top_in = s.inside q top_on

  was : (i : ℕ) → Contains p i → Contains path i
  was i h = subst (λ (xs : List ℕ). Contains xs i) (sym top) (Contains-append_left p (q ∷ []) i h)

  keeps : (i : ℕ) → Contains path i → (i ≡ q → ⊥) → Contains p i
  keeps i h n = kept_front p q i (subst (λ (xs : List ℕ). Contains xs i) top h) n

  pub rising_left : Rising p
  rising_left = rising_front p q (subst Rising top rising_path)

  module _ (none : get_or rest (get_or stack q 0) 0 ≡ 0) where
    -- no part begins with it
    no_start : ((front : List ℕ) × (starts ≡ front ++ q ∷ []) → ⊥) → Contains starts q → ⊥
    no_start n h =
        let l = h.1 in
        let r = split_end starts (omega (arith, l)) in
        let up = top_most r.1 (s.started r.1 (subst (λ (xs : List ℕ). Contains xs r.1) (sym r.2) (Contains-push r.0 r.1))) in
        elim (Contains-push_cases r.0 r.1 q (subst (λ (xs : List ℕ). Contains xs q) r.2 h)) [
          | inl a ↦ let b = rising_below r.0 r.1 (subst Rising r.2 rising_starts) q a in omega (arith, b, up)
          | inr e ↦ n (r.0, r.2 ∙ ap (λ t. r.0 ++ t ∷ []) e)
        ]

    pub left_only : ((front : List ℕ) × (starts ≡ front ++ q ∷ []) → ⊥) → Searching g (mark marks) (λ x. get_or rest x 0) (λ i. get_or stack i 0) (length stack) (Contains starts) (Contains p)
    left_only n = leave g (mark marks) (λ x. get_or rest x 0) (λ i. get_or stack i 0) (length stack) (Contains starts) (Contains path) s q none (Contains p) was keeps (no_start n)

    -- a part begins with it
    module _ (front : List ℕ) (begins : starts ≡ front ++ q ∷ []) where
      start_was : (i : ℕ) → Contains front i → Contains starts i × (i < q)
      start_was i h = (subst (λ (xs : List ℕ). Contains xs i) (sym begins) (Contains-append_left front (q ∷ []) i h), rising_below front q (subst Rising begins rising_starts) i h)

      start_keeps : (i : ℕ) → Contains starts i → (i ≡ q → ⊥) → Contains front i
      start_keeps i h n = kept_front front q i (subst (λ (xs : List ℕ). Contains xs i) begins h) n

      pub rising_front_starts : Rising front
      rising_front_starts = rising_front front q (subst Rising begins rising_starts)

      pub closed_part : (marks' : List Mark) → ((z : ℕ) → mark marks' z ≡ closed_mark q (get_or stack q 0) (mark marks z)) → (stack' : List ℕ) → stack' ≡ take q stack → Searching g (mark marks') (λ x. get_or rest x 0) (λ i. get_or stack' i 0) (length stack') (Contains front) (Contains p)
      closed_part marks' now stack' cut =
          let n : length stack' ≡ q = ap length cut ∙ (let t = length-take q stack in let l = top_in in omega (arith, t, l)) in
          subst (λ h. Searching g (mark marks') (λ x. get_or rest x 0) (λ i. get_or stack' i 0) h (Contains front) (Contains p)) (sym n)
          (close g (mark marks) (λ x. get_or rest x 0) (λ i. get_or stack i 0) (length stack) (Contains starts) (Contains path) s q none (Contains p) was keeps
          top_in (subst (λ (xs : List ℕ). Contains xs q) (sym begins) (Contains-push front q)) top_most (λ i h. rising_below p q (subst Rising top rising_path) i h) (Contains front) start_was start_keeps
          (mark marks') now (λ i. get_or stack' i 0) (λ i l. ap (λ xs. get_or xs i 0) cut ∙ get_or-take q stack i 0 l))

-- ---- the last number of the path leads to another

pub top_of : (path : List ℕ) (n place : ℕ) → 0 < length path → n ≡ length path → place ≡ get_or path (n - 1) place → (p : List ℕ) × (path ≡ p ++ place ∷ [])
top_of path n place l len is =
    let r = split_end path l in
    let e : r.1 ≡ place = sym (end_read path r.0 r.1 r.2) ∙ get_or_default path (length path - 1) 0 place (omega (arith, l)) ∙ ap (λ k. get_or path (k - 1) place) (sym len) ∙ sym is in
    (r.0, r.2 ∙ ap (λ t. r.0 ++ t ∷ []) e)

pub sum_less : (rest : List ℕ) (x left : ℕ) → x < length rest → get_or rest x 0 ≡ left → 0 < left → sum (set rest x (left - 1)) + 1 ≡ sum rest
sum_less rest x left l is some = let e = sum_by-set (λ n. n) rest x (left - 1) 0 l in omega (arith, e, is, some)

module _ (at : ℕ) (old new : List ℕ) (k : KeepsUpTo at old new) (r : Rising old) where
  new_short : length new ≤ length old
  new_short = let a = ap length k.front in let b = length-take (length new) old in omega (arith, a, b)

  new_same : (i : ℕ) → i < length new → get_or new i 0 ≡ get_or old i 0
  new_same i l = ap (λ xs. get_or xs i 0) k.front ∙ get_or-take (length new) old i 0 l

  pub kept_was : (i : ℕ) → Contains new i → Contains old i × (i ≤ at)
  kept_was i h =
      let l = h.1 in
      let n = new_short in
      let here : get_or new h.0 0 ≡ i = get_or_default new h.0 0 i l ∙ h.2 in
      let same = new_same h.0 l in
      let low : get_or new h.0 0 ≤ at = (let m = k.most (omega (arith, l)) in elim (leb_tells (suc h.0) (length new - 1)) [
        | inl a ↦
            let b = a.1 in
            let up = r h.0 (length new - 1) (omega (arith, b)) (omega (arith, l, n)) in
            let last = new_same (length new - 1) (omega (arith, l)) in
            omega (arith, up, last, same, m)
        | inr a ↦ let b = a.1 in let e : h.0 ≡ length new - 1 = omega (arith, b, l) in let f = ap (λ z. get_or new z 0) e in omega (arith, f, m)
      ]) in
      ((h.0, omega (arith, l, n), sym (get_or_default old h.0 0 i (omega (arith, l, n))) ∙ sym same ∙ here), omega (arith, low, here))

  pub kept_keeps : (i : ℕ) → Contains old i → i ≤ at → Contains new i
  kept_keeps i h low = elim (leb_tells (suc h.0) (length new)) [
    | inl a ↦ (h.0, (let b = a.1 in omega (arith, b)), (let l : h.0 < length new = (let b = a.1 in omega (arith, b)) in sym (get_or_default new h.0 0 i l) ∙ new_same h.0 l ∙ get_or_default old h.0 0 i h.1 ∙ h.2))
    | inr a ↦
        let b = a.1 in
        let l = h.1 in
        let past = k.past h.0 (omega (arith, b)) l in
        let e = get_or_default old h.0 0 i l ∙ h.2 in
        absurd (omega (arith, past, e, low))
  ]

  pub kept_rising : Rising new
  kept_rising i j l m =
      let n = new_short in
      let a = r i j l (omega (arith, m, n)) in
      let b = new_same i (omega (arith, l, m)) in
      let c = new_same j m in
      omega (arith, a, b, c)

module _ (g : List (List ℕ)) (marks : List Mark) (rest stack starts path : List ℕ) (s : Searching g (mark marks) (λ x. get_or rest x 0) (λ i. get_or stack i 0) (length stack) (Contains starts) (Contains path)) (marks_size : length marks ≡ length g)
    (rest_size : length rest ≡ length g) (rising_path : Rising path) (rising_starts : Rising starts) where
  -- ---- a number is put on the stack
  module _ (y : ℕ) (within : y < length g) (new : mark marks y ≡ New) (reached : (i : ℕ) → i < length stack → IsOrReaches (Leads g) (get_or stack i 0) y) where
    abbrev height : ℕ
    height = length stack

    pushed : (xs : List ℕ) (i : ℕ) → Contains (xs ++ height ∷ []) i → Contains xs i ⊎ (height ≡ i)
    pushed xs i h = Contains-push_cases xs height i h

    y_marked : y < length marks
    y_marked = omega (arith, within, marks_size)

    more : (P : ℕ → Type 0) → P (suc height) → P (length (stack ++ y ∷ []))
    more P h = subst P (let n = length_push stack y in omega (arith, n)) h

    pub added : Searching g (mark (set marks y (Open height))) (λ x. get_or rest x 0) (λ i. get_or (stack ++ y ∷ []) i 0) (length (stack ++ y ∷ [])) (Contains (starts ++ height ∷ [])) (Contains (path ++ height ∷ []))
    added = more (λ h. Searching g (mark (set marks y (Open height))) (λ x. get_or rest x 0) (λ i. get_or (stack ++ y ∷ []) i 0) h (Contains (starts ++ height ∷ [])) (Contains (path ++ height ∷ [])))
        (add g (mark marks) (λ x. get_or rest x 0) (λ i. get_or stack i 0) height (Contains starts) (Contains path) s y within new reached
        (mark (set marks y (Open height))) (λ z. mark_set marks y (Open height) z y_marked) (λ i. get_or (stack ++ y ∷ []) i 0) (λ i l. get_or_append_left stack (y ∷ []) 0 i l) (get_or_push stack y 0 height refl)
        (Contains (starts ++ height ∷ [])) (pushed starts) (λ p h. Contains-append_left starts (height ∷ []) p h) (Contains-push starts height)
        (Contains (path ++ height ∷ [])) (pushed path) (λ p h. Contains-append_left path (height ∷ []) p h) (Contains-push path height))

    pub added_path : Rising (path ++ height ∷ [])
    added_path = rising_push path height rising_path (λ i h. s.inside i h)

    pub added_starts : Rising (starts ++ height ∷ [])
    added_starts = rising_push starts height rising_starts (λ i h. s.inside i (s.started i h))

    pub added_met : (z : ℕ) → IsMet (mark marks z) → IsMet (mark (set marks y (Open height)) z)
    added_met z h e = elim (eqb_tells z y) [
      | inl f ↦ let k = sym (mark_set marks y (Open height) z y_marked ∙ ap (λ b. if b then Open height else mark marks z) f.0) ∙ e in absurd (cc)
      | inr f ↦ h (sym (mark_set marks y (Open height) z y_marked ∙ ap (λ b. if b then Open height else mark marks z) f.0) ∙ e)
    ]

    pub added_here : IsMet (mark (set marks y (Open height)) y)
    added_here e = let k = sym (get_or-set_same marks y (Open height) New y_marked) ∙ e in absurd (cc)

  -- ---- the last number of the path
  module _ (table : IsTable g) (q : ℕ) (p : List ℕ) (top : path ≡ p ++ q ∷ []) (x : ℕ) (at : x ≡ get_or stack q x) where
    q_in : q < length stack
    q_in = top_in g marks rest stack starts path s rising_path rising_starts p q top

    pub q_inside : q < length stack
    q_inside = q_in

    pub here : get_or stack q 0 ≡ x
    here = get_or_default stack q 0 x q_in ∙ sym at

    pub x_inside : x < length g
    x_inside = let l = open_inside marks x q (ap (mark marks) (sym here) ∙ s.stacked q q_in) in omega (arith, l, marks_size)

    pub x_rest : x < length rest
    x_rest = let l = x_inside in omega (arith, l, rest_size)

    module _ (left : ℕ) (is : left ≡ get_or rest x left) where
      pub left_is : get_or rest x 0 ≡ left
      left_is = get_or_default rest x 0 left x_rest ∙ sym is

      pub none_left : left ≡ 0 → get_or rest (get_or stack q 0) 0 ≡ 0
      none_left e = ap (λ z. get_or rest z 0) here ∙ left_is ∙ e

      -- it leads to another
      module _ (some : 0 < left) where
        pub place_inside : left - 1 < length (next g x)
        place_inside = let m = s.small x x_inside in let e = left_is in omega (arith, m, e, some)

        pub fewer : sum (set rest x (left - 1)) + 1 ≡ sum rest
        fewer = sum_less rest x left x_rest left_is some

        module _ (y : ℕ) (next_is : y ≡ get_or (next g x) (left - 1) 0) where
          leads : Leads g x y
          leads = subst (Leads g x) (sym next_is) (place_has (next g x) (left - 1) place_inside)

          pub y_inside : y < length g
          y_inside = table x y leads

          pub reach_y : (i : ℕ) → i < length stack → IsOrReaches (Leads g) (get_or stack i 0) y
          reach_y i l = reach_trans (Leads g) (get_or stack i 0) (get_or stack q 0) y
              (to_last g (mark marks) (λ z. get_or rest z 0) (λ j. get_or stack j 0) (length stack) (Contains starts) (Contains path) s q q_in (top_most g marks rest stack starts path s rising_path rising_starts p q top) i l)
              (reach_step (Leads g) (get_or stack q 0) y (subst (λ z. Leads g z y) (sym here) leads))

          -- the state after the other was dealt with, and what it leads to counts as looked at
          passed : (marks' : List Mark) (stack' starts' path' : List ℕ) → Searching g (mark marks') (λ z. get_or rest z 0) (λ i. get_or stack' i 0) (length stack') (Contains starts') (Contains path') → q < length stack' → get_or stack' q 0 ≡ x → Contains path' q
              → Settled (Contains starts') q (mark marks' y) → Searching g (mark marks') (λ z. get_or (set rest x (left - 1)) z 0) (λ i. get_or stack' i 0) (length stack') (Contains starts') (Contains path')
          passed marks' stack' starts' path' t l e on settled =
              pass g (mark marks') (λ z. get_or rest z 0) (λ i. get_or stack' i 0) (length stack') (Contains starts') (Contains path') t q left l (subst (λ z. z < length g) (sym e) x_inside) (ap (λ z. get_or rest z 0) e ∙ left_is) some on
              (subst (λ z. Settled (Contains starts') q (mark marks' (get_or (next g z) (left - 1) 0))) (sym e) (subst (λ z. Settled (Contains starts') q (mark marks' z)) next_is settled))
              (λ z. get_or (set rest x (left - 1)) z 0) (λ z. rest_set rest x (left - 1) z x_rest ∙ ap (λ w. if nat_eq z w then left - 1 else get_or rest z 0) (sym e))

          on_path : Contains path q
          on_path = top_on g marks rest stack starts path s rising_path rising_starts p q top

          -- it is new
          module _ (new : mark marks y ≡ New) where
            pub to_new : Searching g (mark (set marks y (Open (length stack)))) (λ z. get_or (set rest x (left - 1)) z 0) (λ i. get_or (stack ++ y ∷ []) i 0) (length (stack ++ y ∷ [])) (Contains (starts ++ length stack ∷ [])) (Contains (path ++ length stack ∷ []))
            to_new = passed (set marks y (Open (length stack))) (stack ++ y ∷ []) (starts ++ length stack ∷ []) (path ++ length stack ∷ []) (added y y_inside new reach_y)
                (let n = length_push stack y in let l = q_in in omega (arith, n, l)) (get_or_append_left stack (y ∷ []) 0 q q_in ∙ here) (Contains-append_left path (length stack ∷ []) q on_path)
                (subst (Settled (Contains (starts ++ length stack ∷ [])) q) (sym (get_or-set_same marks y (Open (length stack)) New (let l = y_inside in omega (arith, l, marks_size)))) (λ i a b c. let l = q_in in omega (arith, b, c, l)))

          -- it is open
          module _ (place : ℕ) (opened : mark marks y ≡ Open place) (starts' : List ℕ) (kept : KeepsUpTo place starts starts') where
            pub to_open : Searching g (mark marks) (λ z. get_or (set rest x (left - 1)) z 0) (λ i. get_or stack i 0) (length stack) (Contains starts') (Contains path)
            to_open = passed marks stack starts' path
                (join g (mark marks) (λ z. get_or rest z 0) (λ i. get_or stack i 0) (length stack) (Contains starts) (Contains path) s q place y q_in (top_most g marks rest stack starts path s rising_path rising_starts p q top) opened
                (subst (λ z. Leads g z y) (sym here) leads) (Contains starts') (kept_was place starts starts' kept rising_starts) (kept_keeps place starts starts' kept rising_starts))
                q_in here on_path (subst (Settled (Contains starts') q) (sym opened) (λ i a b c. let d = (kept_was place starts starts' kept rising_starts i a).1 in omega (arith, b, d)))

          -- it is done
          pub to_done : (name : ℕ) → mark marks y ≡ Done name → Searching g (mark marks) (λ z. get_or (set rest x (left - 1)) z 0) (λ i. get_or stack i 0) (length stack) (Contains starts) (Contains path)
          to_done name done = passed marks stack starts path s q_in here on_path (subst (Settled (Contains starts) q) (sym done) tt)

-- ---- the same lists

pub moved : (g : List (List ℕ)) (m m' : List Mark) (r r' k k' s s' p p' : List ℕ) → m' ≡ m → r' ≡ r → k' ≡ k → s' ≡ s → p' ≡ p → Keeping g m r k s p → Keeping g m' r' k' s' p'
moved g m m' r r' k k' s s' p p' em er ek es ep h =
    subst (λ (v : List Mark). Keeping g v r' k' s' p') (sym em)
    (subst (λ (v : List ℕ). Keeping g m v k' s' p') (sym er)
    (subst (λ (v : List ℕ). Keeping g m r v s' p') (sym ek) (subst (λ (v : List ℕ). Keeping g m r k v p') (sym es) (subst (λ (v : List ℕ). Keeping g m r k s v) (sym ep) h))))

pub on_ok : {T E : Type 0} (P Q : Type 0) (r : Result T E) → OnOk r P → (P → Q) → OnOk r Q
on_ok P Q (Ok x) p f = f p
on_ok P Q (Err e) p f = tt

pub both_ok : {T E : Type 0} (P Q : Type 0) (r : Result T E) → OnOk r P → OnOk r Q → OnOk r (P × Q)
both_ok P Q (Ok x) p q = (p, q)
both_ok P Q (Err e) p q = tt

pub if_ok : {T E : Type 0} (P Q : T → Type 0) (r : Result T E) → IfOk r P → ((x : T) → P x → Q x) → IfOk r Q
if_ok P Q (Ok x) p f = f x p
if_ok P Q (Err e) p f = tt

-- ---- nothing is on the path

pub idle_stack : (g : List (List ℕ)) (marks : List Mark) (rest stack starts path : List ℕ) → Keeping g marks rest stack starts path → path ≡ [] → length stack ≡ 0
idle_stack g marks rest stack starts path k e = by (length stack) refl
  where
    by : (n : ℕ) → length stack ≡ n → n ≡ 0
    by zero h = refl
    by (suc n) h =
        let on = k.searching.started 0 (k.searching.first (omega (arith, h))) in
        let none = on.1 in
        let size = ap length e in
        absurd (omega (arith, none, size))

pub closed_or : (k : Mark) → IsMet k → ((i : ℕ) → k ≡ Open i → ⊥) → IsDone k
closed_or New h o = absurd (h refl)
closed_or (Open i) h o = absurd (o i refl)
closed_or (Done c) h o = tt

-- the names of a search that is over
pub components_named : (g : List (List ℕ)) (marks : List Mark) (rest stack starts path names : List ℕ) → Keeping g marks rest stack starts path → AreNames marks names → AreComponents (Leads g) (length g) names
components_named g marks rest stack starts path names k n =
    let s = k.searching in
    let size : length names ≡ length g = n.size ∙ k.marks_size in
    record {
      size = size;
      same = λ x y l m e.
          let a = n.done x (omega (arith, l, size)) in
          let b = n.done y (omega (arith, m, size)) in
          reach_trans (Leads g) x (get_or names x 0) y (s.named x (get_or names x 0) a).0 (subst (λ c. IsOrReaches (Leads g) c y) (sym e) (s.named y (get_or names y 0) b).1);
      together = λ x y l m r t. s.together x y (get_or names x 0) (get_or names y 0) (n.done x (omega (arith, l, size))) (n.done y (omega (arith, m, size))) (inr r) (inr t);
    }
