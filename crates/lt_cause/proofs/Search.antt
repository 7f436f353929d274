-- What the search for an order keeps.
use Rattle.std.proofs.Common.{◌≡◌, ℕ, zero, suc, ◌<◌, ◌≤◌, ◌+◌, ◌-◌, inl, inr, Bool, true, false, cond, List, [], ◌∷◌, ◌++◌, length, take, get_or, set, Some, refl, sym, ap, ◌∙◌, subst, arith, eqb-true, ltb-true, ltb-false, map, below_more}
use Rattle.std.specs.Prelude.{◌||◌, replicate, nat_eq, nat_lt, if◌then◌else◌}
use Rattle.std.specs.List.{slice_get, sum_by, sum}
use Rattle.std.proofs.lemmas.List.{get_or_default, get_or-replicate, length-replicate, length-map, get_or-map, get_or-set_same, get_or-set_other, length-set, get_or_past, take_at, take-append-le, get_or_append_left, get_or_push, length_push}
use Rattle.std.proofs.lemmas.List.Sums.{sum_by-set}
use Rattle.std.proofs.lemmas.Option.{slice_get_within, get_or_from_slice_get, slice_get-get_or}
use Rattle.std.proofs.lemmas.Bool.Decides.{leb_tells, eqb_tells}
use Rattle.lt_base.proofs.Lookups.{same_self}
use Rattle.lt_base.proofs.Reading.{or_right}
use Rattle.lt_base.specs.Dependence.{has}
use Rattle.lt_cause.specs.declared.sorting.Mark.{Mark}
use Rattle.lt_cause.specs.declared.sorting.Mark.TheVariants.{New, Open, Done}
use Rattle.lt_graph.specs.Tables.{next, Leads}
use Rattle.lt_cause.specs.Tables.{occurrences, Sorts, HasClosedWalk}
use Rattle.lt_graph.proofs.Reaches.{has_place}
use Rattle.lt_cause.proofs.Walks.{one, one_self, count_push, has_counted, Along, Trail, along_push, trail_none, trail_push, trail_pop, comes_back}

-- the mark of a number
abbrev pub mark : List Mark → ℕ → Mark
mark marks x = get_or marks x New

abbrev pub opened : Mark → ℕ
opened New = 0
opened Open = 1
opened Done = 0

abbrev pub finished : Mark → ℕ
finished New = 0
finished Open = 0
finished Done = 1

abbrev pub weight : Mark → ℕ
weight New = 2
weight Open = 1
weight Done = 0

pub record Sorting (g : List (List ℕ)) (marks : List Mark) (rest path order : List ℕ) : Type 0 where
  pub marks_size : length marks ≡ length g
  pub rest_size : length rest ≡ length g
  pub on_path : (x : ℕ) → occurrences x path ≡ opened (mark marks x)
  pub in_order : (x : ℕ) → occurrences x order ≡ finished (mark marks x)
  pub small : (x : ℕ) → x < length g → get_or rest x 0 ≤ length (next g x)
  -- what a number leads to is done as far as the search has looked
  pub looked : (x j : ℕ) → x < length g → get_or rest x 0 ≤ j → j < length (next g x) → mark marks (get_or (next g x) j 0) ≡ Done
  pub trail : Trail (Leads g) path
  pub after : (i x : ℕ) → slice_get order i ≡ Some x → (y : ℕ) → Leads g x y → has y (take i order) ≡ true

-- ---- marks

mark_set : (marks : List Mark) (x : ℕ) (v : Mark) (z : ℕ) → x < length marks → mark (set marks x v) z ≡ (if nat_eq z x then v else mark marks z)
mark_set marks x v z l = elim (eqb_tells z x) [
  | inl e ↦ subst (λ w. mark (set marks x v) w ≡ v) (sym e.1) (get_or-set_same marks x v New l) ∙ ap (λ b. if b then v else mark marks z) (sym e.0)
  | inr e ↦ get_or-set_other marks x z v New e.1 ∙ ap (λ b. if b then v else mark marks z) (sym e.0)
]

opened_most : (k : Mark) → opened k ≤ 1
opened_most New = omega arith
opened_most Open = omega arith
opened_most Done = omega arith

is_open : (k : Mark) → 0 < opened k → k ≡ Open
is_open New h = absurd (omega arith)
is_open Open h = refl
is_open Done h = absurd (omega arith)

is_done : (k : Mark) → 0 < finished k → k ≡ Done
is_done New h = absurd (omega arith)
is_done Open h = absurd (omega arith)
is_done Done h = refl

not_past : (marks : List Mark) (x : ℕ) → mark marks x ≡ Open → x < length marks
not_past marks x h = elim (leb_tells (suc x) (length marks)) [ inl a ↦ omega (arith, a.1) | inr a ↦ let e = get_or_past marks x New (omega (arith, a.1)) in absurd (cc) ]

pub positive : (n : ℕ) → (n ≡ 0 → ⊥) → 0 < n
positive zero h = absurd (h refl)
positive (suc n) h = omega arith

pub mark_read : (marks : List Mark) (y : ℕ) (k : Mark) → y < length marks → k ≡ get_or marks y k → mark marks y ≡ k
mark_read marks y k l e = get_or_default marks y New k l ∙ sym e

module _ (g : List (List ℕ)) (marks : List Mark) (rest path order : List ℕ) (s : Sorting g marks rest path order) where
  -- ---- the number at the end of the path
  module _ (p : List ℕ) (x : ℕ) (top : path ≡ p ++ x ∷ []) where
    counted : (z : ℕ) → occurrences z p + one z x ≡ opened (mark marks z)
    counted z = sym (count_push z x p) ∙ ap (occurrences z) (sym top) ∙ s.on_path z

    pub top_open : mark marks x ≡ Open
    top_open = is_open (mark marks x) (let c = counted x in let o = one_self x in omega (arith, c, o))

    pub top_inside : x < length g
    top_inside = let l = not_past marks x top_open in let e = s.marks_size in omega (arith, l, e)

    -- it is done
    module _ (none : get_or rest x 0 ≡ 0) where
      here : x < length marks
      here = not_past marks x top_open

      on_path_by : (z : ℕ) (b : Bool) → nat_eq z x ≡ b → occurrences z p + cond b 1 0 ≡ opened (mark marks z) → occurrences z p ≡ opened (if b then Done else mark marks z)
      on_path_by z true e h = let m = opened_most (mark marks z) in omega (arith, h, m)
      on_path_by z false e h = omega (arith, h)

      in_order_by : (z : ℕ) (b : Bool) → nat_eq z x ≡ b → occurrences z order + cond b 1 0 ≡ finished (if b then Done else mark marks z)
      in_order_by z true e =
          let o : mark marks z ≡ Open = ap (mark marks) (eqb-true z x e) ∙ top_open in
          let n : occurrences z order ≡ 0 = s.in_order z ∙ ap finished o in
          omega (arith, n)
      in_order_by z false e = let n = s.in_order z in omega (arith, n)

      all_done : (y : ℕ) → Leads g x y → mark marks y ≡ Done
      all_done y l =
          let at = has_place y (next g x) l in
          ap (mark marks) (sym at.2) ∙ s.looked x at.0 top_inside (omega (arith, none)) at.1

      still_by : (z : ℕ) (b : Bool) → mark marks z ≡ Done → (if b then Done else mark marks z) ≡ Done
      still_by z true h = refl
      still_by z false h = h

      after_by : (i z : ℕ) → slice_get (order ++ x ∷ []) i ≡ Some z → (y : ℕ) → Leads g z y → has y (take i (order ++ x ∷ [])) ≡ true
      after_by i z h y l =
          let within = slice_get_within (order ++ x ∷ []) i z h in
          let size = length_push order x in
          elim (leb_tells (suc i) (length order)) [
            | inl a ↦
                let old : slice_get order i ≡ Some z =
                slice_get-get_or order i z (omega (arith, a.1)) ∙ ap Some (sym (get_or_append_left order (x ∷ []) z i (omega (arith, a.1))) ∙ get_or_from_slice_get (order ++ x ∷ []) i z z h) in
                ap (has y) (take-append-le i order (x ∷ []) (omega (arith, a.1))) ∙ s.after i z old y l
            | inr a ↦
                let last : length order ≡ i = omega (arith, a.1, within, size) in
                let same : x ≡ z = sym (get_or_push order x z i last) ∙ get_or_from_slice_get (order ++ x ∷ []) i z z h in
                let done = all_done y (subst (λ v. Leads g v y) (sym same) l) in
                let n : occurrences y order ≡ 1 = s.in_order y ∙ ap finished done in
                ap (has y) (take_at order (x ∷ []) i last) ∙ has_counted y order (omega (arith, n))
          ]

      pub finish : Sorting g (set marks x Done) rest p (order ++ x ∷ [])
      finish = record {
        marks_size = length-set marks x Done ∙ s.marks_size;
        rest_size = s.rest_size;
        on_path = λ z. on_path_by z (nat_eq z x) refl (counted z) ∙ ap opened (sym (mark_set marks x Done z here));
        in_order = λ z. count_push z x order ∙ in_order_by z (nat_eq z x) refl ∙ ap finished (sym (mark_set marks x Done z here));
        small = s.small;
        looked = λ z j l a b. mark_set marks x Done (get_or (next g z) j 0) here ∙ still_by (get_or (next g z) j 0) (nat_eq (get_or (next g z) j 0) x) (s.looked z j l a b);
        trail = trail_pop (Leads g) p x (subst (Trail (Leads g)) top s.trail);
        after = after_by;
      }

      pub finish_kept : (z : ℕ) → mark marks z ≡ Done → mark (set marks x Done) z ≡ Done
      finish_kept z h = mark_set marks x Done z here ∙ still_by z (nat_eq z x) h

      started_by : (z : ℕ) (b : Bool) → (mark marks z ≡ New → ⊥) → (if b then Done else mark marks z) ≡ New → ⊥
      started_by z true h e = absurd (cc)
      started_by z false h e = h e

      pub finish_started : (z : ℕ) → (mark marks z ≡ New → ⊥) → mark (set marks x Done) z ≡ New → ⊥
      finish_started z h e = started_by z (nat_eq z x) h (sym (mark_set marks x Done z here) ∙ e)

      pub finish_shorter : sum_by weight (set marks x Done) + sum rest < sum_by weight marks + sum rest
      finish_shorter = let e = sum_by-set weight marks x Done New here in let w : weight (get_or marks x New) ≡ 1 = ap weight top_open in omega (arith, e, w)

    pub rest_read : (left : ℕ) → left ≡ get_or rest x left → get_or rest x 0 ≡ left
    rest_read left e = get_or_default rest x 0 left (let l = top_inside in let n = s.rest_size in omega (arith, l, n)) ∙ sym e

    -- the place that is looked at next
    pub place_inside : (left : ℕ) → get_or rest x 0 ≡ left → (left ≡ 0 → ⊥) → left - 1 < length (next g x)
    place_inside left e n = let m = s.small x top_inside in let n' : 0 < left = positive left n in omega (arith, e, m, n')

    pub along_more : (y : ℕ) → Leads g x y → Along (Leads g) (p ++ x ∷ []) y
    along_more y l = along_push (Leads g) p x y (s.trail p x top) l

    along_top : Along (Leads g) p x
    along_top = s.trail p x top

    -- it leads to a number that is open: a walk is closed
    pub closes : (y : ℕ) → Leads g x y → mark marks y ≡ Open → HasClosedWalk (Leads g)
    closes y l o =
        let c : occurrences y path ≡ 1 = s.on_path y ∙ ap opened o in
        let on = has_counted y path (omega (arith, c)) in
        comes_back (Leads g) (p ++ x ∷ []) y (subst (λ q. has y q ≡ true) top on) (along_push (Leads g) p x y along_top l)

    -- it leads to a number that is done
    module _ (left : ℕ) (is : get_or rest x 0 ≡ left) (some : 0 < left) (done : mark marks (get_or (next g x) (left - 1) 0) ≡ Done) where
      rest_inside : x < length rest
      rest_inside = let l = top_inside in let e = s.rest_size in omega (arith, l, e)

      rest_set : (z : ℕ) → get_or (set rest x (left - 1)) z 0 ≡ (if nat_eq z x then left - 1 else get_or rest z 0)
      rest_set z = elim (eqb_tells z x) [
        | inl e ↦ subst (λ w. get_or (set rest x (left - 1)) w 0 ≡ left - 1) (sym e.1) (get_or-set_same rest x (left - 1) 0 rest_inside) ∙ ap (λ b. if b then left - 1 else get_or rest z 0) (sym e.0)
        | inr e ↦ get_or-set_other rest x z (left - 1) 0 e.1 ∙ ap (λ b. if b then left - 1 else get_or rest z 0) (sym e.0)
      ]

      small_by : (z : ℕ) → z < length g → (b : Bool) → nat_eq z x ≡ b → (if b then left - 1 else get_or rest z 0) ≤ length (next g z)
      small_by z l true e = let m = s.small z l in let n = ap (λ w. get_or rest w 0) (eqb-true z x e) ∙ is in omega (arith, m, n)
      small_by z l false e = s.small z l

      looked_by : (z j : ℕ) → z < length g → j < length (next g z) → (b : Bool) → nat_eq z x ≡ b → (if b then left - 1 else get_or rest z 0) ≤ j → mark marks (get_or (next g z) j 0) ≡ Done
      looked_by z j l k true e a =
          let same : z ≡ x = eqb-true z x e in
          let n = ap (λ w. get_or rest w 0) same ∙ is in
          elim (leb_tells left j) [
            | inl c ↦ s.looked z j l (let d = c.1 in omega (arith, d, n)) k
            | inr c ↦
                let there : j ≡ left - 1 = let d = c.1 in omega (arith, d, a, some) in
                (λ i. mark marks (get_or (next g (same i)) (there i) 0)) ∙ done
          ]
      looked_by z j l k false e a = s.looked z j l a k

      pub pass : Sorting g marks (set rest x (left - 1)) (p ++ x ∷ []) order
      pass = record {
        marks_size = s.marks_size;
        rest_size = length-set rest x (left - 1) ∙ s.rest_size;
        on_path = λ z. ap (occurrences z) (sym top) ∙ s.on_path z;
        in_order = s.in_order;
        small = λ z l. subst (λ n. n ≤ length (next g z)) (sym (rest_set z)) (small_by z l (nat_eq z x) refl);
        looked = λ z j l a b. looked_by z j l b (nat_eq z x) refl (subst (λ n. n ≤ j) (rest_set z) a);
        trail = subst (Trail (Leads g)) top s.trail;
        after = s.after;
      }

      pub pass_shorter : sum_by weight marks + sum (set rest x (left - 1)) < sum_by weight marks + sum rest
      pass_shorter = let e = sum_by-set (λ n. n) rest x (left - 1) 0 rest_inside in omega (arith, e, is, some)

  -- ---- a new number
  module _ (y : ℕ) (inside : y < length g) (new : mark marks y ≡ New) where
    there : y < length marks
    there = let e = s.marks_size in omega (arith, inside, e)

    add_path_by : (z : ℕ) (b : Bool) → nat_eq z y ≡ b → occurrences z path + cond b 1 0 ≡ opened (if b then Open else mark marks z)
    add_path_by z true e =
        let n : occurrences z path ≡ 0 = s.on_path z ∙ ap (λ w. opened (mark marks w)) (eqb-true z y e) ∙ ap opened new in
        omega (arith, n)
    add_path_by z false e = let n = s.on_path z in omega (arith, n)

    add_order_by : (z : ℕ) (b : Bool) → nat_eq z y ≡ b → finished (mark marks z) ≡ finished (if b then Open else mark marks z)
    add_order_by z true e = ap (λ w. finished (mark marks w)) (eqb-true z y e) ∙ ap finished new
    add_order_by z false e = refl

    kept_by : (z : ℕ) (b : Bool) → nat_eq z y ≡ b → mark marks z ≡ Done → (if b then Open else mark marks z) ≡ Done
    kept_by z true e h = let n = ap (mark marks) (eqb-true z y e) ∙ new in absurd (cc)
    kept_by z false e h = h

    pub add : Along (Leads g) path y → Sorting g (set marks y Open) rest (path ++ y ∷ []) order
    add a = record {
      marks_size = length-set marks y Open ∙ s.marks_size;
      rest_size = s.rest_size;
      on_path = λ z. count_push z y path ∙ add_path_by z (nat_eq z y) refl ∙ ap opened (sym (mark_set marks y Open z there));
      in_order = λ z. s.in_order z ∙ add_order_by z (nat_eq z y) refl ∙ ap finished (sym (mark_set marks y Open z there));
      small = s.small;
      looked = λ z j l b c. mark_set marks y Open (get_or (next g z) j 0) there ∙ kept_by (get_or (next g z) j 0) (nat_eq (get_or (next g z) j 0) y) refl (s.looked z j l b c);
      trail = trail_push (Leads g) path y a;
      after = s.after;
    }

    pub done_kept : (z : ℕ) → mark marks z ≡ Done → mark (set marks y Open) z ≡ Done
    done_kept z h = mark_set marks y Open z there ∙ kept_by z (nat_eq z y) refl h

    begun_by : (z : ℕ) (b : Bool) → (mark marks z ≡ New → ⊥) → (if b then Open else mark marks z) ≡ New → ⊥
    begun_by z true h e = absurd (cc)
    begun_by z false h e = h e

    pub add_started : (z : ℕ) → (mark marks z ≡ New → ⊥) → mark (set marks y Open) z ≡ New → ⊥
    add_started z h e = begun_by z (nat_eq z y) h (sym (mark_set marks y Open z there) ∙ e)

    pub add_shorter : sum_by weight (set marks y Open) + sum rest < sum_by weight marks + sum rest
    add_shorter = let e = sum_by-set weight marks y Open New there in let w : weight (get_or marks y New) ≡ 2 = ap weight new in omega (arith, e, w)

-- ---- the search begins, and ends

replicate_mark : (n x : ℕ) → mark (replicate n New) x ≡ New
replicate_mark n x = elim (leb_tells (suc x) n) [ inl a ↦ get_or-replicate n x New New (omega (arith, a.1)) | inr a ↦ get_or_past (replicate n New) x New (let l = length-replicate n New in omega (arith, a.1, l)) ]

pub begins : (g : List (List ℕ)) → Sorting g (replicate (length g) New) (map length g) [] []
begins g = record {
  marks_size = length-replicate (length g) New;
  rest_size = length-map g length;
  on_path = λ x. ap opened (sym (replicate_mark (length g) x));
  in_order = λ x. ap finished (sym (replicate_mark (length g) x));
  small = λ x l. let e = get_or-map length g x [] 0 l in omega (arith, e);
  looked = λ x j l a b. let e = get_or-map length g x [] 0 l in absurd (omega (arith, e, a, b));
  trail = trail_none (Leads g);
  after = λ i x h. absurd (cc);
}

-- nothing is open where the path is at its end
pub settled : (g : List (List ℕ)) (marks : List Mark) (rest order : List ℕ) → Sorting g marks rest [] order → (x : ℕ) → (mark marks x ≡ New → ⊥) → mark marks x ≡ Done
settled g marks rest order s x h = by (mark marks x) (s.on_path x) h
  where
    by : (k : Mark) → 0 ≡ opened k → (k ≡ New → ⊥) → k ≡ Done
    by New e h = absurd (h refl)
    by Open e h = absurd (omega (arith, e))
    by Done e h = refl

pub sorts : (g : List (List ℕ)) (marks : List Mark) (rest order : List ℕ) → Sorting g marks rest [] order → ((x : ℕ) → x < length g → mark marks x ≡ Done) → Sorts (Leads g) (length g) order
sorts g marks rest order s all = record { once = λ x. s.in_order x ∙ by x (nat_lt x (length g)) refl; after = s.after }
  where
    by : (x : ℕ) (b : Bool) → nat_lt x (length g) ≡ b → ◌≡◌ {A = ℕ} (finished (mark marks x)) (if b then 1 else 0)
    by x true e = ap finished (all x (ltb-true x (length g) e))
    by x false e = ap finished (get_or_past marks x New (let l = ltb-false x (length g) e in let m = s.marks_size in omega (arith, l, m)))

-- what stands at a place of the list of a number
pub leads_at : (g : List (List ℕ)) (x j : ℕ) (y : ℕ) → j < length (next g x) → y ≡ get_or (next g x) j 0 → Leads g x y
leads_at g x j y l e = at (next g x) j y l e
  where
    at : (xs : List ℕ) (j y : ℕ) → j < length xs → y ≡ get_or xs j 0 → has y xs ≡ true
    at [] j y l e = absurd (omega arith)
    at (z ∷ zs) zero y l e = ap (λ b. b || has y zs) (ap (nat_eq y) (sym e) ∙ same_self y)
    at (z ∷ zs) (suc j) y l e = or_right (nat_eq y z) (has y zs) (at zs j y (omega arith) e)

-- one number more is done
pub before_more : (marks : List Mark) (root : ℕ) → ((x : ℕ) → x < root → mark marks x ≡ Done) → mark marks root ≡ Done → (x : ℕ) → x < root + 1 → mark marks x ≡ Done
before_more marks root before here = below_more (λ x. mark marks x ≡ Done) root before here
