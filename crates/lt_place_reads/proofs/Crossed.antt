-- The crossings of a function, in order of their readers.
use Rattle.std.proofs.Common.{◌≡◌, ◌⊎◌, inl, inr, ℕ, zero, suc, ◌+◌, ◌<◌, ◌≤◌, false, cond, List, [], ◌∷◌, ◌++◌, length, take, get_or, set, Option, Some, None, refl, sym, ap, ◌∙◌, subst, arith, ⊎_elim, length-append, get_or-set_same, get_or-set_other}
use Rattle.std.specs.Prelude.{nat_eq, slice_get}
use Rattle.std.proofs.lemmas.List.{get_or_append_left, get_or_push, length-set, take_more, take_all}
use Rattle.std.proofs.lemmas.Bool.{cases_eq, cases_lt}
use Rattle.std.proofs.lemmas.Bool.Decides.{nat_tests}
use Rattle.lt_base.specs.Expression.{Expression}
use Rattle.lt_base.specs.Program.{Function, GoodFunction}
use Rattle.lt_base.specs.Meaning.{right_of}
use Rattle.lt_base.specs.Equations.{left_count, EquationsIn}
use Rattle.lt_base.proofs.Lookups.{all_found, lefts_append, lefts_cons, no_right, same_self}
use Rattle.lt_norm.specs.Flat.{Originated}
use Rattle.lt_place_reads.specs.declared.crossing.Crossing.{Crossing}
use Rattle.lt_place_reads.specs.Origins.{variable_count}
use Rattle.lt_place_reads.specs.Crossings.{cross_in, cross_by, cross_at, ReadsSoFar, HasReaders, HasPlaces}

eq_at : (f : Function) (qs : List (ℕ × Expression)) → EquationsIn f qs → (i : ℕ) (d : ℕ × Expression) → i < length qs → right_of f.eqs (get_or qs i d).0 ≡ Some (get_or qs i d).1
eq_at f [] t i d l = absurd (omega arith)
eq_at f (q ∷ qs) t zero d l = t.0
eq_at f (q ∷ qs) t (suc i) d l = eq_at f qs t.1 i d (omega arith)

pub differ : (a b : ℕ) → (a ≡ b → ⊥) → nat_eq a b ≡ false
differ a b h = grind (arith, nat_tests)

-- ---- the table of readers

module _ (f : Originated) (good : GoodFunction f.func) (nodes : List ℕ) where
  module _ (items : List (ℕ × Expression)) (same : items ≡ f.func.eqs) (i : ℕ) (l : i < length items) (q : ℕ × Expression) (read : q ≡ get_or items i q) (readers : List (Option Crossing)) (so_far : ReadsSoFar f nodes (take i items) readers) (left : ℕ) (e : left ≡ q.0) (inside : q.0 < variable_count f) (c : Option Crossing) (is : c ≡ cross_in nodes q.0 q.1) where
    right : right_of f.func.eqs q.0 ≡ Some q.1
    right =
        let here : q ≡ get_or f.func.eqs i q = read ∙ ap (λ qs. get_or qs i q) same in
        subst (λ (q : ℕ × Expression). right_of f.func.eqs q.0 ≡ Some q.1) (sym here) (eq_at f.func f.func.eqs (all_found f.func good) i q (let z = ap length same in omega (arith, z, l)))

    told_here : c ≡ cross_at f nodes q.0
    told_here = is ∙ ap (cross_by nodes q.0) (sym right)

    count_more : (x : ℕ) → left_count x (take (i + 1) items) ≡ left_count x (take i items) + cond (nat_eq x q.0) 1 0
    count_more x =
        let one = lefts_cons x q [] in
        ap (left_count x) (take_more items i q l ∙ ap (λ z. take i items ++ z ∷ []) (sym read)) ∙ lefts_append x (take i items) (q ∷ []) ∙ ap (λ n. left_count x (take i items) + n) (one ∙ omega arith)

    same_count : (x : ℕ) → (x ≡ q.0 → ⊥) → left_count x (take (i + 1) items) ≡ left_count x (take i items)
    same_count x n = count_more x ∙ ap (λ b. left_count x (take i items) + cond b 1 0) (differ x q.0 n) ∙ omega arith

    more_count : (x : ℕ) → x ≡ q.0 → left_count x (take (i + 1) items) ≡ left_count x (take i items) + 1
    more_count x s = count_more x ∙ ap (λ b. left_count x (take i items) + cond b 1 0) (ap (λ z. nat_eq x z) (sym s) ∙ same_self x)

    abbrev next : List (Option Crossing)
    next = set readers left c

    here_is : get_or next q.0 None ≡ c
    here_is = ap (λ z. get_or (set readers z c) q.0 None) e ∙ get_or-set_same readers q.0 c None (let s = so_far.size in omega (arith, s, inside))

    there_is : (x : ℕ) → (x ≡ q.0 → ⊥) → get_or next x None ≡ get_or readers x None
    there_is x n = get_or-set_other readers left x c None (λ s. n (s ∙ e))

    pub reads_more : ReadsSoFar f nodes (take (i + 1) items) next
    reads_more = record {
      size = length-set readers left c ∙ so_far.size;
      told = λ x b h. ⊎_elim
          (λ (s : x ≡ q.0). subst (λ z. get_or next z None ≡ cross_at f nodes z) (sym s) (here_is ∙ told_here))
          (λ n. there_is x n ∙ so_far.told x b (let k = same_count x n in omega (arith, k, h)))
          (cases_eq x q.0);
      untold = λ x b h. ⊎_elim
          (λ (s : x ≡ q.0). let k = more_count x s in absurd (omega (arith, k, h)))
          (λ n. there_is x n ∙ so_far.untold x b (sym (same_count x n) ∙ h))
          (cases_eq x q.0);
    }

  pub all_read : (items : List (ℕ × Expression)) → items ≡ f.func.eqs → (n : ℕ) → length items ≤ n → (readers : List (Option Crossing)) → ReadsSoFar f nodes (take n items) readers → HasReaders f nodes readers
  all_read items same n l readers r =
      let whole : take n items ≡ f.func.eqs = take_all n items l ∙ same in
      let s : ReadsSoFar f nodes f.func.eqs readers = subst (λ qs. ReadsSoFar f nodes qs readers) whole r in
      record {
        size = s.size;
        each = λ x b. ⊎_elim
            (λ (p : 0 < left_count x f.func.eqs). s.told x b p)
            (λ (p : left_count x f.func.eqs ≤ 0). let z : left_count x f.func.eqs ≡ 0 = omega arith in s.untold x b z ∙ sym (ap (cross_by nodes x) (no_right f.func.eqs x z)))
            (cases_lt 0 (left_count x f.func.eqs));
      }

-- ---- the list of crossings

pub get_left : {A : Type 0} (xs ys : List A) (k : ℕ) (c : A) → slice_get xs k ≡ Some c → slice_get (xs ++ ys) k ≡ Some c
get_left [] ys k c h = absurd (cc)
get_left (x ∷ xs) ys zero c h = h
get_left (x ∷ xs) ys (suc k) c h = get_left xs ys k c h

pub get_end : {A : Type 0} (xs : List A) (y : A) → slice_get (xs ++ y ∷ []) (length xs) ≡ Some y
get_end [] y = refl
get_end (x ∷ xs) y = get_end xs y

pub get_last : {A : Type 0} (xs : List A) (y : A) (k : ℕ) (z : A) → slice_get (xs ++ y ∷ []) k ≡ Some z → ((k < length xs) × (slice_get xs k ≡ Some z)) ⊎ ((k ≡ length xs) × (y ≡ z))
get_last [] y zero z h = inr (refl, cc)
get_last [] y (suc k) z h = absurd (cc)
get_last (x ∷ xs) y zero z h = inl (omega arith, h)
get_last (x ∷ xs) y (suc k) z h = ⊎_elim (λ r. let l = r.0 in inl (omega (arith, l), r.1)) (λ r. let l = r.0 in inr (omega (arith, l), r.1)) (get_last xs y k z h)

module _ (readers : List (Option Crossing)) (own : (x : ℕ) (c : Crossing) → get_or readers x None ≡ Some c → c.reader ≡ x) (i : ℕ) (l : i < length readers) (list : List Crossing) (places : List (Option ℕ)) (h : HasPlaces readers i list places) where
  at_front : (o : Option ℕ) (x : ℕ) → x < i → get_or (places ++ o ∷ []) x None ≡ get_or places x None
  at_front o x b = get_or_append_left places (o ∷ []) None x (let s = h.size in omega (arith, s, b))

  at_end : (o : Option ℕ) → get_or (places ++ o ∷ []) i None ≡ o
  at_end o = get_or_push places o None i h.size

  longer : (o : Option ℕ) → length (places ++ o ∷ []) ≡ i + 1
  longer o = let s = h.size in length-append places (o ∷ []) ∙ omega (arith, s)

  pub places_none : get_or readers i None ≡ None → HasPlaces readers (i + 1) list (places ++ None ∷ [])
  places_none n = record {
    size = longer None;
    few = let f = h.few in omega (arith, f);
    none = λ x b e. ⊎_elim (λ (s : x ≡ i). ap (λ z. get_or (places ++ None ∷ []) z None) s ∙ at_end None) (λ s. let c : x < i = omega (arith, s) in at_front None x c ∙ h.none x c e) (cases_eq x i);
    some = λ x c b e. ⊎_elim
        (λ (s : x ≡ i). let z : Some c ≡ None = sym e ∙ ap (λ z. get_or readers z None) s ∙ n in absurd (cc))
        (λ s. let k : x < i = omega (arith, s) in let r = h.some x c k e in (r.0, at_front None x k ∙ r.1, r.2))
        (cases_eq x i);
    each = λ k c e. let r = h.each k c e in (omega (arith, r.0), r.1);
    ordered = h.ordered;
  }

  pub places_some : (c : Crossing) → get_or readers i None ≡ Some c → HasPlaces readers (i + 1) (list ++ c ∷ []) (places ++ Some (length list) ∷ [])
  places_some c e = record {
    size = longer (Some (length list));
    few = let f = h.few in let g = length-append list (c ∷ []) in omega (arith, f, g);
    none = λ x b z. ⊎_elim
        (λ (s : x ≡ i). let w : None ≡ Some c = sym z ∙ ap (λ z. get_or readers z None) s ∙ e in absurd (cc))
        (λ s. let k : x < i = omega (arith, s) in at_front (Some (length list)) x k ∙ h.none x k z)
        (cases_eq x i);
    some = λ x d b z. ⊎_elim
        (λ (s : x ≡ i).
        let same : Some c ≡ Some d = sym e ∙ ap (λ z. get_or readers z None) (sym s) ∙ z in
        (length list, ap (λ z. get_or (places ++ Some (length list) ∷ []) z None) s ∙ at_end (Some (length list)), get_end list c ∙ same))
        (λ s. let k : x < i = omega (arith, s) in let r = h.some x d k z in (r.0, at_front (Some (length list)) x k ∙ r.1, get_left list (c ∷ []) r.0 d r.2))
        (cases_eq x i);
    each = λ k d z. ⊎_elim
        (λ r. let w = h.each k d r.1 in (omega (arith, w.0), w.1))
        (λ r. let s = own i c e in subst (λ (d : Crossing). (d.reader < i + 1) × (get_or readers d.reader None ≡ Some d)) r.1 (omega (arith, s), ap (λ z. get_or readers z None) s ∙ e))
        (get_last list c k d z);
    ordered = λ j k a b lt x y. ⊎_elim
        (λ r.
        let old = ⊎_elim {C = slice_get list j ≡ Some a} (λ s. s.1) (λ s. let p = s.0 in let q = r.0 in absurd (omega (arith, p, q, lt))) (get_last list c j a x) in
        h.ordered j k a b lt old r.1)
        (λ r. ⊎_elim
        (λ s. let w = h.each j a s.1 in let o : b.reader ≡ i = ap (λ (d : Crossing). d.reader) (sym r.1) ∙ own i c e in omega (arith, w.0, o))
        (λ s. let p = s.0 in let q = r.0 in absurd (omega (arith, p, q, lt)))
        (get_last list c j a x))
        (get_last list c k b y);
  }

  pub none_placed : get_or readers i None ≡ None → (list' : List Crossing) (places' : List (Option ℕ)) → list' ≡ list → places' ≡ places ++ None ∷ [] → HasPlaces readers (i + 1) list' places'
  none_placed n list' places' e k = subst (λ z. HasPlaces readers (i + 1) z places') (sym e) (subst (HasPlaces readers (i + 1) list) (sym k) (places_none n))

  pub some_placed : (c : Crossing) → get_or readers i None ≡ Some c → (list' : List Crossing) (places' : List (Option ℕ)) → list' ≡ list ++ c ∷ [] → places' ≡ places ++ Some (length list) ∷ [] → HasPlaces readers (i + 1) list' places'
  some_placed c n list' places' e k = subst (λ z. HasPlaces readers (i + 1) z places') (sym e) (subst (HasPlaces readers (i + 1) (list ++ c ∷ [])) (sym k) (places_some c n))
