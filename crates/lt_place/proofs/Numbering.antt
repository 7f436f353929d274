-- The numbers of the variables of a node.
use Rattle.std.proofs.Common.{◌≡◌, ◌≢◌, ℕ, zero, suc, ◌+◌, ◌^◌, ◌<◌, ◌≤◌, Bool, true, false, not, cond, List, [], ◌∷◌, ◌++◌, length, map, take, get_or, set, refl, sym, ap, ◌∙◌, subst, arith, ⊎_elim, length-append, get_or-set_same, get_or-set_other}
use Rattle.std.specs.List.{count_by}
use Rattle.std.proofs.lemmas.List.{get_or_append_left, get_or_push, length-set, take_all, length-map}
use Rattle.std.proofs.lemmas.List.Sums.{count_by_more_yes, count_by_more_no, sum_by-cons}
use Rattle.std.proofs.lemmas.Bool.{cases_eq, cases_lt, cases_Bool}
use Rattle.lt_place.specs.Spread.{Numbered, Added, NonePicked, HasMembers}

module _ (nodes : List ℕ) (picked : List Bool) (n : ℕ) (m o : List ℕ) where
  pub added_none : Numbered nodes n m o → Added nodes picked n 0 m o m o
  added_none h = record {
    more = omega arith;
    few = omega arith;
    kept = λ k l. refl;
    fresh = λ k a b. absurd (omega arith);
    numbered = h;
    all = λ x l. absurd (omega arith);
    others = λ x p. refl;
  }

  module _ (same : length picked ≡ length nodes) (none : NonePicked picked m) (i : ℕ) (l : i < length nodes) (m' o' : List ℕ) (a : Added nodes picked n i m o m' o') where
    pub added_skip : (get_or nodes i 0 ≡ n → get_or picked i false ≡ true → ⊥) → Added nodes picked n (i + 1) m o m' o'
    added_skip h = record {
      more = a.more;
      few = let f = a.few in let g = counted in omega (arith, f, g);
      kept = a.kept;
      fresh = λ k b c. let r = a.fresh k b c in (omega (arith, r.0), r.1);
      numbered = a.numbered;
      all = λ x b e p. ⊎_elim (λ (s : x ≡ i). absurd (h (ap (λ z. get_or nodes z 0) (sym s) ∙ e) (ap (λ z. get_or picked z false) (sym s) ∙ p))) (λ s. a.all x (omega (arith, s)) e p) (cases_eq x i);
      others = a.others;
    }
      where
        counted : count_by (λ (b : Bool). b) (take i picked) ≤ count_by (λ (b : Bool). b) (take (i + 1) picked)
        counted = ⊎_elim
            (λ t. let c = count_by_more_yes (λ (b : Bool). b) picked i false (omega arith) t in omega (arith, c))
            (λ t. let c = count_by_more_no (λ (b : Bool). b) picked i false (omega arith) t in omega (arith, c))
            (cases_Bool (get_or picked i false))

    pub skipped_is : (get_or nodes i 0 ≡ n → get_or picked i false ≡ true → ⊥) → (new own : List ℕ) → new ≡ m' → own ≡ o' → Added nodes picked n (i + 1) m o new own
    skipped_is h new own e k = subst (λ z. Added nodes picked n (i + 1) m o z own) (sym e) (subst (λ z. Added nodes picked n (i + 1) m o m' z) (sym k) (added_skip h))

    pub not_picked : (P : Type 0) → get_or picked i false ≡ false → P → get_or picked i false ≡ true → ⊥
    not_picked P e p t = absurd (cc)

    module _ (here : get_or nodes i 0 ≡ n) (pick : get_or picked i false ≡ true) where
      abbrev m'' : List ℕ
      m'' = m' ++ i ∷ []

      abbrev o'' : List ℕ
      o'' = set o' i (length m')

      long : length m'' ≡ length m' + 1
      long = length-append m' (i ∷ []) ∙ omega arith

      size : length o' ≡ length nodes
      size = a.numbered.size

      front : (k : ℕ) → k < length m' → get_or m'' k 0 ≡ get_or m' k 0
      front k b = get_or_append_left m' (i ∷ []) 0 k b

      last : get_or m'' (length m') 0 ≡ i
      last = get_or_push m' i 0 (length m') refl

      own_here : get_or o'' i 0 ≡ length m'
      own_here = get_or-set_same o' i (length m') 0 (omega arith)

      own_there : (x : ℕ) → x ≢ i → get_or o'' x 0 ≡ get_or o' x 0
      own_there x s = get_or-set_other o' i x (length m') 0 s

      -- the new variable is none of those so far
      other : (k : ℕ) → k < length m' → get_or m' k 0 ≢ i
      other k b s = ⊎_elim
          (λ (c : k < length m). let p : get_or picked (get_or m k 0) false ≡ true = ap (λ z. get_or picked z false) (sym (a.kept k c) ∙ s) ∙ pick in let q = none k c in absurd (cc))
          (λ (c : length m ≤ k). let r = a.fresh k c b in absurd (omega (arith, r.0, s)))
          (cases_lt k (length m))

      inside' : (k : ℕ) → k < length m'' → (get_or m'' k 0 < length nodes) × (get_or nodes (get_or m'' k 0) 0 ≡ n)
      inside' k b = ⊎_elim
          (λ (c : k < length m'). subst (λ z. (z < length nodes) × (get_or nodes z 0 ≡ n)) (sym (front k c)) (a.numbered.inside k c))
          (λ (c : length m' ≤ k). let e : k ≡ length m' = omega (arith, long) in subst (λ z. (z < length nodes) × (get_or nodes z 0 ≡ n)) (sym (ap (λ z. get_or m'' z 0) e ∙ last)) (l, here))
          (cases_lt k (length m'))

      back' : (k : ℕ) → k < length m'' → get_or o'' (get_or m'' k 0) 0 ≡ k
      back' k b = ⊎_elim
          (λ (c : k < length m'). ap (λ z. get_or o'' z 0) (front k c) ∙ own_there (get_or m' k 0) (other k c) ∙ a.numbered.back k c)
          (λ (c : length m' ≤ k). let e : k ≡ length m' = omega (arith, long) in ap (λ z. get_or o'' z 0) (ap (λ z. get_or m'' z 0) e ∙ last) ∙ own_here ∙ sym e)
          (cases_lt k (length m'))

      fresh' : (k : ℕ) → length m ≤ k → k < length m'' → (get_or m'' k 0 < i + 1) × (get_or picked (get_or m'' k 0) false ≡ true)
      fresh' k c b = ⊎_elim
          (λ (d : k < length m'). let r = a.fresh k c d in subst (λ z. (z < i + 1) × (get_or picked z false ≡ true)) (sym (front k d)) (omega (arith, r.0), r.1))
          (λ (d : length m' ≤ k). let e : k ≡ length m' = omega (arith, long) in subst (λ z. (z < i + 1) × (get_or picked z false ≡ true)) (sym (ap (λ z. get_or m'' z 0) e ∙ last)) (omega arith, pick))
          (cases_lt k (length m'))

      all' : (x : ℕ) → x < i + 1 → get_or nodes x 0 ≡ n → get_or picked x false ≡ true → (get_or o'' x 0 < length m'') × (get_or m'' (get_or o'' x 0) 0 ≡ x)
      all' x b e p = ⊎_elim
          (λ (s : x ≡ i). subst (λ z. (get_or o'' z 0 < length m'') × (get_or m'' (get_or o'' z 0) 0 ≡ z)) (sym s) (omega (arith, own_here, long), ap (λ z. get_or m'' z 0) own_here ∙ last))
          (λ (s : x ≢ i).
          let r = a.all x (omega (arith, s)) e p in
          let w = own_there x s in
          (omega (arith, w, r.0, long), ap (λ z. get_or m'' z 0) w ∙ front (get_or o' x 0) r.0 ∙ r.1))
          (cases_eq x i)

      pub added_push : Added nodes picked n (i + 1) m o m'' o''
      added_push = record {
        more = let f = a.more in omega (arith, f, long);
        few = let c = count_by_more_yes (λ (b : Bool). b) picked i false (omega arith) pick in let f = a.few in omega (arith, c, f, long);
        kept = λ k b. let f = a.more in front k (omega (arith, f, b)) ∙ a.kept k b;
        fresh = fresh';
        numbered = record { size = length-set o' i (length m') ∙ size; inside = inside'; back = back' };
        all = all';
        others = λ x p. own_there x (λ s. let q : get_or picked x false ≡ true = ap (λ z. get_or picked z false) s ∙ pick in absurd (cc)) ∙ a.others x p;
      }

      pub pushed_is : (new own : List ℕ) → new ≡ m'' → own ≡ o'' → Added nodes picked n (i + 1) m o new own
      pushed_is new own e k = subst (λ z. Added nodes picked n (i + 1) m o z own) (sym e) (subst (λ z. Added nodes picked n (i + 1) m o m'' z) (sym k) added_push)

-- ---- both kinds

not_fed : (fed : List Bool) (x : ℕ) → x < length fed → get_or (map not fed) x false ≡ not (get_or fed x false)
not_fed [] x l = absurd (omega arith)
not_fed (b ∷ fed) zero l = refl
not_fed (b ∷ fed) (suc x) l = not_fed fed x (omega arith)

both_count : (fed : List Bool) → count_by (λ b. b) fed + count_by (λ b. b) (map not fed) ≡ length fed
both_count [] = refl
both_count (true ∷ fed) = let h = both_count fed in let c = sum_by-cons (λ (b : Bool). cond b 1 0) true fed in let d = sum_by-cons (λ (b : Bool). cond b 1 0) false (map not fed) in omega (arith, h, c, d)
both_count (false ∷ fed) = let h = both_count fed in let c = sum_by-cons (λ (b : Bool). cond b 1 0) false fed in let d = sum_by-cons (λ (b : Bool). cond b 1 0) true (map not fed) in omega (arith, h, c, d)

pub none_numbered : (nodes : List ℕ) (n : ℕ) (own : List ℕ) → length own ≡ length nodes → Numbered nodes n [] own
none_numbered nodes n own h = record { size = h; inside = λ k l. absurd (omega arith); back = λ k l. absurd (omega arith) }

pub none_picked : (picked : List Bool) → NonePicked picked []
none_picked picked k l = absurd (omega arith)

module _ (nodes : List ℕ) (fed free : List Bool) (n : ℕ) (same : length fed ≡ length nodes) (opposite : free ≡ map not fed) (o m1 o1 : List ℕ) (a : Added nodes fed n (length nodes) [] o m1 o1) where
  free_at : (x : ℕ) → x < length nodes → get_or free x false ≡ not (get_or fed x false)
  free_at x l = ap (λ (t : List Bool). get_or t x false) opposite ∙ not_fed fed x (omega arith)

  free_size : length free ≡ length nodes
  free_size = ap length opposite ∙ length-map fed not ∙ same

  counts : count_by (λ b. b) fed + count_by (λ b. b) free ≡ length nodes
  counts = ap (λ t. count_by (λ (b : Bool). b) fed + count_by (λ (b : Bool). b) t) opposite ∙ both_count fed ∙ same

  few1 : length m1 ≤ count_by (λ b. b) fed
  few1 = let f = a.few in let t : take (length nodes) fed ≡ fed = take_all (length nodes) fed (omega arith) in let c = ap (count_by (λ (b : Bool). b)) t in omega (arith, f, c)

  pub room_left : length nodes < 2 ^ 32 → length m1 + count_by (λ b. b) free < 2 ^ 32
  room_left r = let f = few1 in let c = counts in omega (arith, f, c, r)

  pub first_none : NonePicked free m1
  first_none k l =
      let r = a.fresh k (omega arith) l in
      free_at (get_or m1 k 0) r.0 ∙ ap not r.1

  module _ (m2 o2 : List ℕ) (b : Added nodes free n (length nodes) m1 o1 m2 o2) where
    few2 : length m2 ≤ length nodes
    few2 = let f = b.few in let t : take (length nodes) free ≡ free = take_all (length nodes) free (let z = free_size in omega (arith, z)) in let c = ap (count_by (λ (b : Bool). b)) t in let d = counts in let e = few1 in omega (arith, f, c, d, e)

    of_fed : (x : ℕ) → x < length nodes → get_or nodes x 0 ≡ n → (t : Bool) → get_or fed x false ≡ t → (get_or o2 x 0 < length m2) × (get_or m2 (get_or o2 x 0) 0 ≡ x)
    of_fed x l e true t =
        let r = a.all x l e t in
        let w = b.others x (free_at x l ∙ ap not t) in
        let h = b.more in
        (omega (arith, w, r.0, h), ap (λ z. get_or m2 z 0) w ∙ b.kept (get_or o1 x 0) r.0 ∙ r.1)
    of_fed x l e false t = b.all x l e (free_at x l ∙ ap not t)

    fed_first : (k : ℕ) → k < length m1 → get_or fed (get_or m2 k 0) false ≡ true
    fed_first k l = let r = a.fresh k (omega arith) l in ap (λ z. get_or fed z false) (b.kept k l) ∙ r.1

    fed_rest : (k : ℕ) → length m1 ≤ k → k < length m2 → get_or fed (get_or m2 k 0) false ≡ false
    fed_rest k c l =
        let r = b.fresh k c l in
        of_not (get_or fed (get_or m2 k 0) false) (sym (free_at (get_or m2 k 0) r.0) ∙ r.1)
      where
        of_not : (t : Bool) → not t ≡ true → t ≡ false
        of_not true h = absurd (cc)
        of_not false h = refl

    pub both : HasMembers nodes fed n m2 o2 (length m1)
    both = record {
      numbered = b.numbered;
      inputs_le = b.more;
      few = few2;
      all = λ x l e. of_fed x l e (get_or fed x false) refl;
      first = fed_first;
      rest = fed_rest;
    }
