-- What the search for a closed walk keeps.
use Rattle.std.proofs.Common.{◌≡◌, ℕ, zero, suc, ◌<◌, ◌≤◌, ◌+◌, ◌-◌, inl, inr, Bool, true, false, cond, List, [], ◌∷◌, ◌++◌, length, map, get_or, set, Some, refl, sym, ap, ◌∙◌, subst, arith, eqb-true}
use Rattle.std.specs.Prelude.{nat_eq, replicate, if◌then◌else◌}
use Rattle.std.specs.List.{slice_get, sum_by, sum}
use Rattle.std.proofs.lemmas.List.{get_or_default, get_or-set_same, get_or-set_other, length-set, length-map, length-replicate, get_or-replicate, get_or-map, get_or_past}
use Rattle.std.proofs.lemmas.List.Sums.{sum_by-set}
use Rattle.std.proofs.lemmas.Bool.Decides.{leb_tells, eqb_tells}
use Rattle.lt_base.specs.Graph.{Walks, ClosedWalk}
use Rattle.lt_graph.specs.Tables.{next, Leads}
use Rattle.lt_cause.specs.Tables.{occurrences, Circles}
use Rattle.lt_cause.proofs.Walks.{one, one_self, count_push, Along, Trail, along_push, trail_push, trail_pop}
use Rattle.lt_graph.proofs.Reaches.{has_place}

-- whether a number was seen
abbrev pub known : List Bool → ℕ → Bool
known seen x = get_or seen x false

abbrev pub flag : Bool → ℕ
flag true = 1
flag false = 0

abbrev pub unseen : Bool → ℕ
unseen true = 0
unseen false = 1

-- the first number, if there is one
abbrev pub Begins : ℕ → List ℕ → Type 0
Begins v [] = Unit {0}
Begins v (x ∷ xs) = x ≡ v

pub record Circling (g : List (List ℕ)) (start : ℕ) (seen : List Bool) (rest path : List ℕ) : Type 0 where
  pub seen_size : length seen ≡ length g
  pub rest_size : length rest ≡ length g
  pub on_path : (x : ℕ) → occurrences x path ≤ flag (known seen x)
  pub small : (x : ℕ) → x < length g → get_or rest x 0 ≤ length (next g x)
  pub fresh : (x : ℕ) → x < length g → known seen x ≡ false → get_or rest x 0 ≡ length (next g x)
  -- what a number leads to was seen, and is not the start, as far as the search has looked
  pub looked : (x j : ℕ) → known seen x ≡ true → get_or rest x 0 ≤ j → j < length (next g x) → (known seen (get_or (next g x) j 0) ≡ true) × (get_or (next g x) j 0 ≡ start → ⊥)
  pub waits : (x : ℕ) → known seen x ≡ true → 0 < get_or rest x 0 → 0 < occurrences x path
  pub trail : Trail (Leads g) path
  pub starts : Begins start path
  pub root : known seen start ≡ true

rest_set : (rest : List ℕ) (x v z : ℕ) → x < length rest → get_or (set rest x v) z 0 ≡ (if nat_eq z x then v else get_or rest z 0)
rest_set rest x v z l = elim (eqb_tells z x) [
  | inl e ↦ subst (λ w. get_or (set rest x v) w 0 ≡ v) (sym e.1) (get_or-set_same rest x v 0 l) ∙ ap (λ b. if b then v else get_or rest z 0) (sym e.0)
  | inr e ↦ get_or-set_other rest x z v 0 e.1 ∙ ap (λ b. if b then v else get_or rest z 0) (sym e.0)
]

seen_set : (seen : List Bool) (y z : ℕ) → y < length seen → known (set seen y true) z ≡ (if nat_eq z y then true else known seen z)
seen_set seen y z l = elim (eqb_tells z y) [
  | inl e ↦ subst (λ w. known (set seen y true) w ≡ true) (sym e.1) (get_or-set_same seen y true false l) ∙ ap (λ b. if b then true else known seen z) (sym e.0)
  | inr e ↦ get_or-set_other seen y z true false e.1 ∙ ap (λ b. if b then true else known seen z) (sym e.0)
]

flag_most : (b : Bool) → flag b ≤ 1
flag_most true = omega arith
flag_most false = omega arith

is_known : (b : Bool) → 0 < flag b → b ≡ true
is_known true h = refl
is_known false h = absurd (omega arith)

known_inside : (seen : List Bool) (x : ℕ) → known seen x ≡ true → x < length seen
known_inside seen x h = elim (leb_tells (suc x) (length seen)) [ inl a ↦ omega (arith, a.1) | inr a ↦ let e = get_or_past seen x false (omega (arith, a.1)) in absurd (cc) ]

pub known_read : (seen : List Bool) (y : ℕ) (b : Bool) → y < length seen → b ≡ get_or seen y b → known seen y ≡ b
known_read seen y b l e = get_or_default seen y false b l ∙ sym e

begins_pop : (v : ℕ) (p : List ℕ) (x : ℕ) → Begins v (p ++ x ∷ []) → Begins v p
begins_pop v [] x h = tt
begins_pop v (z ∷ p) x h = h

begins_push : (v : ℕ) (p : List ℕ) (x : ℕ) → 0 < length p → Begins v p → Begins v (p ++ x ∷ [])
begins_push v [] x l h = absurd (omega arith)
begins_push v (z ∷ p) x l h = h

counted_long : (x : ℕ) (p : List ℕ) → 0 < occurrences x p → 0 < length p
counted_long x [] h = absurd (omega arith)
counted_long x (z ∷ p) h = omega arith

module _ (g : List (List ℕ)) (start : ℕ) (seen : List Bool) (rest path : List ℕ) (s : Circling g start seen rest path) where
  module _ (p : List ℕ) (x : ℕ) (top : path ≡ p ++ x ∷ []) where
    counted : (z : ℕ) → occurrences z path ≡ occurrences z p + one z x
    counted z = ap (occurrences z) top ∙ count_push z x p

    pub on : 0 < occurrences x path
    on = let c = counted x in let o = one_self x in omega (arith, c, o)

    x_known : known seen x ≡ true
    x_known = is_known (known seen x) (let a = s.on_path x in let b = on in omega (arith, a, b))

    pub x_inside : x < length g
    x_inside = let l = known_inside seen x x_known in let n = s.seen_size in omega (arith, l, n)

    rest_inside : x < length rest
    rest_inside = let l = x_inside in let n = s.rest_size in omega (arith, l, n)

    pub rest_is : (left : ℕ) → left ≡ get_or rest x left → get_or rest x 0 ≡ left
    rest_is left e = get_or_default rest x 0 left rest_inside ∙ sym e

    pub place_in : (left : ℕ) → get_or rest x 0 ≡ left → 0 < left → left - 1 < length (next g x)
    place_in left e n = let m = s.small x x_inside in omega (arith, e, m, n)

    pub along_to : (y : ℕ) → Leads g x y → Along (Leads g) path y
    along_to y l = subst (λ (q : List ℕ). Along (Leads g) q y) (sym top) (along_push (Leads g) p x y (s.trail p x top) l)

    -- all that it leads to was looked at
    module _ (none : get_or rest x 0 ≡ 0) where
      waits_by : (z : ℕ) → 0 < get_or rest z 0 → 0 < occurrences z path → (b : Bool) → nat_eq z x ≡ b → occurrences z path ≡ occurrences z p + cond b 1 0 → 0 < occurrences z p
      waits_by z r c true e k = let n = ap (λ w. get_or rest w 0) (eqb-true z x e) ∙ none in absurd (omega (arith, n, r))
      waits_by z r c false e k = omega (arith, c, k)

      pub leave : Circling g start seen rest p
      leave = record {
        seen_size = s.seen_size;
        rest_size = s.rest_size;
        on_path = λ z. let c = counted z in let m = s.on_path z in omega (arith, c, m);
        small = s.small;
        fresh = s.fresh;
        looked = s.looked;
        waits = λ z k r. waits_by z r (s.waits z k r) (nat_eq z x) refl (counted z);
        trail = trail_pop (Leads g) p x (subst (Trail (Leads g)) top s.trail);
        starts = begins_pop start p x (subst (Begins start) top s.starts);
        root = s.root;
      }

    -- the place that is looked at next
    module _ (left : ℕ) (is : get_or rest x 0 ≡ left) (some : 0 < left) where
      small_by : (z : ℕ) → z < length g → (b : Bool) → nat_eq z x ≡ b → (if b then left - 1 else get_or rest z 0) ≤ length (next g z)
      small_by z l true e = let m = s.small z l in let n = ap (λ w. get_or rest w 0) (eqb-true z x e) ∙ is in omega (arith, m, n)
      small_by z l false e = s.small z l

      small_set : (z : ℕ) → z < length g → get_or (set rest x (left - 1)) z 0 ≤ length (next g z)
      small_set z l = subst (λ n. n ≤ length (next g z)) (sym (rest_set rest x (left - 1) z rest_inside)) (small_by z l (nat_eq z x) refl)

      fresh_by : (z : ℕ) → z < length g → known seen z ≡ false → (b : Bool) → nat_eq z x ≡ b → (if b then left - 1 else get_or rest z 0) ≡ length (next g z)
      fresh_by z l k true e = let n = ap (known seen) (eqb-true z x e) ∙ x_known in absurd (cc)
      fresh_by z l k false e = s.fresh z l k

      fresh_set : (z : ℕ) → z < length g → known seen z ≡ false → get_or (set rest x (left - 1)) z 0 ≡ length (next g z)
      fresh_set z l k = rest_set rest x (left - 1) z rest_inside ∙ fresh_by z l k (nat_eq z x) refl

      waits_set_by : (z : ℕ) → known seen z ≡ true → (b : Bool) → nat_eq z x ≡ b → 0 < (if b then left - 1 else get_or rest z 0) → 0 < occurrences z path
      waits_set_by z k true e r = subst (λ w. 0 < occurrences w path) (sym (eqb-true z x e)) on
      waits_set_by z k false e r = s.waits z k r

      waits_set : (z : ℕ) → known seen z ≡ true → 0 < get_or (set rest x (left - 1)) z 0 → 0 < occurrences z path
      waits_set z k r = waits_set_by z k (nat_eq z x) refl (subst (λ n. 0 < n) (rest_set rest x (left - 1) z rest_inside) r)

      pub rest_shorter : sum (set rest x (left - 1)) + 1 ≡ sum rest
      rest_shorter = let e = sum_by-set (λ n. n) rest x (left - 1) 0 rest_inside in omega (arith, e, is, some)

      module _ (y : ℕ) (at : y ≡ get_or (next g x) (left - 1) 0) where
        -- what was looked at before, and what stands at this place
        looked_by : (Q : ℕ → Type 0) → Q y → (z j : ℕ) → ((k : ℕ) → get_or rest z 0 ≤ k → k < length (next g z) → Q (get_or (next g z) k 0)) → j < length (next g z) → (b : Bool) → nat_eq z x ≡ b
            → (if b then left - 1 else get_or rest z 0) ≤ j → Q (get_or (next g z) j 0)
        looked_by Q q z j old l true e a =
            let same : z ≡ x = eqb-true z x e in
            let n = ap (λ w. get_or rest w 0) same ∙ is in
            elim (leb_tells left j) [
              | inl c ↦ old j (let d = c.1 in omega (arith, d, n)) l
              | inr c ↦
                  let there : j ≡ left - 1 = let d = c.1 in omega (arith, d, a, some) in
                  subst Q (at ∙ (λ i. get_or (next g (sym same i)) (sym there i) 0)) q
            ]
        looked_by Q q z j old l false e a = old j a l

        looked_set : (Q : ℕ → Type 0) → Q y → (z j : ℕ) → ((k : ℕ) → get_or rest z 0 ≤ k → k < length (next g z) → Q (get_or (next g z) k 0)) → get_or (set rest x (left - 1)) z 0 ≤ j → j < length (next g z) → Q (get_or (next g z) j 0)
        looked_set Q q z j old a l = looked_by Q q z j old l (nat_eq z x) refl (subst (λ n. n ≤ j) (rest_set rest x (left - 1) z rest_inside) a)

        -- it was seen before
        module _ (other : y ≡ start → ⊥) where
          pub look : known seen y ≡ true → Circling g start seen (set rest x (left - 1)) path
          look k = record {
            seen_size = s.seen_size;
            rest_size = length-set rest x (left - 1) ∙ s.rest_size;
            on_path = s.on_path;
            small = small_set;
            fresh = fresh_set;
            looked = λ z j b a l. looked_set (λ w. (known seen w ≡ true) × (w ≡ start → ⊥)) (k, other) z j (λ i c d. s.looked z i b c d) a l;
            waits = waits_set;
            trail = s.trail;
            starts = s.starts;
            root = s.root;
          }

          -- it is seen now
          module _ (inside : y < length g) (new : known seen y ≡ false) where
            y_inside : y < length seen
            y_inside = let n = s.seen_size in omega (arith, inside, n)

            still : (z : ℕ) → known seen z ≡ true → known (set seen y true) z ≡ true
            still z h = seen_set seen y z y_inside ∙ by (nat_eq z y) h
              where
                by : (b : Bool) → known seen z ≡ true → (if b then true else known seen z) ≡ true
                by true h = refl
                by false h = h

            now_known : known (set seen y true) y ≡ true
            now_known = get_or-set_same seen y true false y_inside

            path_by : (z : ℕ) (b : Bool) → nat_eq z y ≡ b → occurrences z path + cond b 1 0 ≤ flag (if b then true else known seen z)
            path_by z true e = let m = s.on_path z in let n : flag (known seen z) ≡ 0 = ap (λ w. flag (known seen w)) (eqb-true z y e) ∙ ap flag new in omega (arith, m, n)
            path_by z false e = let m = s.on_path z in omega (arith, m)

            -- a number that is still new, and one that was known
            was : (z : ℕ) (P : Type 0) → (known seen z ≡ true → P) → (z ≡ y → P) → known (set seen y true) z ≡ true → P
            was z P old here h = by (nat_eq z y) refl (sym (seen_set seen y z y_inside) ∙ h)
              where
                by : (b : Bool) → nat_eq z y ≡ b → (if b then true else known seen z) ≡ true → P
                by true e k = here (eqb-true z y e)
                by false e k = old k

            still_new : (z : ℕ) → known (set seen y true) z ≡ false → known seen z ≡ false
            still_new z h = by (nat_eq z y) (sym (seen_set seen y z y_inside) ∙ h)
              where
                by : (b : Bool) → (if b then true else known seen z) ≡ false → known seen z ≡ false
                by true k = absurd (cc)
                by false k = k

            pub meet : Leads g x y → Circling g start (set seen y true) (set rest x (left - 1)) (path ++ y ∷ [])
            meet l = record {
              seen_size = length-set seen y true ∙ s.seen_size;
              rest_size = length-set rest x (left - 1) ∙ s.rest_size;
              on_path = λ z. let a = count_push z y path in let b = path_by z (nat_eq z y) refl in let c = ap flag (seen_set seen y z y_inside) in omega (arith, a, b, c);
              small = small_set;
              fresh = λ z a b. fresh_set z a (still_new z b);
              looked = λ z j b a d. was z ((known (set seen y true) (get_or (next g z) j 0) ≡ true) × (get_or (next g z) j 0 ≡ start → ⊥))
                  (λ k. looked_set (λ w. (known (set seen y true) w ≡ true) × (w ≡ start → ⊥)) (now_known, other) z j (λ i c e. let r = s.looked z i k c e in (still (get_or (next g z) i 0) r.0, r.1)) a d)
                  (λ same. let n = fresh_set z (subst (λ w. w < length g) (sym same) inside) (ap (known seen) same ∙ new) in absurd (omega (arith, n, a, d))) b;
              waits = λ z b r. let c = count_push z y path in was z (0 < occurrences z (path ++ y ∷ [])) (λ k. let w = waits_set z k r in omega (arith, c, w)) (λ same. let o : one z y ≡ 1 = ap (λ w. one w y) same ∙ one_self y in omega (arith, c, o)) b;
              trail = trail_push (Leads g) path y (along_to y l);
              starts = begins_push start path y (counted_long x path on) s.starts;
              root = still start s.root;
            }

            pub seen_fewer : sum_by unseen (set seen y true) + 1 ≡ sum_by unseen seen
            seen_fewer = let e = sum_by-set unseen seen y true false y_inside in let u : unseen (get_or seen y false) ≡ 1 = ap unseen new in omega (arith, e, u)

    -- it leads to the start
    pub closes : Leads g x start → Circles (Leads g) start (p ++ x ∷ [])
    closes l =
        let whole : Circles (Leads g) start path = record { starts = first path s.starts (counted_long x path on); closed = around path s.starts (counted_long x path on) (along_to start l); once = λ z. let a = s.on_path z in let b = flag_most (known seen z) in omega (arith, a, b) } in
        subst (Circles (Leads g) start) top whole
      where
        first : (q : List ℕ) → Begins start q → 0 < length q → slice_get q 0 ≡ Some start
        first [] b n = absurd (omega arith)
        first (z ∷ q) b n = ap Some b

        around : (q : List ℕ) → Begins start q → 0 < length q → Along (Leads g) q start → ClosedWalk (Leads g) q
        around [] b n a = absurd (omega arith)
        around (z ∷ q) b n a = subst (Walks (Leads g) z q) (sym b) a

-- ---- the search begins, and ends

replicate_known : (n x : ℕ) → known (replicate n false) x ≡ false
replicate_known n x = elim (leb_tells (suc x) n) [ inl a ↦ get_or-replicate n x false false (omega (arith, a.1)) | inr a ↦ get_or_past (replicate n false) x false (let l = length-replicate n false in omega (arith, a.1, l)) ]

pub begins : (g : List (List ℕ)) (start : ℕ) → start < length g → Circling g start (set (replicate (length g) false) start true) (map length g) (start ∷ [])
begins g start l =
    let n = length g in
    let inside : start < length (replicate n false) = let e = length-replicate n false in omega (arith, l, e) in
    let rest_of : (x : ℕ) → x < n → get_or (map length g) x 0 ≡ length (next g x) = λ x m. get_or-map length g x [] 0 m in
    let only : (x : ℕ) → known (set (replicate n false) start true) x ≡ true → x ≡ start = λ x h. alone x (nat_eq x start) refl (sym (seen_set (replicate n false) start x inside) ∙ h) in
    record {
      seen_size = length-set (replicate n false) start true ∙ length-replicate n false;
      rest_size = length-map g length;
      on_path = λ x. let a = count_push x start [] in let b = ap flag (seen_set (replicate n false) start x inside) in let c = path_by x (nat_eq x start) in omega (arith, a, b, c);
      small = λ x m. let e = rest_of x m in omega (arith, e);
      fresh = λ x m k. rest_of x m;
      looked = λ x j k a b. let e = rest_of x (subst (λ w. w < n) (sym (only x k)) l) in absurd (omega (arith, e, a, b));
      waits = λ x k r. let a = count_push x start [] in let o : one x start ≡ 1 = ap (λ w. one w start) (only x k) ∙ one_self start in omega (arith, a, o);
      trail = trail_push (Leads g) [] start tt;
      starts = refl;
      root = get_or-set_same (replicate n false) start true false inside;
    }
  where
    alone : (x : ℕ) (b : Bool) → nat_eq x start ≡ b → (if b then true else known (replicate (length g) false) x) ≡ true → x ≡ start
    alone x true e h = eqb-true x start e
    alone x false e h = let f = replicate_known (length g) x in absurd (cc)

    path_by : (x : ℕ) (b : Bool) → cond b 1 0 ≤ flag (if b then true else known (replicate (length g) false) x)
    path_by x true = omega arith
    path_by x false = omega arith

-- no walk leads from the start back to it
pub ends : (g : List (List ℕ)) (start : ℕ) (seen : List Bool) (rest : List ℕ) → Circling g start seen rest [] → (walk : List ℕ) → ClosedWalk (Leads g) (start ∷ walk) → ⊥
ends g start seen rest s walk c = stays walk start s.root c
  where
    spent : (v : ℕ) → known seen v ≡ true → get_or rest v 0 ≡ 0
    spent v k = by (get_or rest v 0) (s.waits v k)
      where
        by : (n : ℕ) → (0 < n → 0 < 0) → n ≡ 0
        by zero h = refl
        by (suc n) h = let f : 0 < 0 = h (omega arith) in absurd (omega (arith, f))

    met : (v z : ℕ) → known seen v ≡ true → Leads g v z → (known seen z ≡ true) × (z ≡ start → ⊥)
    met v z k l =
        let at = has_place z (next g v) l in
        let r = spent v k in
        subst (λ w. (known seen w ≡ true) × (w ≡ start → ⊥)) at.2 (s.looked v at.0 k (omega (arith, r)) at.1)

    stays : (walk : List ℕ) (v : ℕ) → known seen v ≡ true → Walks (Leads g) v walk start → ⊥
    stays [] v k w = (met v start k w).1 refl
    stays (z ∷ zs) v k w = stays zs z (met v z k w.0).0 w.1
