-- What stands in a part adds up to no more than what stands in the whole.
use Rattle.std.proofs.Common.{◌≡◌, ◌≢◌, ◌⊎◌, ℕ, zero, suc, ◌+◌, ◌*◌, ◌<◌, ◌≤◌, Bool, true, false, cond, List, [], ◌∷◌, length, map, take, get_or, refl, sym, ap, ◌∙◌, arith, ⊎_elim}
use Rattle.std.specs.Prelude.{nat_lt}
use Rattle.std.specs.List.{filter, sum_by}
use Rattle.std.proofs.lemmas.List.{length-map}
use Rattle.std.proofs.lemmas.List.Sums.{sum_by-cons, sum_by_more, sum_by-take-le, length-filter, count_by-le-length}
use Rattle.std.proofs.lemmas.Bool.{cases_eq}
use Rattle.std.proofs.lemmas.Bool.Decides.{nat_tests}
use Rattle.lt_base.specs.Expression.{Expression, literal, variable, unary, binary, imported, choose, sampled, merged, delayed, follow, arrow, call, Arguments, no_arguments, argument, parts, arguments_parts}
use Rattle.lt_base.specs.Meaning.{ClockPairs}
use Rattle.lt_base.specs.Sizes.{cost, arguments_cost}
use Rattle.lt_base.specs.Placed.{renamed, arguments_renamed, below}

-- ---- under other numbers

abbrev pub delays : Expression → ℕ
delays e = cost 1 (λ _. 0) e

mutual
  pub delays_renamed : (r : ℕ → ℕ) (e : Expression) → delays (renamed r e) ≡ delays e
  delays_renamed r (literal v) = refl
  delays_renamed r (variable x) = refl
  delays_renamed r (unary o a) = delays_renamed r a
  delays_renamed r (binary o a b) = λ i. delays_renamed r a i + delays_renamed r b i
  delays_renamed r (imported o a b) = λ i. delays_renamed r a i + delays_renamed r b i
  delays_renamed r (choose c a b) = λ i. delays_renamed r c i + delays_renamed r a i + delays_renamed r b i
  delays_renamed r (sampled e c b) = delays_renamed r e
  delays_renamed r (merged c a b) = λ i. delays_renamed r a i + delays_renamed r b i
  delays_renamed r (delayed v e) = λ i. 1 + delays_renamed r e i
  delays_renamed r (follow a b) = λ i. 2 * 1 + delays_renamed r a i + delays_renamed r b i
  delays_renamed r (arrow a b) = λ i. 1 + delays_renamed r a i + delays_renamed r b i
  delays_renamed r (call g args) = λ i. 0 + arguments_delays_renamed r args i

  pub arguments_delays_renamed : (r : ℕ → ℕ) (args : Arguments) → arguments_cost 1 (λ _. 0) (arguments_renamed r args) ≡ arguments_cost 1 (λ _. 0) args
  arguments_delays_renamed r no_arguments = refl
  arguments_delays_renamed r (argument e args) = λ i. delays_renamed r e i + arguments_delays_renamed r args i

mutual
  pub parts_renamed : (r : ℕ → ℕ) (e : Expression) → parts (renamed r e) ≡ parts e
  parts_renamed r (literal v) = refl
  parts_renamed r (variable x) = refl
  parts_renamed r (unary o a) = λ i. 1 + parts_renamed r a i
  parts_renamed r (binary o a b) = λ i. 1 + parts_renamed r a i + parts_renamed r b i
  parts_renamed r (imported o a b) = λ i. 1 + parts_renamed r a i + parts_renamed r b i
  parts_renamed r (choose c a b) = λ i. 1 + parts_renamed r c i + parts_renamed r a i + parts_renamed r b i
  parts_renamed r (sampled e c b) = λ i. 1 + parts_renamed r e i
  parts_renamed r (merged c a b) = λ i. 1 + parts_renamed r a i + parts_renamed r b i
  parts_renamed r (delayed v e) = λ i. 1 + parts_renamed r e i
  parts_renamed r (follow a b) = λ i. 1 + parts_renamed r a i + parts_renamed r b i
  parts_renamed r (arrow a b) = λ i. 1 + parts_renamed r a i + parts_renamed r b i
  parts_renamed r (call g args) = λ i. 1 + arguments_parts_renamed r args i

  pub arguments_parts_renamed : (r : ℕ → ℕ) (args : Arguments) → arguments_parts (arguments_renamed r args) ≡ arguments_parts args
  arguments_parts_renamed r no_arguments = refl
  arguments_parts_renamed r (argument e args) = λ i. parts_renamed r e i + arguments_parts_renamed r args i

pub length_below : (r : ℕ → ℕ) (ck : ClockPairs) → length (below r ck []) ≡ length ck
length_below r [] = refl
length_below r ((c, b) ∷ ck) = let rest = length_below r ck in omega (arith, rest)

-- ---- what is picked from a list, and then changed in what does not count

module _ {A : Type 0} (change : A → A) (keep : A → Bool) where
  pub length_picked : (xs : List A) → length (map change (filter keep xs)) ≤ length xs
  length_picked xs = let m = length-map (filter keep xs) change in let f = length-filter keep xs in let c = count_by-le-length keep xs in omega (arith, m, f, c)

  module _ (g : A → ℕ) (same : (x : A) → g (change x) ≡ g x) where
    pub sum_picked : (xs : List A) → sum_by g (map change (filter keep xs)) ≤ sum_by g xs
    sum_picked [] = omega arith
    sum_picked (x ∷ xs) = by (keep x) (sum_picked xs)
      where
        by : (t : Bool) → sum_by g (map change (filter keep xs)) ≤ sum_by g xs → sum_by g (map change (cond t (x ∷ filter keep xs) (filter keep xs))) ≤ sum_by g (x ∷ xs)
        by true rest =
            let all = sum_by-cons g x xs in
            let picked = sum_by-cons g (change x) (map change (filter keep xs)) in
            let s = same x in
            omega (arith, rest, all, picked, s)
        by false rest = let all = sum_by-cons g x xs in omega (arith, rest, all)

-- ---- elements at different places of a list

-- the numbers differ
abbrev pub Differ : List ℕ → Type 0
Differ ks = (i j : ℕ) → i < length ks → j < length ks → get_or ks i 0 ≡ get_or ks j 0 → i ≡ j

module _ {A : Type 0} (g : A → ℕ) (xs : List A) (d : A) where
  -- what the element at a place counts
  abbrev pub at : ℕ → ℕ
  at k = g (get_or xs k d)

  -- what those at these places before the bound count
  abbrev among : ℕ → List ℕ → ℕ
  among n [] = 0
  among n (k ∷ ks) = cond (nat_lt k n) (at k) 0 + among n ks

  differ_rest : (k : ℕ) (ks : List ℕ) → Differ (k ∷ ks) → Differ ks
  differ_rest k ks h i j a b e = let z = h (suc i) (suc j) (omega (arith, a)) (omega (arith, b)) e in omega (arith, z)

  not_again : (k : ℕ) (ks : List ℕ) → Differ (k ∷ ks) → (i : ℕ) → i < length ks → get_or ks i 0 ≢ k
  not_again k ks h i a e = let z = h (suc i) 0 (omega (arith, a)) (omega arith) e in omega (arith, z)

  same_test : (k n a : ℕ) → k ≢ n → ◌≡◌ {A = ℕ} (cond (nat_lt k (suc n)) a 0) (cond (nat_lt k n) a 0)
  same_test k n a h = grind (arith, nat_tests)

  in_test : (n a : ℕ) → ◌≡◌ {A = ℕ} (cond (nat_lt n (suc n)) a 0) a
  in_test n a = grind (arith, nat_tests)

  out_test : (n a : ℕ) → ◌≡◌ {A = ℕ} (cond (nat_lt n n) a 0) 0
  out_test n a = grind (arith, nat_tests)

  below_test : (k n a : ℕ) → k < n → ◌≡◌ {A = ℕ} (cond (nat_lt k n) a 0) a
  below_test k n a h = grind (arith, nat_tests)

  zero_test : (k a : ℕ) → ◌≡◌ {A = ℕ} (cond (nat_lt k 0) a 0) 0
  zero_test k a = grind (arith, nat_tests)

  -- a place that is none of these
  among_none : (n : ℕ) (ks : List ℕ) → ((i : ℕ) → i < length ks → get_or ks i 0 ≢ n) → among (suc n) ks ≡ among n ks
  among_none n [] h = refl
  among_none n (k ∷ ks) h =
      let rest = among_none n ks (λ i l. h (suc i) (omega (arith, l))) in
      let here = same_test k n (at k) (h 0 (omega arith)) in
      omega (arith, rest, here)

  -- one place more
  among_more : (n : ℕ) (ks : List ℕ) → Differ ks → among (suc n) ks ≤ among n ks + at n
  among_more n [] h = omega arith
  among_more n (k ∷ ks) h = by (among_more n ks (differ_rest k ks h)) (cases_eq k n)
    where
      by : among (suc n) ks ≤ among n ks + at n → (k ≡ n) ⊎ (k ≢ n) → among (suc n) (k ∷ ks) ≤ among n (k ∷ ks) + at n
      by rest = ⊎_elim
          (λ (e : k ≡ n).
          let none = among_none n ks (λ i l q. not_again k ks h i l (q ∙ sym e)) in
          let inside : ◌≡◌ {A = ℕ} (cond (nat_lt k (suc n)) (at k) 0) (at n) = ap (λ z. cond (nat_lt z (suc n)) (at z) 0) e ∙ in_test n (at n) in
          omega (arith, none, inside))
          (λ (e : k ≢ n). let here = same_test k n (at k) e in omega (arith, rest, here))

  among_zero : (ks : List ℕ) → among 0 ks ≡ 0
  among_zero [] = refl
  among_zero (k ∷ ks) = let rest = among_zero ks in let here = zero_test k (at k) in omega (arith, rest, here)

  among_most : (n : ℕ) (ks : List ℕ) → Differ ks → n ≤ length xs → among n ks ≤ sum_by g (take n xs)
  among_most zero ks h l = let z = among_zero ks in omega (arith, z)
  among_most (suc n) ks h l =
      let before = among_most n ks h (omega (arith, l)) in
      let more = among_more n ks h in
      let sum : sum_by g (take (suc n) xs) ≡ sum_by g (take n xs) + at n = ap (λ j. sum_by g (take j xs)) (let e : suc n ≡ n + 1 = omega arith in e) ∙ sum_by_more g xs n d (omega (arith, l)) in
      omega (arith, before, more, sum)

  among_all : (n : ℕ) (ks : List ℕ) → ((i : ℕ) → i < length ks → get_or ks i 0 < n) → sum_by at ks ≡ among n ks
  among_all n [] h = refl
  among_all n (k ∷ ks) h =
      let rest = among_all n ks (λ i l. h (suc i) (omega (arith, l))) in
      let here = below_test k n (at k) (h 0 (omega arith)) in
      let all = sum_by-cons at k ks in
      omega (arith, rest, here, all)

  module _ {B : Type 0} (w : B → ℕ) (made : ℕ → B) (same : (k : ℕ) → w (made k) ≡ at k) where
    made_is : (ks : List ℕ) → sum_by w (map made ks) ≡ sum_by at ks
    made_is [] = refl
    made_is (k ∷ ks) = sum_by-cons w (made k) (map made ks) ∙ (λ i. same k i + made_is ks i) ∙ sym (sum_by-cons at k ks)

    -- what is made of elements at different places counts no more than all elements
    pub sum_made : (ks : List ℕ) → Differ ks → ((i : ℕ) → i < length ks → get_or ks i 0 < length xs) → sum_by w (map made ks) ≤ sum_by g xs
    sum_made ks h b =
        let total = made_is ks in
        let all = among_all (length xs) ks b in
        let most = among_most (length xs) ks h (omega arith) in
        let whole = sum_by-take-le g xs (length xs) in
        omega (arith, total, all, most, whole)
