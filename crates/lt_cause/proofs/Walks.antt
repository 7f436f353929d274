-- Walks along a list of numbers.
use Rattle.std.proofs.Common.{◌≡◌, ℕ, ◌<◌, ◌+◌, Bool, true, false, cond, List, [], ◌∷◌, ◌++◌, refl, sym, ap, subst, arith, eqb-true}
use Rattle.std.specs.Prelude.{◌||◌, nat_eq}
use Rattle.std.proofs.lemmas.List.{same_from_push}
use Rattle.std.proofs.lemmas.List.Sums.{sum_by_push, sum_by-cons}
use Rattle.lt_base.specs.Dependence.{has}
use Rattle.lt_base.specs.Graph.{Walks, ClosedWalk}
use Rattle.lt_cause.specs.Tables.{occurrences}

-- ---- how often a number stands in a list

-- 1 for the same number, and 0 for another
abbrev pub one : ℕ → ℕ → ℕ
one x y = cond (nat_eq x y) 1 0

pub count_cons : (x y : ℕ) (xs : List ℕ) → occurrences x (y ∷ xs) ≡ one x y + occurrences x xs
count_cons x y xs = sum_by-cons (λ z. cond (nat_eq x z) 1 0) y xs

pub count_push : (x y : ℕ) (xs : List ℕ) → occurrences x (xs ++ y ∷ []) ≡ occurrences x xs + one x y
count_push x y xs = sum_by_push (λ z. cond (nat_eq x z) 1 0) xs y

pub one_self : (x : ℕ) → one x x ≡ 1
one_self x = ap (λ b. cond b 1 0) (Rattle.lt_base.proofs.Lookups.same_self x)

pub has_counted : (x : ℕ) (xs : List ℕ) → 0 < occurrences x xs → has x xs ≡ true
has_counted x [] h = absurd (omega arith)
has_counted x (y ∷ xs) h = by (nat_eq x y) (count_cons x y xs) (has_counted x xs)
  where
    by : (b : Bool) → occurrences x (y ∷ xs) ≡ cond b 1 0 + occurrences x xs → (0 < occurrences x xs → has x xs ≡ true) → (b || has x xs) ≡ true
    by true e later = refl
    by false e later = later (omega (arith, e, h))

pub counted_has : (x : ℕ) (xs : List ℕ) → has x xs ≡ true → 0 < occurrences x xs
counted_has x [] h = absurd (cc)
counted_has x (y ∷ xs) h = go (nat_eq x y) h (count_cons x y xs) (counted_has x xs)
  where
    go : (b : Bool) → (b || has x xs) ≡ true → occurrences x (y ∷ xs) ≡ cond b 1 0 + occurrences x xs → (has x xs ≡ true → 0 < occurrences x xs) → 0 < occurrences x (y ∷ xs)
    go true h e k = omega (arith, e)
    go false h e k = let l = k h in omega (arith, e, l)

-- ---- walks

module _ (R : ℕ → ℕ → Type 0) where
  -- from the first number along the others to one more
  abbrev pub Along : List ℕ → ℕ → Type 0
  Along [] w = Unit {0}
  Along (x ∷ xs) w = Walks R x xs w

  walks_push : (xs : List ℕ) (x t y : ℕ) → Walks R x xs t → R t y → Walks R x (xs ++ t ∷ []) y
  walks_push [] x t y w r = (w, r)
  walks_push (z ∷ zs) x t y w r = (w.0, walks_push zs z t y w.1 r)

  pub along_push : (p : List ℕ) (t y : ℕ) → Along p t → R t y → Along (p ++ t ∷ []) y
  along_push [] t y w r = r
  along_push (x ∷ xs) t y w r = walks_push xs x t y w r

  walks_pop : (xs : List ℕ) (x t w : ℕ) → Walks R x (xs ++ t ∷ []) w → Walks R x xs t
  walks_pop [] x t w h = h.0
  walks_pop (z ∷ zs) x t w h = (h.0, walks_pop zs z t w h.1)

  pub along_pop : (p : List ℕ) (t w : ℕ) → Along (p ++ t ∷ []) w → Along p t
  along_pop [] t w h = tt
  along_pop (x ∷ xs) t w h = walks_pop xs x t w h

  along_rest : (z : ℕ) (zs : List ℕ) (w : ℕ) → Walks R z zs w → Along zs w
  along_rest z [] w h = tt
  along_rest z (y ∷ ys) w h = h.1

  -- from a number on the way
  pub along_from : (path : List ℕ) (y w : ℕ) → has y path ≡ true → Along path w → (more : List ℕ) × Walks R y more w
  along_from [] y w h a = absurd (cc)
  along_from (z ∷ zs) y w h a = go (nat_eq y z) refl h (λ k. along_from zs y w k (along_rest z zs w a))
    where
      go : (b : Bool) → nat_eq y z ≡ b → (b || has y zs) ≡ true → (has y zs ≡ true → (more : List ℕ) × Walks R y more w) → (more : List ℕ) × Walks R y more w
      go true e k later = (zs, subst (λ x. Walks R x zs w) (sym (eqb-true y z e)) a)
      go false e k later = later k

  -- each number of the list leads to the one after it
  abbrev pub Trail : List ℕ → Type 0
  Trail path = (p : List ℕ) (t : ℕ) → path ≡ p ++ t ∷ [] → Along p t

  not_pushed : (p : List ℕ) (t : ℕ) → [] ≡ p ++ t ∷ [] → ⊥
  not_pushed [] t e = cc
  not_pushed (x ∷ p) t e = cc

  pub trail_none : Trail []
  trail_none p t e = absurd (not_pushed p t e)

  pub trail_push : (path : List ℕ) (y : ℕ) → Along path y → Trail (path ++ y ∷ [])
  trail_push path y a p t e =
      let same = same_from_push path p y t e in
      subst (λ q. Along q t) same.0 (subst (Along path) same.1 a)

  pub trail_pop : (p : List ℕ) (t : ℕ) → Trail (p ++ t ∷ []) → Trail p
  trail_pop p t h q s e = let a : Along p t = h p t refl in along_pop q s t (subst (λ l. Along l t) e a)

  -- a walk that comes back to a number on the way is closed
  pub comes_back : (path : List ℕ) (y : ℕ) → has y path ≡ true → Along path y → (walk : List ℕ) × ClosedWalk R walk
  comes_back path y h a = let w = along_from path y y h a in (y ∷ w.0, w.1)

  -- ---- the numbers on a closed walk

  walks_join : (xs ys : List ℕ) (x y z : ℕ) → Walks R x xs y → Walks R y ys z → Walks R x (xs ++ y ∷ ys) z
  walks_join [] ys x y z a b = (a, b)
  walks_join (w ∷ ws) ys x y z a b = (a.0, walks_join ws ys w y z a.1 b)

  walks_split : (xs : List ℕ) (x y w : ℕ) → has y xs ≡ true → Walks R x xs w → ((a : List ℕ) × Walks R x a y) × ((b : List ℕ) × Walks R y b w)
  walks_split [] x y w h k = absurd (cc)
  walks_split (z ∷ zs) x y w h k = go (nat_eq y z) refl h (λ l. walks_split zs z y w l k.1)
    where
      go : (b : Bool) → nat_eq y z ≡ b → (b || has y zs) ≡ true → (has y zs ≡ true → ((a : List ℕ) × Walks R z a y) × ((b : List ℕ) × Walks R y b w)) → ((a : List ℕ) × Walks R x a y) × ((b : List ℕ) × Walks R y b w)
      go true e l later = (([], subst (R x) (sym (eqb-true y z e)) k.0), (zs, subst (λ v. Walks R v zs w) (sym (eqb-true y z e)) k.1))
      go false e l later = let r = later l in ((z ∷ r.0.0, (k.0, r.0.1)), r.1)

  -- a closed walk goes through each of its numbers
  pub turned : (walk : List ℕ) (y : ℕ) → ClosedWalk R walk → has y walk ≡ true → (more : List ℕ) × ClosedWalk R (y ∷ more)
  turned [] y c h = absurd c
  turned (x ∷ xs) y c h = go (nat_eq y x) refl h
    where
      go : (b : Bool) → nat_eq y x ≡ b → (b || has y xs) ≡ true → (more : List ℕ) × ClosedWalk R (y ∷ more)
      go true e l = (xs, subst (λ v. Walks R v xs v) (sym (eqb-true y x e)) c)
      go false e l = let s = walks_split xs x y x l c in (s.1.0 ++ x ∷ s.0.0, walks_join s.1.0 s.0.0 y x y s.1.1 s.0.1)
