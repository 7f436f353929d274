-- Lists in which no name stands twice.
use Rattle.std.proofs.Common.{◌≡◌, ℕ, zero, suc, ◌+◌, ◌<◌, ◌≤◌, Bool, true, false, ◌||◌, cond, List, [], ◌∷◌, ◌++◌, length, get_or, Option, None, Some, refl, sym, ap, ◌∙◌, subst, arith}
use Rattle.std.specs.Prelude.{if◌then◌else◌}
use Rattle.std.specs.List.{count_by}
use Rattle.std.specs.Str.{bytes_eq}
use Rattle.std.specs.Option.{option_or}
use Rattle.std.proofs.lemmas.List.Folds.{list_any-append, list_any_at}
use Rattle.std.proofs.lemmas.List.Sums.{sum_by-cons}
use Rattle.std.proofs.lemmas.Slice.Eq.{bytes_eq-Decides}
use Rattle.lt_base.specs.Checked.{NamesDiffer}
use Rattle.lt_resolve.specs.Names.{Name, among, if_missing, if_among, repeated_name, first_some}

pub same_name : (x y : Name) → bytes_eq x y ≡ true → x ≡ y
same_name x y = (bytes_eq-Decides x y).0

pub eq_self : (x : Name) → bytes_eq x x ≡ true
eq_self x = (bytes_eq-Decides x x).1 refl

or_left : (a b : Bool) → a ≡ true → (a || b) ≡ true
or_left a b h = ap (λ c. c || b) h

or_right : (a b : Bool) → b ≡ true → (a || b) ≡ true
or_right true b h = refl
or_right false b h = h

pub among_append : (xs ys : List Name) (x : Name) → among (xs ++ ys) x ≡ (among xs x || among ys x)
among_append xs ys x = list_any-append (bytes_eq x) xs ys

-- no repeat at the head
head_fresh : (before : List Name) (x : Name) (xs : List Name) → repeated_name before (x ∷ xs) ≡ None → (among before x ≡ false) × (repeated_name (before ++ x ∷ []) xs ≡ None)
head_fresh before x xs h = go (among before x) refl h
  where
    go : (b : Bool) → among before x ≡ b → (if b then Some x else repeated_name (before ++ x ∷ []) xs) ≡ None → (among before x ≡ false) × (repeated_name (before ++ x ∷ []) xs ≡ None)
    go true e k = absurd (cc)
    go false e k = (e, k)

-- none of the names is one of those before
fresh : (xs before : List Name) → repeated_name before xs ≡ None → (j : ℕ) → j < length xs → (y : Name) → among before y ≡ true → y ≡ get_or xs j [] → ⊥
fresh [] before h j l y a e = absurd (omega arith)
fresh (x ∷ xs) before h zero l y a e = let f = (head_fresh before x xs h).0 in let g : among before x ≡ true = subst (λ z. among before z ≡ true) e a in absurd (cc)
fresh (x ∷ xs) before h (suc j) l y a e = fresh xs (before ++ x ∷ []) (head_fresh before x xs h).1 j (omega arith) y (among_append before (x ∷ []) y ∙ or_left (among before y) (among (x ∷ []) y) a) e

last_among : (before : List Name) (x : Name) → among (before ++ x ∷ []) x ≡ true
last_among before x = among_append before (x ∷ []) x ∙ or_right (among before x) (among (x ∷ []) x) (ap (λ b. b || false) (eq_self x))

differ_from : (xs before : List Name) → repeated_name before xs ≡ None → (i j : ℕ) → i < length xs → j < length xs → get_or xs i [] ≡ get_or xs j [] → i ≡ j
differ_from [] before h i j l m e = absurd (omega arith)
differ_from (x ∷ xs) before h zero zero l m e = refl
differ_from (x ∷ xs) before h zero (suc j) l m e = absurd (fresh xs (before ++ x ∷ []) (head_fresh before x xs h).1 j (omega arith) x (last_among before x) e)
differ_from (x ∷ xs) before h (suc i) zero l m e = absurd (fresh xs (before ++ x ∷ []) (head_fresh before x xs h).1 i (omega arith) x (last_among before x) (sym e))
differ_from (x ∷ xs) before h (suc i) (suc j) l m e = ap suc (differ_from xs (before ++ x ∷ []) (head_fresh before x xs h).1 i j (omega arith) (omega arith) e)

pub differ : (xs : List Name) → repeated_name [] xs ≡ None → NamesDiffer xs
differ xs h = differ_from xs [] h

-- ---- counts

abbrev pub times : Name → List Name → ℕ
times v xs = count_by (bytes_eq v) xs

times_cons : (v x : Name) (xs : List Name) → times v (x ∷ xs) ≡ cond (bytes_eq v x) 1 0 + times v xs
times_cons v x xs = sym (sym (sum_by-cons (λ y. cond (bytes_eq v y) 1 0) x xs))

pub not_among_none : (v : Name) (xs : List Name) → among xs v ≡ false → times v xs ≡ 0
not_among_none v [] h = refl
not_among_none v (x ∷ xs) h = times_cons v x xs ∙ go (not_among_none v xs) (bytes_eq v x) refl h
  where
    go : (among xs v ≡ false → times v xs ≡ 0) → (b : Bool) → bytes_eq v x ≡ b → (b || among xs v) ≡ false → cond b 1 0 + times v xs ≡ 0
    go ih true e k = absurd (cc)
    go ih false e k = omega (arith, ih k)

pub among_some : (v : Name) (xs : List Name) → among xs v ≡ true → 1 ≤ times v xs
among_some v [] h = absurd (cc)
among_some v (x ∷ xs) h = subst (λ n. 1 ≤ n) (sym (times_cons v x xs)) (go (among_some v xs) (bytes_eq v x) h)
  where
    go : (among xs v ≡ true → 1 ≤ times v xs) → (b : Bool) → (b || among xs v) ≡ true → 1 ≤ cond b 1 0 + times v xs
    go ih true k = omega arith
    go ih false k = omega (arith, ih k)

at_most_once : (xs before : List Name) → repeated_name before xs ≡ None → (v : Name) → times v xs + cond (among before v) 1 0 ≤ 1
at_most_once [] before h v = go (among before v)
  where
    go : (b : Bool) → 0 + cond b 1 0 ≤ 1
    go true = omega arith
    go false = omega arith
at_most_once (x ∷ xs) before h v =
    let f = head_fresh before x xs h in
    let ih : times v xs + cond (among before v || (bytes_eq v x || false)) 1 0 ≤ 1 = subst (λ b. times v xs + cond b 1 0 ≤ 1) (among_append before (x ∷ []) v) (at_most_once xs (before ++ x ∷ []) f.1 v) in
    subst (λ n. n + cond (among before v) 1 0 ≤ 1) (sym (times_cons v x xs)) (go (bytes_eq v x) refl (among before v) refl f.0 ih)
  where
    go : (b : Bool) → bytes_eq v x ≡ b → (a : Bool) → among before v ≡ a → among before x ≡ false → times v xs + cond (a || (b || false)) 1 0 ≤ 1 → cond b 1 0 + times v xs + cond a 1 0 ≤ 1
    go true e true d f k = let g : among before x ≡ true = subst (λ z. among before z ≡ true) (same_name v x e) d in absurd (cc)
    go true e false d f k = omega (arith, k)
    go false e true d f k = omega (arith, k)
    go false e false d f k = omega (arith, k)

pub once : (v : Name) (xs : List Name) → repeated_name [] xs ≡ None → times v xs ≤ 1
once v xs h = let k = at_most_once xs [] h v in omega (arith, k)

-- ---- what is found nowhere

or_none_left : {B : Type 0} (o p : Option B) → option_or o p ≡ None → o ≡ None
or_none_left None p h = refl
or_none_left (Some x) p h = absurd (cc)

or_none_right : {B : Type 0} (o p : Option B) → option_or o p ≡ None → p ≡ None
or_none_right None p h = h
or_none_right (Some x) p h = absurd (cc)

pub none_left : {B : Type 0} (o p : Option B) → option_or o p ≡ None → o ≡ None
none_left = or_none_left

pub none_right : {B : Type 0} (o p : Option B) → option_or o p ≡ None → p ≡ None
none_right = or_none_right

-- none of the names is missing
pub none_missing : (names xs : List Name) → first_some (if_missing names) xs ≡ None → (v : Name) → among xs v ≡ true → among names v ≡ true
none_missing names [] h v a = absurd (cc)
none_missing names (x ∷ xs) h v a = go (none_missing names xs (or_none_right (if_missing names x) (first_some (if_missing names) xs) h) v) (bytes_eq v x) refl (among names x) refl (or_none_left (if_missing names x) (first_some (if_missing names) xs) h) a
  where
    go : (among xs v ≡ true → among names v ≡ true) → (b : Bool) → bytes_eq v x ≡ b → (d : Bool) → among names x ≡ d → (if d then None else Some x) ≡ None → (b || among xs v) ≡ true → among names v ≡ true
    go ih true e true m k a = subst (λ z. among names z ≡ true) (sym (same_name v x e)) m
    go ih true e false m k a = absurd (cc)
    go ih false e d m k a = ih a

-- none of the names is one of those
pub none_among : (names xs : List Name) → first_some (if_among names) xs ≡ None → (v : Name) → among names v ≡ true → among xs v ≡ false
none_among names [] h v a = refl
none_among names (x ∷ xs) h v a = go (none_among names xs (or_none_right (if_among names x) (first_some (if_among names) xs) h) v a) (bytes_eq v x) refl (among names x) refl (or_none_left (if_among names x) (first_some (if_among names) xs) h)
  where
    go : among xs v ≡ false → (b : Bool) → bytes_eq v x ≡ b → (d : Bool) → among names x ≡ d → (if d then Some x else None) ≡ None → (b || among xs v) ≡ false
    go ih true e true m k = absurd (cc)
    go ih true e false m k = let g : among names x ≡ true = subst (λ z. among names z ≡ true) (same_name v x e) a in absurd (cc)
    go ih false e d m k = ih

-- the name at a place is one of the names
pub at_among : (xs : List Name) (i : ℕ) → i < length xs → among xs (get_or xs i []) ≡ true
at_among xs i l = list_any_at (bytes_eq (get_or xs i [])) xs i [] l (eq_self (get_or xs i []))
