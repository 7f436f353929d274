-- The variables of `main` as they are judged.
use Rattle.std.proofs.Common.{◌≡◌, ℕ, zero, suc, ◌+◌, ◌<◌, ◌≤◌, Bool, true, false, List, [], ◌∷◌, ◌++◌, length, take, get_or, add-one, Option, Some, None, refl, sym, ap, ◌∙◌, subst, arith, All, eqb-true, ⊎_elim}
use Rattle.std.specs.Prelude.{nat_eq, if◌then◌else◌, slice_get}
use Rattle.std.proofs.lemmas.List.Elements.{All-nil, All-cons, All-append, All-head, All-tail}
use Rattle.std.proofs.lemmas.List.{append_assoc, append-nil, take_more}
use Rattle.std.proofs.lemmas.Bool.{cases_eq}
use Rattle.std.proofs.lemmas.Bool.Decides.{nat_tests}
use Rattle.lt_base.specs.Expression.{Expression}
use Rattle.lt_base.specs.Meaning.{right_of}
use Rattle.lt_base.specs.Program.{GoodFunction}
use Rattle.lt_base.proofs.Lookups.{is_input, same_self}
use Rattle.lt_norm.specs.Flat.{Originated}
use Rattle.lt_place_reads.specs.Origins.{IsMain, variable_count}
use Rattle.lt_place.specs.Faults.{main_lefts, main_below, judged_variables}

other : (a b : ℕ) → (a ≡ b → ⊥) → nat_eq a b ≡ false
other a b h = grind (arith, nat_tests)

-- a number stands in a list
abbrev pub StandsIn : List ℕ → ℕ → Type 0
StandsIn xs x = (i : ℕ) × (slice_get xs i ≡ Some x)

stands_front : (xs ys : List ℕ) (x : ℕ) → StandsIn xs x → StandsIn (xs ++ ys) x
stands_front [] ys x s = absurd (cc)
stands_front (y ∷ xs) ys x (zero, h) = (zero, h)
stands_front (y ∷ xs) ys x (suc i, h) = let r = stands_front xs ys x (i, h) in (suc r.0, r.1)

stands_back : (xs ys : List ℕ) (x : ℕ) → StandsIn ys x → StandsIn (xs ++ ys) x
stands_back [] ys x s = s
stands_back (y ∷ xs) ys x s = let r = stands_back xs ys x s in (suc r.0, r.1)

stands_later : (y : ℕ) (xs : List ℕ) (x : ℕ) → StandsIn xs x → StandsIn (y ∷ xs) x
stands_later y xs x s = (suc s.0, s.1)

in_lefts : (origin : List ℕ) (qs : List (ℕ × Expression)) (x : ℕ) (e : Expression) → get_or origin x 0 ≡ x → right_of qs x ≡ Some e → StandsIn (main_lefts origin qs) x
in_lefts origin [] x e o h = absurd (cc)
in_lefts origin ((y, a) ∷ qs) x e o h =
    let rest = main_lefts origin qs in
    let go : (t : Bool) → nat_eq x y ≡ t → (if t then Some a else right_of qs x) ≡ Some e → StandsIn (if nat_eq (get_or origin y 0) y then y ∷ rest else rest) x =
    elim [
      | true ↦ λ s k.
          let same : x ≡ y = eqb-true x y s in
          let own : nat_eq (get_or origin y 0) y ≡ true = subst (λ z. nat_eq (get_or origin z 0) z ≡ true) same (ap (λ z. nat_eq z x) o ∙ same_self x) in
          subst (λ b. StandsIn (if b then y ∷ rest else rest) x) (sym own) (zero, ap Some (sym same))
      | false ↦ λ s k. later y (in_lefts origin qs x e o k) (nat_eq (get_or origin y 0) y)
    ] in
    go (nat_eq x y) refl h
  where
    later : (y : ℕ) → StandsIn (main_lefts origin qs) x → (b : Bool) → StandsIn (if b then y ∷ main_lefts origin qs else main_lefts origin qs) x
    later y s true = stands_later y (main_lefts origin qs) x s
    later y s false = s

in_below : (origin : List ℕ) (n x : ℕ) → get_or origin x 0 ≡ x → x < n → StandsIn (main_below origin n) x
in_below origin zero x o l = absurd (omega arith)
in_below origin (suc n) x o l =
    let last : List ℕ = if nat_eq (get_or origin n 0) n then n ∷ [] else [] in
    ⊎_elim
    (λ (s : x ≡ n).
    let t : nat_eq (get_or origin n 0) n ≡ true = subst (λ z. nat_eq (get_or origin z 0) z ≡ true) s (ap (λ z. nat_eq z x) o ∙ same_self x) in
    stands_back (main_below origin n) last x (subst (λ b. StandsIn (if b then n ∷ [] else []) x) (sym t) (zero, ap Some (sym s))))
    (λ (s : x ≡ n → ⊥). stands_front (main_below origin n) last x (in_below origin n x o (below s)))
    (cases_eq x n)
  where
    below : (x ≡ n → ⊥) → x < n
    below s = grind arith

-- every variable of `main` is judged
pub is_judged : (f : Originated) → GoodFunction f.func → (x : ℕ) → IsMain f x → StandsIn (judged_variables f) x
is_judged f good x m =
    let go : (o : Option Expression) → right_of f.func.eqs x ≡ o → StandsIn (judged_variables f) x =
    elim [
      | None ↦ λ h. stands_back (main_lefts f.origin f.func.eqs) (main_below f.origin f.func.n_in) x (in_below f.origin f.func.n_in x m.own (is_input f.func good x m.declared h))
      | Some e ↦ λ h. stands_front (main_lefts f.origin f.func.eqs) (main_below f.origin f.func.n_in) x (in_lefts f.origin f.func.eqs x e m.own h)
    ] in
    go (right_of f.func.eqs x) refl

-- ---- they are variables

lefts_inside : (n : ℕ) (origin : List ℕ) (qs : List (ℕ × Expression)) → All (λ q. q.0 < n) qs → All (λ x. x < n) (main_lefts origin qs)
lefts_inside n origin [] a = All-nil (λ x. x < n)
lefts_inside n origin (q ∷ qs) a = by (nat_eq (get_or origin q.0 0) q.0) (lefts_inside n origin qs (All-tail (λ (q : ℕ × Expression). q.0 < n) q qs a))
  where
    by : (b : Bool) → All (λ x. x < n) (main_lefts origin qs) → All (λ x. x < n) (if b then q.0 ∷ main_lefts origin qs else main_lefts origin qs)
    by true r = All-cons (λ x. x < n) q.0 (main_lefts origin qs) (All-head (λ (q : ℕ × Expression). q.0 < n) q qs a) r
    by false r = r

below_inside : (n : ℕ) (origin : List ℕ) (k : ℕ) → k ≤ n → All (λ x. x < n) (main_below origin k)
below_inside n origin zero l = All-nil (λ x. x < n)
below_inside n origin (suc k) l = All-append (λ x. x < n) (main_below origin k) _ (below_inside n origin k (omega arith)) (by (nat_eq (get_or origin k 0) k))
  where
    by : (b : Bool) → All (λ x. x < n) (if b then k ∷ [] else [])
    by true = All-cons (λ x. x < n) k [] (omega arith) (All-nil (λ x. x < n))
    by false = All-nil (λ x. x < n)

pub judged_inside : (f : Originated) → GoodFunction f.func → All (λ q. q.0 < variable_count f) f.func.eqs → All (λ x. x < variable_count f) (judged_variables f)
judged_inside f good a =
    All-append (λ x. x < variable_count f) (main_lefts f.origin f.func.eqs) (main_below f.origin f.func.n_in) (lefts_inside (variable_count f) f.origin f.func.eqs a) (below_inside (variable_count f) f.origin f.func.n_in good.inputs)

-- ---- one more

lefts_more : (origin : List ℕ) (qs : List (ℕ × Expression)) (q : ℕ × Expression) → main_lefts origin (qs ++ q ∷ []) ≡ main_lefts origin qs ++ main_lefts origin (q ∷ [])
lefts_more origin [] q = refl
lefts_more origin (p ∷ qs) q = by (nat_eq (get_or origin p.0 0) p.0) (lefts_more origin qs q)
  where
    by : (b : Bool) → main_lefts origin (qs ++ q ∷ []) ≡ main_lefts origin qs ++ main_lefts origin (q ∷ []) → (if b then p.0 ∷ main_lefts origin (qs ++ q ∷ []) else main_lefts origin (qs ++ q ∷ [])) ≡ (if b then p.0 ∷ main_lefts origin qs else main_lefts origin qs) ++ main_lefts origin (q ∷ [])
    by true h = ap (λ l. p.0 ∷ l) h
    by false h = h

module _ (origin : List ℕ) (qs : List (ℕ × Expression)) (i : ℕ) (q : ℕ × Expression) (l : i < length qs) (read : q ≡ get_or qs i q) (left : ℕ) (e : left ≡ q.0) (start order : List ℕ) (so_far : order ≡ start ++ main_lefts origin (take i qs)) where
  step : main_lefts origin (take (i + 1) qs) ≡ main_lefts origin (take i qs) ++ (if nat_eq (get_or origin left 0) left then left ∷ [] else [])
  step =
      ap (main_lefts origin) (take_more qs i q l)
      ∙ lefts_more origin (take i qs) (get_or qs i q)
      ∙ ap (λ (z : ℕ × Expression). main_lefts origin (take i qs) ++ main_lefts origin (z ∷ [])) (sym read)
      ∙ ap (λ z. main_lefts origin (take i qs) ++ (if nat_eq (get_or origin z 0) z then z ∷ [] else [])) (sym e)

  pub left_pushed : get_or origin left 0 ≡ left → (new : List ℕ) → new ≡ order ++ left ∷ [] → new ≡ start ++ main_lefts origin (take (i + 1) qs)
  left_pushed o new n =
      let t : nat_eq (get_or origin left 0) left ≡ true = ap (λ z. nat_eq z left) o ∙ same_self left in
      n ∙ ap (λ z. z ++ left ∷ []) so_far ∙ append_assoc start (main_lefts origin (take i qs)) (left ∷ [])
      ∙ ap (λ z. start ++ z) (sym (step ∙ ap (λ b. main_lefts origin (take i qs) ++ (if b then left ∷ [] else [])) t))

  pub left_passed : (get_or origin left 0 ≡ left → ⊥) → (new : List ℕ) → new ≡ order → new ≡ start ++ main_lefts origin (take (i + 1) qs)
  left_passed o new n =
      n ∙ so_far ∙ ap (λ z. start ++ z) (sym (step ∙ ap (λ b. main_lefts origin (take i qs) ++ (if b then left ∷ [] else [])) (other (get_or origin left 0) left o) ∙ append-nil (main_lefts origin (take i qs))))

module _ (origin : List ℕ) (x : ℕ) (start order : List ℕ) (so_far : order ≡ start ++ main_below origin x) where
  next : main_below origin (x + 1) ≡ main_below origin x ++ (if nat_eq (get_or origin x 0) x then x ∷ [] else [])
  next = ap (main_below origin) (add-one x)

  pub below_pushed : get_or origin x 0 ≡ x → (new : List ℕ) → new ≡ order ++ x ∷ [] → new ≡ start ++ main_below origin (x + 1)
  below_pushed o new n =
      let t : nat_eq (get_or origin x 0) x ≡ true = ap (λ z. nat_eq z x) o ∙ same_self x in
      n ∙ ap (λ z. z ++ x ∷ []) so_far ∙ append_assoc start (main_below origin x) (x ∷ [])
      ∙ ap (λ z. start ++ z) (sym (next ∙ ap (λ b. main_below origin x ++ (if b then x ∷ [] else [])) t))

  pub below_passed : (get_or origin x 0 ≡ x → ⊥) → (new : List ℕ) → new ≡ order → new ≡ start ++ main_below origin (x + 1)
  below_passed o new n =
      n ∙ so_far ∙ ap (λ z. start ++ z) (sym (next ∙ ap (λ b. main_below origin x ++ (if b then x ∷ [] else [])) (other (get_or origin x 0) x o) ∙ append-nil (main_below origin x)))

-- ---- the list that was made

pub var_inside : (f : Originated) → GoodFunction f.func → All (λ q. q.0 < variable_count f) f.func.eqs → (order : List ℕ) → order ≡ judged_variables f → (i : ℕ) → i < length order → get_or order i 0 < variable_count f
var_inside f good a order e i l =
    let k : i < length (judged_variables f) = let z = ap length e in omega (arith, z, l) in
    subst (λ (xs : List ℕ). get_or xs i 0 < variable_count f) (sym e) (judged_inside f good a i 0 k)

pub var_at : (order : List ℕ) (i : ℕ) → i < length order → slice_get order i ≡ Some (get_or order i 0)
var_at [] i l = absurd (omega arith)
var_at (x ∷ order) zero l = refl
var_at (x ∷ order) (suc i) l = var_at order i (omega arith)

pub at_inside : (order : List ℕ) (i m : ℕ) → slice_get order i ≡ Some m → (i < length order) × (get_or order i 0 ≡ m)
at_inside [] i m h = absurd (cc)
at_inside (x ∷ order) zero m h = (omega arith, cc)
at_inside (x ∷ order) (suc i) m h = let r = at_inside order i m h in (let l = r.0 in omega (arith, l), r.1)
