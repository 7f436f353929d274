-- Places in lists of numbers.
use Rattle.std.proofs.Common.{◌≡◌, ℕ, ◌<◌, Bool, true, false, List, length, get_or, Option, Some, None, Ok, Err, cond, refl, sym, ap, ◌∙◌, subst, arith}
use Rattle.std.specs.Prelude.{position, nat_lt}
use Rattle.std.specs.List.{position_or_len}
use Rattle.std.proofs.lemmas.Bool.{lt-ltb}
use Rattle.std.proofs.lemmas.List.Sums.{position_or_len_is}
use Rattle.std.proofs.lemmas.List.Quantifiers.{position-Some}
use Rattle.lt_base.specs.declared.value.Ty.{Ty}
use Rattle.lt_base.specs.declared.value.Ty.TheVariants as ty
use Rattle.lt_base.specs.Program.{Function}
use Rattle.lt_past.specs.Naming.{of_clock, of_type, of_place, is_called, output_of}
use Rattle.std.proofs.Common.{[], ◌∷◌, zero, suc, reverse}
use Rattle.std.proofs.lemmas.List.{length-reverse}
use Rattle.lt_past.specs.declared.fault.ObserverKind.TheVariants.{NotBase}

module _ (p : ℕ → Bool) (xs : List ℕ) where
  -- the first place that passes
  pub found_at : (i : ℕ) → i < length xs → ((k : ℕ) → k < i → p (get_or xs k 0) ≡ false) → p (get_or xs i 0) ≡ true → Some i ≡ position p xs
  found_at i h before passes =
      let e : position_or_len p xs ≡ i = position_or_len_is p xs i 0 (omega arith) before (λ l. passes) in
      sym (ap (λ n. cond (nat_lt n (length xs)) (Some n) None) e ∙ ap (λ b. cond b (Some i) None) (lt-ltb i (length xs) h))

  -- none passes
  pub not_found : ((k : ℕ) → k < length xs → p (get_or xs k 0) ≡ false) → None ≡ position p xs
  not_found before =
      let n = length xs in
      let e : position_or_len p xs ≡ n = position_or_len_is p xs n 0 (omega arith) before (λ l. absurd (omega (arith, l))) in
      let no : nat_lt n n ≡ false = grind arith in
      sym (ap (λ m. cond (nat_lt m n) (Some m) None) e ∙ ap (λ b. cond b (Some n) None) no)

-- an output's place is below their number
pub output_low : (main : Function) (x : List ℕ) (place : ℕ) → output_of main x ≡ Ok place → place < length main.outs
output_low main x place is = by (position (is_called main x) main.outs) refl is
  where
    clock_ok : (q : ℕ) (clock : List (ℕ × Bool)) → of_clock q clock ≡ Ok place → q ≡ place
    clock_ok q [] e = cc
    clock_ok q (s ∷ clock) e = cc

    type_ok : (q : ℕ) (t : Ty) (clock : List (ℕ × Bool)) → of_type q t clock ≡ Ok place → q ≡ place
    type_ok q ty.Int clock e = cc
    type_ok q ty.Bool clock e = clock_ok q clock e

    by : (o : Option ℕ) → position (is_called main x) main.outs ≡ o → of_place main o ≡ Ok place → place < length main.outs
    by None e h = cc
    by (Some q) e h = subst (λ m. m < length main.outs) (type_ok q _ _ h) (position-Some (is_called main x) main.outs q 0 e).0

-- an element by another default
pub get_or_of : {A : Type 0} (xs : List A) (i : ℕ) (x d : A) → i < length xs → x ≡ get_or xs i x → get_or xs i d ≡ x
get_or_of [] i x d h e = absurd (omega (arith, h))
get_or_of (y ∷ ys) zero x d h e = sym e
get_or_of (y ∷ ys) (suc i) x d h e = get_or_of ys i x d (omega (arith, h)) e

-- a clock with steps is not the base clock
pub not_base : (place : ℕ) (steps clock : List (ℕ × Bool)) → reverse steps ≡ clock → (steps ≡ [] → ⊥) → Err NotBase ≡ of_clock place clock
not_base place steps [] e h = absurd (h (none steps (ap length e)))
  where
    none : (xs : List (ℕ × Bool)) → length (reverse xs) ≡ 0 → xs ≡ []
    none [] l = refl
    none (x ∷ xs) l = let k = length-reverse (x ∷ xs) in absurd (omega (arith, l, k))
not_base place steps (s ∷ clock) e h = refl
