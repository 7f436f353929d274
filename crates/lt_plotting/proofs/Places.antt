-- Lists of what stands at places, and the rows of a plot.
use Rattle.std.proofs.Common.{◌≡◌, ◌∙◌, ◌+◌, ◌<◌, ◌≤◌, ℕ, zero, suc, true, false, [], ◌∷◌, ◌++◌, map, length, get_or, Some, refl, sym, ap, arith, length-append, ltb-true, ltb-false}
use Rattle.std.specs.Prelude.{nat_lt, slice_get}
use Rattle.std.proofs.lemmas.List.{map-append, length-map, get_or-map}
use Rattle.std.proofs.lemmas.Option.{slice_get_within, get_or_from_slice_get}
use Rattle.std.proofs.Math.ListN.{get_or-append}
use Rattle.std.proofs.Math.Seq.{get_or-append_seam}
use Rattle.lt_past.specs.Naming.{numbers_below}

-- one more
pub places_more : {T : Type 0} (f : ℕ → T) (n : ℕ) → map f (numbers_below (n + 1)) ≡ map f (numbers_below n) ++ f n ∷ []
places_more f n =
    let next : n + 1 ≡ suc n = omega arith in
    ap (λ m. map f (numbers_below m)) next ∙ map-append f (numbers_below n) (n ∷ [])

numbers_length : (n : ℕ) → length (numbers_below n) ≡ n
numbers_length zero = refl
numbers_length (suc n) =
    let l = length-append (numbers_below n) (n ∷ []) in
    let h = numbers_length n in
    omega (arith, l, h)

numbers_at : (n y : ℕ) → y < n → get_or (numbers_below n) y 0 ≡ y
numbers_at zero y low = absurd (omega (arith, low))
numbers_at (suc n) y low =
    elim (nat_lt y n) as (λ b. nat_lt y n ≡ b → get_or (numbers_below n ++ n ∷ []) y 0 ≡ y) [
      | true ↦ λ is.
          let before : y < n = ltb-true y n is in
          get_or-append (numbers_below n) (n ∷ []) 0 y (omega (arith, before, numbers_length n)) ∙ numbers_at n y before
      | false ↦ λ is.
          let past : n ≤ y = ltb-false y n is in
          let same : y ≡ n = omega (arith, low, past) in
          let last : y ≡ length (numbers_below n) = same ∙ sym (numbers_length n) in
          ap (λ m. get_or (numbers_below n ++ n ∷ []) m 0) last ∙ get_or-append_seam (numbers_below n) n [] 0 ∙ sym same
    ] refl

-- what stands at a place is what was put there
pub placed_at : {T : Type 0} (f : ℕ → T) (n y : ℕ) (x : T) → slice_get (map f (numbers_below n)) y ≡ Some x → (y < n) × (x ≡ f y)
placed_at f n y x is =
    let within : y < length (map f (numbers_below n)) = slice_get_within (map f (numbers_below n)) y x is in
    let number : length (map f (numbers_below n)) ≡ n = length-map (numbers_below n) f ∙ numbers_length n in
    let low : y < n = omega (arith, within, number) in
    let inside : y < length (numbers_below n) = omega (arith, low, numbers_length n) in
    (low, sym (get_or_from_slice_get (map f (numbers_below n)) y x x is) ∙ get_or-map f (numbers_below n) y 0 x inside ∙ ap f (numbers_at n y low))
