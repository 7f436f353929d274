-- A search that passes one element.
use Rattle.std.proofs.Common.{◌≡◌, ℕ, ◌+◌, ◌<◌, ◌||◌, Bool, false, if◌then◌else◌, List, ◌∷◌, length, drop, get_or, Some, sym, ap, ◌∙◌, drop-cons, add-one}
use Rattle.std.specs.Prelude.{find}
use Rattle.std.specs.List.{list_any}

pub find-skip : {A : Type 0} (p : A → Bool) (xs : List A) (i : ℕ) (d : A) → i < length xs → p (get_or xs i d) ≡ false → find p (drop i xs) ≡ find p (drop (i + 1) xs)
find-skip p xs i d h miss =
    ap (find p) (drop-cons xs i d h ∙ ap (λ k. get_or xs i d ∷ drop k xs) (sym (add-one i)))
    ∙ ap (λ b. if b then Some (get_or xs i d) else find p (drop (i + 1) xs)) miss

pub any-skip : {A : Type 0} (p : A → Bool) (xs : List A) (i : ℕ) (d : A) → i < length xs → p (get_or xs i d) ≡ false → list_any p (drop i xs) ≡ list_any p (drop (i + 1) xs)
any-skip p xs i d h miss =
    ap (list_any p) (drop-cons xs i d h ∙ ap (λ k. get_or xs i d ∷ drop k xs) (sym (add-one i)))
    ∙ ap (λ b. b || list_any p (drop (i + 1) xs)) miss
