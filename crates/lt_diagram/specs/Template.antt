-- Pieces of a picture's text.
use Rattle.std.specs.Prelude.{ℕ, ◌++◌, List, [], ◌∷◌, Bool, if◌then◌else◌}

-- the texts of items, one after another, where an item's text may depend on those behind it
unfoldable pub each_text : {A : Type 0} → (A → List A → List ℕ) → List A → List ℕ
each_text f [] = []
each_text f (x ∷ xs) = f x xs ++ each_text f xs

-- a text where it is wanted
abbrev pub piece_if : Bool → List ℕ → List ℕ
piece_if b t = if b then t else []
