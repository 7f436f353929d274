-- What both sinks took, each where it tells what it took.
use Rattle.std.specs.Prelude.{◌≡◌, ℕ, IsTrue, List, [], ◌∷◌, ◌++◌}
use Rattle.lt_cli.specs.Objects.{Objects}

-- `out` took nothing, and `err` a line
pub record TookLine (line : List ℕ) (old new : Objects) : Type 0 where
  pub out : IsTrue old.out.told → new.out.taken ≡ old.out.taken
  pub err : IsTrue old.err.told → new.err.taken ≡ old.err.taken ++ (line ++ 10 ∷ [])

-- `out` took a text, and `err` nothing
pub record TookText (text : List ℕ) (old new : Objects) : Type 0 where
  pub out : IsTrue old.out.told → new.out.taken ≡ old.out.taken ++ text
  pub err : IsTrue old.err.told → new.err.taken ≡ old.err.taken
