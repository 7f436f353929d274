-- Names of files.
use Rattle.std.specs.Prelude.{ℕ, ◌==◌, List, [], ◌∷◌, ◌++◌, fold, if◌then◌else◌}

-- the name of a file without the folders before it: what stands behind the last slash
abbrev pub base_name : (path : List ℕ) → List ℕ
base_name path = fold (λ name letter. if letter == 47 then [] else name ++ letter ∷ []) [] path
