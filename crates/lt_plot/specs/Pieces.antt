-- Pieces of text, one for each number.
use Rattle.std.specs.Prelude.{ℕ, zero, suc, ◌+◌, List, [], ◌++◌}

-- the pieces of so many numbers from one on, in order
abbrev pub pieces_from : (piece : ℕ → List ℕ) → (first count : ℕ) → List ℕ
pieces_from piece first zero = []
pieces_from piece first (suc n) = pieces_from piece first n ++ piece (first + n)
