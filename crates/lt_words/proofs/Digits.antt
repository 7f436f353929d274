-- The number of a text is within its bound.
use Rattle.std.proofs.Common.{ℕ, ◌≤◌, List, [], ◌∷◌, if◌then◌else◌, arith}
use Rattle.std.specs.Prelude.{◌==◌}
use Rattle.lt_base.specs.Digits.{number_of}
use Rattle.lt_base.proofs.Digits.{up_to-bounded}
use Rattle.lt_words.specs.Numbers.{number_text}

pub number_text-bounded : (most : ℕ) (text : List ℕ) → number_text most text ≤ most
number_text-bounded most [] = omega arith
number_text-bounded most (c ∷ cs) = up_to-bounded most (number_of (if c == 43 then cs else c ∷ cs))
