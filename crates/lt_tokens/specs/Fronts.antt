-- What the lexer's answer stands for.
use Rattle.std.specs.Prelude.{ℕ, ◌≤◌, List, drop, ⊤}
use Rattle.lt_tokens.specs.declared.front.Front as code
use Rattle.lt_tokens.specs.declared.front.Front.TheVariants as variants
use Rattle.lt_tokens.specs.declared.token.Token.{Token}
use Rattle.lt_tokens.specs.declared.token.Token.TheVariants as token
use Rattle.lt_tokens.specs.Text.{Front, Over, Begins, BadByte, BadNumber, greatest_number}

-- a token with the number of its bytes, as the token with the bytes behind it
abbrev pub front_of : code.Front → List ℕ → Front
front_of variants.Over bytes = Over
front_of (variants.Begins t n) bytes = Begins t (drop n bytes)
front_of variants.BadByte bytes = BadByte
front_of variants.BadNumber bytes = BadNumber

-- a token's number is one of the language
abbrev pub IsSmall : Token → Type 0
IsSmall (token.Number n) = n ≤ greatest_number
IsSmall _ = ⊤

-- a token has bytes, and no more than there are, and a number is one of the language
abbrev pub IsWithin : code.Front → ℕ → Type 0
IsWithin (variants.Begins t n) len = (1 ≤ n) × (n ≤ len) × IsSmall t
IsWithin _ len = ⊤
