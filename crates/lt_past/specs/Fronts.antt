-- What the answer of the scanner stands for.
use Rattle.std.specs.Prelude.{ℕ, ◌≤◌, List, drop, take}
use Rattle.lt_past.specs.declared.tokens.Front as code
use Rattle.lt_past.specs.declared.tokens.Front.TheVariants as variants
use Rattle.lt_past.specs.Tokens.{name, sign, ObserverFront, Over, Begins, BadByte}

-- a token with the number of its bytes, as the token with the bytes behind it
abbrev pub observer_front_of : code.Front → List ℕ → ObserverFront
observer_front_of variants.Over bytes = Over
observer_front_of (variants.Name n) bytes = Begins (name (take n bytes)) (drop n bytes)
observer_front_of (variants.Other s n) bytes = Begins (sign s) (drop n bytes)
observer_front_of variants.BadByte bytes = BadByte

-- a token has bytes, and no more than there are
abbrev pub ObserverFrontIsWithin : code.Front → ℕ → Type 0
ObserverFrontIsWithin (variants.Name n) len = (1 ≤ n) × (n ≤ len)
ObserverFrontIsWithin (variants.Other s n) len = (1 ≤ n) × (n ≤ len)
ObserverFrontIsWithin _ len = Unit {0}
