-- The words that a seed gives, in the order of drawing.
use Rattle.std.specs.Prelude.{ℕ, zero, suc, ◌+◌, ◌-◌, ◌%◌}
use Rattle.std.specs.Int.{w64, from_le_bytes, to_le_bytes}
use Rattle.rand_core.specs.Stream.{Stream, next_u64}
use Rattle.rand_core.specs.Steps.{stream_of}
use Rattle.rand_xoshiro.specs.SplitMix64.{splitmix_steps}

-- all that SplitMix64 gives, made from the eight bytes of the seed, the lowest first
abbrev pub generator : (seed : ℕ) → Stream
generator seed = stream_of splitmix_steps (from_le_bytes w64 (to_le_bytes w64 seed))

-- what is left of it after so many words
unfoldable pub left_after : (seed : ℕ) → (drawn : ℕ) → Stream
left_after seed zero = generator seed
left_after seed (suc drawn) = (next_u64 (left_after seed drawn)).1

-- the word of this number, counted from 1 in the order of drawing
unfoldable pub drawn_word : (seed : ℕ) → (number : ℕ) → ℕ
drawn_word seed number = (next_u64 (left_after seed (number - 1))).0

-- the number from low to high that is drawn with a word
abbrev pub number_in : (low high drawn_word : ℕ) → ℕ
number_in low high drawn_word = low + drawn_word % (high - low + 1)
