-- Formulas of past time, without places in memory.
use Rattle.std.specs.Prelude.{ℕ, ◌<◌, Bool}
use Rattle.lt_past.specs.declared.words.Prefix.{Prefix}
use Rattle.lt_past.specs.declared.words.Infix.{Infix}

-- a truth value, the signal of a number, and a word with its operands
pub data Formula : Type 0 where
  constant : Bool → Formula
  signal : ℕ → Formula
  unary : Prefix → Formula → Formula
  binary : Infix → Formula → Formula → Formula

-- its signals are below n
abbrev pub SignalsBelow : ℕ → Formula → Type 0
SignalsBelow n (constant b) = Unit {0}
SignalsBelow n (signal k) = k < n
SignalsBelow n (unary p f) = SignalsBelow n f
SignalsBelow n (binary o f g) = SignalsBelow n f × SignalsBelow n g
