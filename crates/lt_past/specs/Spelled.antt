-- Which bytes spell a form.
use Rattle.std.specs.Prelude.{ℕ, ◌≡◌, ◌≤◌, List, []}
use Rattle.lt_tokens.specs.Text.{skip}
use Rattle.lt_past.specs.Tokens.{Token, ObserverCuts, Over, observer_front}
use Rattle.lt_past.specs.Grammar.{ObserverForm, ObserverFormIsAt, formula_tokens, formula_height}

-- These tokens are an observer of at most this height, written as this form.
pub record WritesObserver (limit : ℕ) (ts : List Token) (f : ObserverForm) : Type 0 where
  pub at : ObserverFormIsAt 1 f
  pub low : formula_height f ≤ limit
  pub spelled : ts ≡ formula_tokens f []

-- These bytes are cut into tokens up to their end, and the tokens are an observer, written as this form.
pub record SpellsObserver (limit : ℕ) (bytes : List ℕ) (f : ObserverForm) : Type 0 where
  pub formula_tokens : List Token
  pub rest : List ℕ
  pub cut : ObserverCuts bytes formula_tokens rest
  pub ended : observer_front (skip rest) ≡ Over
  pub written : WritesObserver limit formula_tokens f
