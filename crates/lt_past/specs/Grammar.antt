-- The grammar of observers. A formula as it is written, with its parentheses, is a form; where it may stand, its tokens, its height,
-- its names and its formula are read off it.
use Rattle.std.specs.Prelude.{ℕ, ◌+◌, ◌≤◌, max, Bool, List, [], ◌∷◌, ◌++◌}
use Rattle.lt_past.specs.declared.words.Prefix.{Prefix}
use Rattle.lt_past.specs.declared.words.Infix.{Infix}
use Rattle.lt_past.specs.declared.words.Sign.TheVariants.{Truth, Before, Between, Open, Close}
use Rattle.lt_past.specs.Formula.{Formula, constant, signal, unary, binary}
use Rattle.lt_past.specs.Tokens.{Token, name, sign}
use Rattle.lt_past.specs.Levels.{observer_level, observer_left_level, observer_right_level}

pub data ObserverForm : Type 0 where
  truth : Bool → ObserverForm
  named : List ℕ → ObserverForm
  paren : ObserverForm → ObserverForm
  prefixed : Prefix → ObserverForm → ObserverForm
  joined : Infix → ObserverForm → ObserverForm → ObserverForm

-- the form may stand where the grammar asks for this level
abbrev pub ObserverFormIsAt : ℕ → ObserverForm → Type 0
ObserverFormIsAt l (truth b) = l ≤ 6
ObserverFormIsAt l (named x) = l ≤ 6
ObserverFormIsAt l (paren a) = (l ≤ 6) × ObserverFormIsAt 1 a
ObserverFormIsAt l (prefixed p a) = (l ≤ 5) × ObserverFormIsAt 5 a
ObserverFormIsAt l (joined o a b) = (l ≤ observer_level o) × ObserverFormIsAt (observer_left_level o) a × ObserverFormIsAt (observer_right_level o) b

-- the tokens of a form, and then ts
abbrev pub formula_tokens : ObserverForm → List Token → List Token
formula_tokens (truth b) ts = sign (Truth b) ∷ ts
formula_tokens (named x) ts = name x ∷ ts
formula_tokens (paren a) ts = sign Open ∷ formula_tokens a (sign Close ∷ ts)
formula_tokens (prefixed p a) ts = sign (Before p) ∷ formula_tokens a ts
formula_tokens (joined o a b) ts = formula_tokens a (sign (Between o) ∷ formula_tokens b ts)

abbrev pub formula_height : ObserverForm → ℕ
formula_height (truth b) = 1
formula_height (named x) = 1
formula_height (paren a) = formula_height a + 1
formula_height (prefixed p a) = formula_height a + 1
formula_height (joined o a b) = max (formula_height a) (formula_height b) + 1

-- the names in it, in the order of the text
abbrev pub names : ObserverForm → List (List ℕ)
names (truth b) = []
names (named x) = x ∷ []
names (paren a) = names a
names (prefixed p a) = names a
names (joined o a b) = names a ++ names b

-- its formula, where each name has a number
abbrev pub formula_meaning : (List ℕ → ℕ) → ObserverForm → Formula
formula_meaning number (truth b) = constant b
formula_meaning number (named x) = signal (number x)
formula_meaning number (paren a) = formula_meaning number a
formula_meaning number (prefixed p a) = unary p (formula_meaning number a)
formula_meaning number (joined o a b) = binary o (formula_meaning number a) (formula_meaning number b)
