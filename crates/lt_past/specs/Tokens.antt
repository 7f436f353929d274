-- How the bytes of an observer are cut into tokens, the longest first. Blanks and comments are those of programs.
use Rattle.std.specs.Prelude.{ℕ, ◌≡◌, true, false, ◌&&◌, List, [], ◌∷◌, length, drop, take_while, bytes_eq, codes, ◌==◌, Option, Some, None, if◌then◌else◌}
use Rattle.lt_tokens.specs.Text.{is_letter, is_word, skip, starts_with}
use Rattle.lt_past.specs.declared.words.Sign.{Sign}
use Rattle.lt_past.specs.declared.words.Sign.TheVariants.{Truth, Before, Between, Open, Close}
use Rattle.lt_past.specs.declared.words.Prefix.TheVariants.{Not, Previous, Once, Historically}
use Rattle.lt_past.specs.declared.words.Infix.TheVariants.{And, Or, Since, Implies}

-- a name, or a keyword or symbol
pub data Token : Type 0 where
  name : List ℕ → Token
  sign : Sign → Token

-- the keywords
abbrev pub keyword : List ℕ → Option Sign
keyword s =
    if bytes_eq s (codes "true") then Some (Truth true) else
    (if bytes_eq s (codes "false") then Some (Truth false) else
    (if bytes_eq s (codes "not") then Some (Before Not) else
    (if bytes_eq s (codes "previous") then Some (Before Previous) else
    (if bytes_eq s (codes "once") then Some (Before Once) else
    (if bytes_eq s (codes "historically") then Some (Before Historically) else
    (if bytes_eq s (codes "and") then Some (Between And) else
    (if bytes_eq s (codes "or") then Some (Between Or) else
    (if bytes_eq s (codes "since") then Some (Between Since) else None))))))))

abbrev pub observer_keyword_or : Option Sign → List ℕ → Token
observer_keyword_or (Some s) w = sign s
observer_keyword_or None w = name w

-- what stands at the front of a text that does not begin with a blank or a comment:
-- its end, a token with the text behind it, or none
pub data ObserverFront : Type 0 where
  Over : ObserverFront
  Begins : Token → List ℕ → ObserverFront
  BadByte : ObserverFront

-- the symbols ( ) =>
abbrev pub observer_symbol : ℕ → List ℕ → ObserverFront
observer_symbol b bs =
    if b == 40 then Begins (sign Open) bs else
    (if b == 41 then Begins (sign Close) bs else
    (if b == 61 && starts_with 62 bs then Begins (sign (Between Implies)) (drop 1 bs) else BadByte))

-- the longest front of letters, digits and _
abbrev pub observer_word : List ℕ → ObserverFront
observer_word bytes = let w = take_while is_word bytes in Begins (observer_keyword_or (keyword w) w) (drop (length w) bytes)

abbrev pub observer_front : List ℕ → ObserverFront
observer_front [] = Over
observer_front (b ∷ bs) = if is_letter b then observer_word (b ∷ bs) else observer_symbol b bs

-- these tokens are cut off the bytes one after the other, and this is the rest
abbrev pub ObserverCuts : List ℕ → List Token → List ℕ → Type 0
ObserverCuts bytes [] rest = rest ≡ bytes
ObserverCuts bytes (t ∷ ts) rest = (after : List ℕ) × (observer_front (skip bytes) ≡ Begins t after) × ObserverCuts after ts rest
