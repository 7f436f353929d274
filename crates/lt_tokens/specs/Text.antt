-- How the bytes of a text are cut into tokens, the longest first.
use Rattle.std.specs.Prelude.{ℕ, ◌≡◌, Bool, false, ◌&&◌, ◌||◌, List, [], ◌∷◌, length, drop, take_while, nat_le, ◌==◌, Option, Some, None, if◌then◌else◌}
use Rattle.lt_base.specs.Digits.{is_digit, read_on}
use Rattle.lt_base.specs.declared.operators.Bin.TheVariants.{Add, Sub, Mul, Eq, Ne, Lt, Le, Gt, Ge, Implies}
use Rattle.lt_tokens.specs.declared.token.Infix.{Infix}
use Rattle.lt_tokens.specs.declared.token.Infix.TheVariants.{Operator, Arrow}
use Rattle.lt_tokens.specs.declared.token.Token.{Token}
use Rattle.lt_tokens.specs.declared.token.Token.TheVariants as token
use Rattle.lt_tokens.specs.Words.{word_of}

-- space, tab, carriage return, line feed
abbrev pub is_blank : ℕ → Bool
is_blank b = b == 32 || b == 9 || b == 13 || b == 10

-- an ASCII letter or _
abbrev pub is_letter : ℕ → Bool
is_letter b = (nat_le 65 b && nat_le b 90) || (nat_le 97 b && nat_le b 122) || b == 95

abbrev pub is_word : ℕ → Bool
is_word b = is_letter b || is_digit b

abbrev pub starts_with : ℕ → List ℕ → Bool
starts_with c [] = false
starts_with c (b ∷ bs) = b == c

-- the text without the blanks and comments at its front; a comment goes from -- up to a line feed or the end
abbrev mutual
  pub skip : List ℕ → List ℕ
  skip [] = []
  skip (b ∷ bs) = if is_blank b then skip bs else (if b == 45 && starts_with 45 bs then skip_comment bs else b ∷ bs)

  pub skip_comment : List ℕ → List ℕ
  skip_comment [] = []
  skip_comment (b ∷ bs) = if b == 10 then skip bs else skip_comment bs

-- what stands at the front of a text that does not begin with a blank or a comment:
-- its end, a token with the text behind it, or none
pub data Front : Type 0 where
  Over : Front
  Begins : Token → List ℕ → Front
  BadByte : Front
  BadNumber : Front

-- the greatest number of a text
abbrev pub greatest_number : ℕ
greatest_number = 9223372036854775807

-- symbols of two bytes: => <> <= >= ->
abbrev pub pair : ℕ → List ℕ → Option Infix
pair b [] = None
pair b (c ∷ bs) =
    if b == 61 && c == 62 then Some (Operator Implies) else
    (if b == 60 && c == 62 then Some (Operator Ne) else
    (if b == 60 && c == 61 then Some (Operator Le) else
    (if b == 62 && c == 61 then Some (Operator Ge) else
    (if b == 45 && c == 62 then Some Arrow else None))))

-- symbols of one byte: = < > + - * ( ) , ; :
abbrev pub single : ℕ → Option Token
single b =
    if b == 61 then Some (token.Infix (Operator Eq)) else
    (if b == 60 then Some (token.Infix (Operator Lt)) else
    (if b == 62 then Some (token.Infix (Operator Gt)) else
    (if b == 43 then Some (token.Infix (Operator Add)) else
    (if b == 45 then Some (token.Infix (Operator Sub)) else
    (if b == 42 then Some (token.Infix (Operator Mul)) else
    (if b == 40 then Some token.Open else
    (if b == 41 then Some token.Close else
    (if b == 44 then Some token.Comma else
    (if b == 59 then Some token.Semicolon else
    (if b == 58 then Some token.Colon else None))))))))))

-- the longer symbol first; a byte that begins none begins no token
abbrev pub symbol_of : Option Infix → Option Token → List ℕ → Front
symbol_of (Some o) t bs = Begins (token.Infix o) (drop 1 bs)
symbol_of None (Some t) bs = Begins t bs
symbol_of None None bs = BadByte

abbrev pub symbol : ℕ → List ℕ → Front
symbol b bs = symbol_of (pair b bs) (single b) bs

abbrev pub word : List ℕ → List ℕ → Front
word s rest = Begins (word_of s) rest

abbrev pub number : List ℕ → List ℕ → Front
number s rest = if nat_le (read_on 0 s) greatest_number then Begins (token.Number (read_on 0 s)) rest else BadNumber

-- the longest front whose bytes all pass, and the rest
abbrev pub span : (ℕ → Bool) → List ℕ → (List ℕ → List ℕ → Front) → Front
span p bytes k = let s = take_while p bytes in k s (drop (length s) bytes)

abbrev pub front : List ℕ → Front
front [] = Over
front (b ∷ bs) = if is_letter b then span is_word (b ∷ bs) word else (if is_digit b then span is_digit (b ∷ bs) number else symbol b bs)

-- these tokens are cut off the bytes one after the other, and this is the rest
abbrev pub Cuts : List ℕ → List Token → List ℕ → Type 0
Cuts bytes [] rest = rest ≡ bytes
Cuts bytes (t ∷ ts) rest = (after : List ℕ) × (front (skip bytes) ≡ Begins t after) × Cuts after ts rest
