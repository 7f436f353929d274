-- Which words are keywords.
use Rattle.std.specs.Prelude.{ℕ, Bool, List, ◌∷◌, ◌&&◌, nat_le, codes, bytes_eq, true, false, Option, Some, None, if◌then◌else◌}
use Rattle.lt_base.specs.declared.operators.Bin.TheVariants.{And, Or, Xor, Div, Mod}
use Rattle.lt_base.specs.declared.value.Ty.TheVariants as ty
use Rattle.lt_tokens.specs.declared.token.Infix.{Infix}
use Rattle.lt_tokens.specs.declared.token.Infix.TheVariants.{Operator, Fby}
use Rattle.lt_tokens.specs.declared.token.Token.{Token}
use Rattle.lt_tokens.specs.declared.token.Token.TheVariants as token

-- the keywords of declarations
abbrev pub declaring : List ℕ → Option Token
declaring s =
    if bytes_eq s (codes "node") then Some token.Node else
    (if bytes_eq s (codes "returns") then Some token.Returns else
    (if bytes_eq s (codes "var") then Some token.Var else
    (if bytes_eq s (codes "let") then Some token.Let else
    (if bytes_eq s (codes "tel") then Some token.Tel else
    (if bytes_eq s (codes "int") then Some (token.Type ty.Int) else
    (if bytes_eq s (codes "bool") then Some (token.Type ty.Bool) else None))))))

-- the keywords that begin or divide an expression
abbrev pub forming : List ℕ → Option Token
forming s =
    if bytes_eq s (codes "true") then Some (token.Truth true) else
    (if bytes_eq s (codes "false") then Some (token.Truth false) else
    (if bytes_eq s (codes "if") then Some token.If else
    (if bytes_eq s (codes "then") then Some token.Then else
    (if bytes_eq s (codes "else") then Some token.Else else
    (if bytes_eq s (codes "not") then Some token.Not else
    (if bytes_eq s (codes "when") then Some token.When else
    (if bytes_eq s (codes "merge") then Some token.Merge else None)))))))

-- the keywords between two expressions
abbrev pub joining : List ℕ → Option Infix
joining s =
    if bytes_eq s (codes "and") then Some (Operator And) else
    (if bytes_eq s (codes "or") then Some (Operator Or) else
    (if bytes_eq s (codes "xor") then Some (Operator Xor) else
    (if bytes_eq s (codes "div") then Some (Operator Div) else
    (if bytes_eq s (codes "mod") then Some (Operator Mod) else
    (if bytes_eq s (codes "fby") then Some Fby else None)))))

-- the first of these, and else a name
abbrev pub keyword_or : Option Token → Option Token → Option Infix → List ℕ → Token
keyword_or (Some t) b c s = t
keyword_or None (Some t) c s = t
keyword_or None None (Some o) s = token.Infix o
keyword_or None None None s = token.Ident s

-- the token that a word of letters, digits and _ is
abbrev pub word_of : List ℕ → Token
word_of s = keyword_or (declaring s) (forming s) (joining s) s

-- the second byte is a small letter, as in each keyword
abbrev pub second_is_small : List ℕ → Bool
second_is_small (a ∷ b ∷ bs) = nat_le 97 b && nat_le b 122
second_is_small _ = false
