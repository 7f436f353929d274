-- Where a text goes wrong first.
use Rattle.std.specs.Prelude.{ℕ, ◌+◌, ◌≡◌, List, [], ◌∷◌, ◌++◌, length}
use Rattle.lt_tokens.specs.declared.token.Token.{Token}
use Rattle.lt_tokens.specs.Text as text
use Rattle.lt_tokens.specs.Text.{Cuts, Front, front, skip}
use Rattle.lt_syntax.specs.declared.tree.NodeText.{NodeText}
use Rattle.lt_syntax.specs.declared.fault.SyntaxFault.{SyntaxFault}
use Rattle.lt_syntax.specs.declared.fault.SyntaxKind.{SyntaxKind}
use Rattle.lt_syntax.specs.declared.fault.SyntaxKind.TheVariants.{BadByte, BadNumber, Unexpected, TooDeep}
use Rattle.lt_syntax.specs.Program.{Program}

-- these tokens begin a program
abbrev pub ProgramBegins : ℕ → List Token → Type 0
ProgramBegins limit ts = (more : List Token) × (t : List NodeText) × Program limit (ts ++ more) t

-- These tokens begin no program, whatever the limit on height.
abbrev pub ProgramBreaks : List Token → Type 0
ProgramBreaks ts = (limit : ℕ) → ProgramBegins limit ts → ⊥

-- they begin one, but none within this limit
abbrev pub ProgramExceeds : ℕ → List Token → Type 0
ProgramExceeds limit ts = (ProgramBegins limit ts → ⊥) × ((more : ℕ) × ProgramBegins more ts)

-- What stands behind tokens that begin a program is wrong, in this way.
abbrev pub ProgramOffends : ℕ → SyntaxKind → List Token → Front → Type 0
ProgramOffends limit BadByte ts text.BadByte = Unit {0}
ProgramOffends limit BadNumber ts text.BadNumber = Unit {0}
ProgramOffends limit Unexpected ts (text.Begins t after) = ProgramBreaks (ts ++ t ∷ [])
ProgramOffends limit Unexpected ts text.Over = (t : List NodeText) → Program limit ts t → ⊥
ProgramOffends limit TooDeep ts (text.Begins t after) = ProgramExceeds limit (ts ++ t ∷ [])
ProgramOffends limit _ ts _ = ⊥

-- The first offending place of the bytes, and its kind: the tokens before it begin a program, and what stands there offends.
pub record IsFault (limit : ℕ) (bytes : List ℕ) (f : SyntaxFault) : Type 0 where
  pub tokens : List Token
  pub rest : List ℕ
  pub cut : Cuts bytes tokens rest
  pub place : f.at + length (skip rest) ≡ length bytes
  pub before : ProgramBegins limit tokens
  pub offends : ProgramOffends limit f.kind tokens (front (skip rest))
