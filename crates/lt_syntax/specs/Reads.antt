-- What reading a text answers.
use Rattle.std.specs.Prelude.{ℕ, ◌≡◌, ◌≤◌, List, drop, length, Result, Ok, Err, Option, Some, None, ⊤}
use Rattle.lt_base.specs.declared.memory.Or.{Or}
use Rattle.lt_base.specs.declared.memory.Or.TheVariants as or
use Rattle.lt_tokens.specs.declared.token.Token.{Token}
use Rattle.lt_tokens.specs.Text as text
use Rattle.lt_syntax.specs.declared.fault.SyntaxFault.{SyntaxFault}
use Rattle.lt_syntax.specs.declared.fault.SyntaxKind.{SyntaxKind}
use Rattle.lt_syntax.specs.declared.fault.SyntaxKind.TheVariants as code
use Rattle.lt_syntax.specs.declared.tree.NodeText.{NodeText}
use Rattle.lt_syntax.specs.Program.{Spells, NotEmpty}
use Rattle.lt_syntax.specs.Faults.{IsFault}
use Rattle.lt_syntax.specs.Parser as parser

-- A tree is spelled by the bytes, and a fault is the first one.
abbrev pub AnswersSyntax : ℕ → List ℕ → Result (List NodeText) (Or SyntaxFault) → Type 0
AnswersSyntax limit bytes (Ok t) = Spells limit bytes t
AnswersSyntax limit bytes (Err (or.Fault f)) = IsFault limit bytes f
AnswersSyntax limit bytes (Err or.Memory) = ⊤

-- this tree, unless memory ran out
abbrev pub FindsTree : List NodeText → Result (List NodeText) (Or SyntaxFault) → Type 0
FindsTree t (Ok u) = u ≡ t
FindsTree t (Err (or.Fault f)) = ⊥
FindsTree t (Err or.Memory) = ⊤

abbrev pub syntax_kind : parser.Kind → SyntaxKind
syntax_kind parser.Unexpected = code.Unexpected
syntax_kind parser.TooDeep = code.TooDeep

-- the step at this place goes to this state
abbrev pub ParserStepsAt : ℕ → Result (Unit {0}) (Or SyntaxFault) → parser.ParserState → Result parser.ParserState parser.Kind → Type 0
ParserStepsAt at (Ok done) s r = r ≡ Ok s
ParserStepsAt at (Err (or.Fault f)) s r = (f.at ≡ at) × (k : parser.Kind) × (f.kind ≡ syntax_kind k) × (r ≡ Err k)
ParserStepsAt at (Err or.Memory) s r = ⊤

-- behind at least one node, where the text may end
abbrev pub TextEnds : parser.ParserState → Type 0
TextEnds s = parser.PhaseEnds s.phase × NotEmpty s.done

-- the fault of this kind stands here: what begins no token, a token that is no step, or an end where the text may not end
abbrev pub IsWrong : ℕ → parser.ParserState → text.Front → SyntaxKind → Type 0
IsWrong limit s text.BadByte kind = kind ≡ code.BadByte
IsWrong limit s text.BadNumber kind = kind ≡ code.BadNumber
IsWrong limit s text.Over kind = (kind ≡ code.Unexpected) × (TextEnds s → ⊥)
IsWrong limit s (text.Begins t after) kind = (k : parser.Kind) × (kind ≡ syntax_kind k) × (parser.parser_step limit s t ≡ Err k)

-- What is taken of a text without blanks at its front, at this place: a token of so many bytes, which is a step; the end; or the fault there.
abbrev pub TakesToken : ℕ → ℕ → List ℕ → parser.ParserState → parser.ParserState → Result (Option ℕ) (Or SyntaxFault) → Type 0
TakesToken limit at here s s' (Ok (Some n)) = (t : Token) × (text.front here ≡ text.Begins t (drop n here)) × (parser.parser_step limit s t ≡ Ok s') × (1 ≤ n) × (n ≤ length here)
TakesToken limit at here s s' (Ok None) = (text.front here ≡ text.Over) × TextEnds s × (s' ≡ s)
TakesToken limit at here s s' (Err (or.Fault f)) = (f.at ≡ at) × IsWrong limit s (text.front here) f.kind
TakesToken limit at here s s' (Err or.Memory) = ⊤
