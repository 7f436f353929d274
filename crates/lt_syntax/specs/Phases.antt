-- What the parser's values in memory stand for.
use Rattle.std.specs.Prelude.{ℕ, ◌≡◌, List, [], Result, Ok, Err}
use Rattle.lt_base.specs.declared.memory.Or.{Or}
use Rattle.lt_base.specs.declared.memory.Or.TheVariants as or
use Rattle.lt_syntax.specs.declared.header.Kind.{Kind}
use Rattle.lt_syntax.specs.declared.header.Kind.TheVariants as kind
use Rattle.lt_syntax.specs.declared.header.Phase.{Phase}
use Rattle.lt_syntax.specs.declared.header.Phase.TheVariants as phase
use Rattle.lt_syntax.specs.declared.header.Parser.{Parser}
use Rattle.lt_syntax.specs.Machine as machine
use Rattle.lt_syntax.specs.Parser as parser
use Rattle.lt_syntax.specs.Views.{mode_of, stack_of}

-- with these forms begun and what must come, where the right side of an equation is begun
abbrev pub parser_phase_of : Phase → List machine.Frame → machine.Mode → parser.ParserPhase
parser_phase_of phase.Idle fs m = parser.Idle
parser_phase_of phase.Told fs m = parser.Told
parser_phase_of phase.WantNode fs m = parser.WantNode
parser_phase_of (phase.HasNode x) fs m = parser.HasNode x
parser_phase_of (phase.Opened n) fs m = parser.Opened n.value
parser_phase_of (phase.WantName n s xs) fs m = parser.WantName n.value s xs
parser_phase_of (phase.HasName n s xs) fs m = parser.HasName n.value s xs
parser_phase_of (phase.WantType n s xs) fs m = parser.WantType n.value s xs
parser_phase_of (phase.HasGroup n s xs ty c) fs m = parser.HasGroup n.value s xs ty c
parser_phase_of (phase.WantPolarity n s xs ty c) fs m = parser.WantPolarity n.value s xs ty c
parser_phase_of (phase.WantVariable n s xs ty c) fs m = parser.WantVariable n.value s xs ty c
parser_phase_of (phase.HasIns n) fs m = parser.HasIns n.value
parser_phase_of (phase.Returning n) fs m = parser.Returning n.value
parser_phase_of (phase.HasOuts n) fs m = parser.HasOuts n.value
parser_phase_of (phase.HasHead n) fs m = parser.HasHead n.value
parser_phase_of (phase.HasLocals n) fs m = parser.HasLocals n.value
parser_phase_of (phase.Body n) fs m = parser.Body n.value
parser_phase_of (phase.HasLeft n x) fs m = parser.HasLeft n.value x
parser_phase_of (phase.In n x) fs m = parser.In n.value x fs m

abbrev pub parser_kind : Kind → parser.Kind
parser_kind kind.Unexpected = parser.Unexpected
parser_kind kind.TooDeep = parser.TooDeep

abbrev pub state_of : Parser → parser.ParserState
state_of p = record { done = p.nodes; phase = parser_phase_of p.phase (stack_of p.frames.items) (mode_of p.mode) }

-- the right side of an equation is begun
abbrev pub IsIn : Phase → Type 0
IsIn (phase.In n x) = Unit {0}
IsIn _ = ⊥

-- The next phase, in which no form is begun. Want of memory may stand in place of a phase, and never of a fault.
abbrev pub MovesPhase : Result Phase (Or Kind) → Result parser.ParserPhase parser.Kind → Type 0
MovesPhase (Ok p) r = r ≡ Ok (parser_phase_of p [] machine.Want)
MovesPhase (Err (or.Fault k)) r = r ≡ Err (parser_kind k)
MovesPhase (Err or.Memory) (Ok p) = Unit {0}
MovesPhase (Err or.Memory) (Err k) = ⊥

-- the parser is in the next state, and want of memory stands in place of no fault
abbrev pub Proceeds : Result (Unit {0}) (Or Kind) → parser.ParserState → Result parser.ParserState parser.Kind → Type 0
Proceeds (Ok done) s r = r ≡ Ok s
Proceeds (Err (or.Fault k)) s r = r ≡ Err (parser_kind k)
Proceeds (Err or.Memory) s (Ok s') = Unit {0}
Proceeds (Err or.Memory) s (Err k) = ⊥

-- the parser is in the next state, unless memory ran out
abbrev pub ParserSteps : Result (Unit {0}) (Or Kind) → parser.ParserState → Result parser.ParserState parser.Kind → Type 0
ParserSteps (Ok done) s r = r ≡ Ok s
ParserSteps (Err (or.Fault k)) s r = r ≡ Err (parser_kind k)
ParserSteps (Err or.Memory) s r = Unit {0}

-- each form that is begun fits the limit, and so does the operand
abbrev pub Fits : ℕ → parser.ParserPhase → Type 0
Fits limit (parser.In n x fs m) = machine.Held limit m fs
Fits limit _ = Unit {0}
