-- The parser of programs as a machine that takes one token at a time.
use Rattle.std.specs.Prelude.{ℕ, Bool, true, false, List, [], ◌∷◌, ◌++◌, Result, Ok, Err, nat_le, if◌then◌else◌}
use Rattle.lt_base.specs.declared.operators.Bin.TheVariants.{Eq}
use Rattle.lt_base.specs.declared.value.Ty.{Ty}
use Rattle.lt_tokens.specs.declared.token.Infix.TheVariants.{Operator}
use Rattle.lt_tokens.specs.declared.token.Token.{Token}
use Rattle.lt_tokens.specs.declared.token.Token.TheVariants as token
use Rattle.lt_syntax.specs.declared.tree.DeclText.{DeclText}
use Rattle.lt_syntax.specs.declared.tree.NodeText.{NodeText}
use Rattle.lt_syntax.specs.declared.section.Section.{Section}
use Rattle.lt_syntax.specs.declared.section.Section.TheVariants.{Ins, Outs, Locals}
use Rattle.lt_syntax.specs.Tree.{Tm}
use Rattle.lt_syntax.specs.Program.{declared}
use Rattle.lt_syntax.specs.Machine.{Frame, Mode, Want, WantClock, Next, Bad, Go, Done, need, go}

-- where the text is
pub data ParserPhase : Type 0 where
  -- before a node; behind `tel`; behind `node`; behind its name
  Idle : ParserPhase
  Told : ParserPhase
  WantNode : ParserPhase
  HasNode : List ℕ → ParserPhase
  -- behind the ( of the inputs
  Opened : NodeText → ParserPhase
  -- a name must come, with the group's earlier names; behind a name; behind the colon
  WantName : NodeText → Section → List (List ℕ) → ParserPhase
  HasName : NodeText → Section → List (List ℕ) → ParserPhase
  WantType : NodeText → Section → List (List ℕ) → ParserPhase
  -- a group may end; behind `when`; behind `when not`
  HasGroup : NodeText → Section → List (List ℕ) → Ty → List (List ℕ × Bool) → ParserPhase
  WantPolarity : NodeText → Section → List (List ℕ) → Ty → List (List ℕ × Bool) → ParserPhase
  WantVariable : NodeText → Section → List (List ℕ) → Ty → List (List ℕ × Bool) → ParserPhase
  -- behind the inputs; behind `returns`; behind the outputs; and their semicolon
  HasIns : NodeText → ParserPhase
  Returning : NodeText → ParserPhase
  HasOuts : NodeText → ParserPhase
  HasHead : NodeText → ParserPhase
  -- behind a group of locals; between equations; behind an equation's name; in its right side
  HasLocals : NodeText → ParserPhase
  Body : NodeText → ParserPhase
  HasLeft : NodeText → List ℕ → ParserPhase
  In : NodeText → List ℕ → List Frame → Mode → ParserPhase

pub record ParserState : Type 0 where
  pub done : List NodeText
  pub phase : ParserPhase

-- why a token is wrong
pub data Kind : Type 0 where
  Unexpected : Kind
  TooDeep : Kind

abbrev pub empty_node : List ℕ → NodeText
empty_node x = record { name = x; ins = []; outs = []; locals = []; eqs = [] }

-- the node with these declarations in a section
abbrev pub add : NodeText → Section → List DeclText → NodeText
add n Ins ds = record { name = n.name; ins = n.ins ++ ds; outs = n.outs; locals = n.locals; eqs = n.eqs }
add n Outs ds = record { name = n.name; ins = n.ins; outs = n.outs ++ ds; locals = n.locals; eqs = n.eqs }
add n Locals ds = record { name = n.name; ins = n.ins; outs = n.outs; locals = n.locals ++ ds; eqs = n.eqs }

abbrev pub add_equation : NodeText → List ℕ → Tm → NodeText
add_equation n x a = record { name = n.name; ins = n.ins; outs = n.outs; locals = n.locals; eqs = n.eqs ++ (x, a) ∷ [] }

-- behind the semicolon of a group
abbrev pub next_group : Section → NodeText → ParserPhase
next_group Locals n = HasLocals n
next_group s n = WantName n s []

-- a token that may end a group
abbrev pub end_group : Token → NodeText → Section → List (List ℕ) → Ty → List (List ℕ × Bool) → Result ParserPhase Kind
end_group token.When n Ins xs ty c = Err Unexpected
end_group token.When n s xs ty c = Ok (WantPolarity n s xs ty c)
end_group token.Semicolon n s xs ty c = Ok (next_group s (add n s (declared xs ty c)))
end_group token.Close n Ins xs ty c = Ok (HasIns (add n Ins (declared xs ty c)))
end_group token.Close n Outs xs ty c = Ok (HasOuts (add n Outs (declared xs ty c)))
end_group _ n s xs ty c = Err Unexpected

-- the newest form must fit the limit
abbrev pub checked : ℕ → NodeText → List ℕ → Next → Result ParserPhase Kind
checked limit n x Bad = Err Unexpected
checked limit n x (Go fs Want) = if nat_le (need fs) limit then Ok (In n x fs Want) else Err TooDeep
checked limit n x (Go fs WantClock) = if nat_le (need fs) limit then Ok (In n x fs WantClock) else Err TooDeep
checked limit n x (Go fs m) = Ok (In n x fs m)
checked limit n x (Done a) = Ok (Body (add_equation n x a.tree))

abbrev pub move : ℕ → ParserPhase → Token → Result ParserPhase Kind
move limit Idle token.Node = Ok WantNode
move limit Told token.Node = Ok WantNode
move limit Told token.Semicolon = Ok Idle
move limit WantNode (token.Ident x) = Ok (HasNode x)
move limit (HasNode x) token.Open = Ok (Opened (empty_node x))
move limit (Opened n) (token.Ident x) = Ok (HasName n Ins (x ∷ []))
move limit (Opened n) token.Close = Ok (HasIns n)
move limit (WantName n s xs) (token.Ident x) = Ok (HasName n s (xs ++ x ∷ []))
move limit (HasName n s xs) token.Comma = Ok (WantName n s xs)
move limit (HasName n s xs) token.Colon = Ok (WantType n s xs)
move limit (WantType n s xs) (token.Type ty) = Ok (HasGroup n s xs ty [])
move limit (HasGroup n s xs ty c) t = end_group t n s xs ty c
move limit (WantPolarity n s xs ty c) token.Not = Ok (WantVariable n s xs ty c)
move limit (WantPolarity n s xs ty c) (token.Ident x) = Ok (HasGroup n s xs ty (c ++ (x, true) ∷ []))
move limit (WantVariable n s xs ty c) (token.Ident x) = Ok (HasGroup n s xs ty (c ++ (x, false) ∷ []))
move limit (HasIns n) token.Returns = Ok (Returning n)
move limit (Returning n) token.Open = Ok (WantName n Outs [])
move limit (HasOuts n) token.Semicolon = Ok (HasHead n)
move limit (HasOuts n) token.Var = Ok (WantName n Locals [])
move limit (HasOuts n) token.Let = Ok (Body n)
move limit (HasHead n) token.Var = Ok (WantName n Locals [])
move limit (HasHead n) token.Let = Ok (Body n)
move limit (HasLocals n) (token.Ident x) = Ok (HasName n Locals (x ∷ []))
move limit (HasLocals n) token.Let = Ok (Body n)
move limit (Body n) (token.Ident x) = Ok (HasLeft n x)
move limit (HasLeft n x) (token.Infix (Operator Eq)) = Ok (In n x [] Want)
move limit (In n x fs m) t = checked limit n x (go m fs t)
move limit _ t = Err Unexpected

-- one token; `tel` ends a node
abbrev pub finish : List NodeText → Result ParserPhase Kind → Result ParserState Kind
finish done (Ok p) = Ok (record { done = done; phase = p })
finish done (Err k) = Err k

abbrev pub step_on : ℕ → List NodeText → ParserPhase → Token → Result ParserState Kind
step_on limit done (Body n) token.Tel = Ok (record { done = done ++ n ∷ []; phase = Told })
step_on limit done p t = finish done (move limit p t)

abbrev pub parser_step : ℕ → ParserState → Token → Result ParserState Kind
parser_step limit s t = step_on limit s.done s.phase t

-- the machine over all the tokens
abbrev pub on : Result ParserState Kind → (ParserState → Result ParserState Kind) → Result ParserState Kind
on (Ok s) k = k s
on (Err e) k = Err e

abbrev pub parser_run : ℕ → ParserState → List Token → Result ParserState Kind
parser_run limit s [] = Ok s
parser_run limit s (t ∷ ts) = on (parser_step limit s t) (λ s'. parser_run limit s' ts)

-- nothing is read yet
abbrev pub parser_start : ParserState
parser_start = record { done = []; phase = Idle }

-- the text may end here
abbrev pub PhaseEnds : ParserPhase → Type 0
PhaseEnds Idle = Unit {0}
PhaseEnds Told = Unit {0}
PhaseEnds _ = ⊥
