-- The parser of expressions as a machine that takes one token at a time: a stack of forms that are begun, the newest first, and a mode.
use Rattle.std.specs.Prelude.{ℕ, ◌+◌, ◌≤◌, max, Bool, true, false, List, [], ◌∷◌, ◌++◌, length, Option, Some, None, nat_le, pos, neg_ℤ, if◌then◌else◌}
use Rattle.lt_base.specs.declared.operators.Bin.TheVariants.{Sub}
use Rattle.lt_base.specs.declared.operators.Un.TheVariants.{Neg, Not}
use Rattle.lt_base.specs.declared.value.Value.{Value}
use Rattle.lt_base.specs.declared.value.Value.TheVariants.{Int, Bool as Truth}
use Rattle.lt_tokens.specs.declared.token.Infix.{Infix}
use Rattle.lt_tokens.specs.declared.token.Infix.TheVariants.{Operator}
use Rattle.lt_tokens.specs.declared.token.Token.{Token}
use Rattle.lt_tokens.specs.declared.token.Token.TheVariants as token
use Rattle.lt_syntax.specs.Tree as tree
use Rattle.lt_syntax.specs.Tree.{Tm, tms}
use Rattle.lt_syntax.specs.Levels.{infix_line, level, left_level, right_level}
use Rattle.lt_syntax.specs.Grammar.{joined, left_height}

-- a whole operand: its tree, the height of its text, and its value where the text is a literal
pub record Operand : Type 0 where
  pub tree : Tm
  pub height : ℕ
  pub lead : Option Value

-- a form that is begun, and waits for its next part
pub data Frame : Type 0 where
  AfterMinus : Frame
  AfterNot : Frame
  InParen : Frame
  AfterInfix : Infix → Operand → Frame
  AfterIf : Frame
  AfterThen : Operand → Frame
  AfterElse : Operand → Operand → Frame
  Sampling : Operand → Bool → Frame
  AfterMerge : Frame
  FirstPart : List ℕ → Frame
  SecondPart : List ℕ → Operand → Frame
  InCall : List ℕ → List Tm → ℕ → Frame

-- an operand must begin; a name may be a call's; an operand is whole; a variable of a clock must come
pub data Mode : Type 0 where
  Want : Mode
  Named : List ℕ → Mode
  Has : Operand → Mode
  WantClock : Mode

pub data Next : Type 0 where
  Bad : Next
  Go : List Frame → Mode → Next
  Done : Operand → Next

abbrev pub number_operand : ℕ → Operand
number_operand n = record { tree = tree.Lit (Int (pos n)); height = 1; lead = Some (Int (pos n)) }

abbrev pub truth_operand : Bool → Operand
truth_operand b = record { tree = tree.Lit (Truth b); height = 1; lead = Some (Truth b) }

abbrev pub name_operand : List ℕ → Operand
name_operand x = record { tree = tree.Var x; height = 1; lead = None }

abbrev pub paren_of : Operand → Operand
paren_of a = record { tree = a.tree; height = a.height + 1; lead = None }

abbrev pub sampled_of : Operand → List ℕ → Bool → Operand
sampled_of a c b = record { tree = tree.Sampled a.tree c b; height = a.height + 1; lead = None }

abbrev pub call_of : List ℕ → List Tm → ℕ → Operand
call_of f xs h = record { tree = tree.Call f (tms xs); height = max 1 h + 1; lead = None }

-- the value of a number's literal with - before it
abbrev pub negative : Option Value → Option Value
negative (Some (Int (pos n))) = Some (Int (neg_ℤ (pos n)))
negative _ = None

-- the level that the next part must have
abbrev pub part_level : Frame → ℕ
part_level AfterMinus = 11
part_level AfterNot = 5
part_level (AfterInfix o a) = right_level (infix_line o)
part_level (FirstPart c) = 12
part_level (SecondPart c a) = 12
part_level _ = 1

abbrev pub hole : List Frame → ℕ
hole [] = 1
hole (f ∷ fs) = part_level f

-- the level of a form that its next part completes; 0 where a token of its own must follow
abbrev pub ends : Frame → ℕ
ends AfterMinus = 10
ends AfterNot = 5
ends (AfterInfix o a) = level (infix_line o)
ends (AfterElse c a) = 1
ends (SecondPart c a) = 11
ends _ = 0

-- the form with its last part
abbrev pub complete : Frame → Operand → Operand
complete AfterMinus b = record { tree = tree.Unary Neg b.tree; height = b.height + 1; lead = negative b.lead }
complete AfterNot b = record { tree = tree.Unary Not b.tree; height = b.height + 1; lead = None }
complete (AfterInfix o a) b = record { tree = joined o a.lead a.tree b.tree; height = max (left_height o a.lead a.height) b.height + 1; lead = None }
complete (AfterElse c a) b = record { tree = tree.Choice c.tree a.tree b.tree; height = max (max c.height a.height) b.height + 1; lead = None }
complete (SecondPart c a) b = record { tree = tree.Merged c a.tree b.tree; height = max a.height b.height + 1; lead = None }
complete _ b = b

-- completes the forms from this level on, and hands on what is left
abbrev pub close : ℕ → List Frame → Operand → (List Frame → Operand → Next) → Next
close l [] a k = k [] a
close l (f ∷ fs) a k = if nat_le l (ends f) then close l fs (complete f a) k else k (f ∷ fs) a

-- the level from which on a token completes forms
abbrev pub stop : Token → ℕ
stop (token.Infix o) = left_level (infix_line o)
stop token.When = 9
stop token.Close = 1
stop token.Comma = 1
stop token.Then = 1
stop token.Else = 1
stop token.Semicolon = 1
stop _ = 12

-- a token where an operand must begin
abbrev pub want : Token → List Frame → Next
want (token.Number n) fs = Go fs (Has (number_operand n))
want (token.Truth b) fs = Go fs (Has (truth_operand b))
want (token.Ident x) fs = Go fs (Named x)
want token.Open fs = Go (InParen ∷ fs) Want
want (token.Infix (Operator Sub)) fs = if nat_le (hole fs) 10 then Go (AfterMinus ∷ fs) Want else Bad
want token.Not fs = if nat_le (hole fs) 5 then Go (AfterNot ∷ fs) Want else Bad
want token.If fs = if nat_le (hole fs) 1 then Go (AfterIf ∷ fs) Want else Bad
want token.Merge fs = if nat_le (hole fs) 11 then Go (AfterMerge ∷ fs) WantClock else Bad
want token.Close (InCall f [] h ∷ fs) = Go fs (Has (call_of f [] 0))
want _ fs = Bad

-- the second part of a merge begins
abbrev pub second : Token → List Frame → Operand → Next
second t (FirstPart c ∷ fs) a = want t (SecondPart c a ∷ fs)
second t _ a = Bad

-- a token behind an operand, once it has completed forms
abbrev pub after_operand : Token → List Frame → Operand → Next
after_operand (token.Infix o) fs a = if nat_le (hole fs) (level (infix_line o)) then Go (AfterInfix o a ∷ fs) Want else Bad
after_operand token.When fs a = if nat_le (hole fs) 9 then Go (Sampling a true ∷ fs) WantClock else Bad
after_operand token.Close (InParen ∷ fs) a = Go fs (Has (paren_of a))
after_operand token.Close (InCall f xs h ∷ fs) a = Go fs (Has (call_of f (xs ++ a.tree ∷ []) (max h a.height)))
after_operand token.Comma (InCall f xs h ∷ fs) a = Go (InCall f (xs ++ a.tree ∷ []) (max h a.height) ∷ fs) Want
after_operand token.Then (AfterIf ∷ fs) a = Go (AfterThen a ∷ fs) Want
after_operand token.Else (AfterThen c ∷ fs) a = Go (AfterElse c a ∷ fs) Want
after_operand token.Semicolon [] a = Done a
after_operand (token.Number n) fs a = second (token.Number n) fs a
after_operand (token.Truth b) fs a = second (token.Truth b) fs a
after_operand (token.Ident x) fs a = second (token.Ident x) fs a
after_operand token.Open fs a = second token.Open fs a
after_operand _ _ a = Bad

abbrev pub has_operand : List Frame → Operand → Token → Next
has_operand fs a t = close (stop t) fs a (after_operand t)

-- a token where a variable of a clock must come
abbrev pub clock : Token → List Frame → Next
clock token.Not (Sampling a true ∷ fs) = Go (Sampling a false ∷ fs) WantClock
clock (token.Ident c) (Sampling a b ∷ fs) = Go fs (Has (sampled_of a c b))
clock (token.Ident c) (AfterMerge ∷ fs) = Go (FirstPart c ∷ fs) Want
clock _ _ = Bad

-- behind a name ( makes a call, but in a part of a merge
abbrev pub opens : Token → List Frame → Bool
opens token.Open fs = nat_le (hole fs) 11
opens _ fs = false

-- a token behind a name
abbrev pub named : List ℕ → List Frame → Token → Next
named x fs t = if opens t fs then Go (InCall x [] 0 ∷ fs) Want else has_operand fs (name_operand x) t

abbrev pub go : Mode → List Frame → Token → Next
go Want fs t = want t fs
go (Named x) fs t = named x fs t
go (Has a) fs t = has_operand fs a t
go WantClock fs t = clock t fs

-- the least height of what the newest form may become
abbrev pub least_height : Frame → ℕ
least_height (AfterInfix o a) = left_height o a.lead a.height + 1
least_height (AfterThen c) = c.height + 1
least_height (AfterElse c a) = max c.height a.height + 1
least_height (Sampling a b) = a.height + 1
least_height (SecondPart c a) = a.height + 1
least_height (InCall f xs h) = max 1 h + 1
least_height _ = 2

abbrev pub need : List Frame → ℕ
need [] = 1
need (f ∷ fs) = length fs + least_height f

-- each begun form fits the limit
abbrev pub Roomy : ℕ → List Frame → Type 0
Roomy limit [] = Unit {0}
Roomy limit (f ∷ fs) = (need (f ∷ fs) ≤ limit) × Roomy limit fs

-- the operand fits where it stands
abbrev pub HasRoom : ℕ → List Frame → Operand → Type 0
HasRoom limit fs a = (length fs + a.height ≤ limit) × Roomy limit fs

-- the mode's operand fits
abbrev pub Held : ℕ → Mode → List Frame → Type 0
Held limit Want fs = Unit {0}
Held limit (Named x) fs = (length fs + 1 ≤ limit) × Roomy limit fs
Held limit (Has a) fs = HasRoom limit fs a
Held limit WantClock fs = Roomy limit fs
