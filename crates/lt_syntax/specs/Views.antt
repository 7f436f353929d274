-- What the values in memory stand for.
use Rattle.std.specs.Prelude.{◌≡◌, ℕ, Bool, true, false, List, [], ◌∷◌, map, reverse, Option, Some, None, MatchOption}
use Rattle.std.specs.Global.{Box, Vec}
use Rattle.lt_base.specs.declared.operators.Un.TheVariants.{Neg}
use Rattle.lt_base.specs.declared.value.Value.{Value}
use Rattle.lt_syntax.specs.declared.term.Term.{Term}
use Rattle.lt_syntax.specs.declared.term.Term.TheOpen.{Term-F, Lit, Var, Un, Bin, If, When, Merge, Fby, Follow, Arrow, Call}
use Rattle.lt_syntax.specs.declared.term.Term.TheFolds.{fold-Term}
use Rattle.lt_syntax.specs.declared.frame.Operand as code
use Rattle.lt_syntax.specs.declared.frame.Frame.{Frame}
use Rattle.lt_syntax.specs.declared.frame.Frame.TheVariants as frame
use Rattle.lt_syntax.specs.declared.frame.Mode.{Mode}
use Rattle.lt_syntax.specs.declared.frame.Mode.TheVariants as mode
use Rattle.lt_syntax.specs.declared.frame.Next.{Next}
use Rattle.lt_syntax.specs.declared.frame.Next.TheVariants as next
use Rattle.lt_syntax.specs.Machine as machine
use Rattle.lt_syntax.specs.Tree as tree
use Rattle.lt_syntax.specs.Tree.{Tm, tms}

abbrev pub tm_step : Term-F Tm → Tm
tm_step (Lit v) = tree.Lit v
tm_step (Var x) = tree.Var x
tm_step (Un o a) = tree.Unary o a.value
tm_step (Bin o a b) = tree.Binary o a.value b.value
tm_step (If c a b) = tree.Choice c.value a.value b.value
tm_step (When a c b) = tree.Sampled a.value c b
tm_step (Merge c a b) = tree.Merged c a.value b.value
tm_step (Fby v a) = tree.Delayed v a.value
tm_step (Follow a b) = tree.Followed a.value b.value
tm_step (Arrow a b) = tree.Arrow a.value b.value
tm_step (Call f v) = tree.Call f (tms v.items)

-- the shape of a term
abbrev pub tm_of : Term → Tm
tm_of = fold-Term Tm tm_step

-- what was copied is this term, these two, this name, these arguments
abbrev pub IsTerm : Tm → Box Term → Type 0
IsTerm x t = tm_of t.value ≡ x

abbrev pub AreTerms : (x y : Tm) → Box Term × Box Term → Type 0
AreTerms x y pair = (tm_of pair.0.value ≡ x) × (tm_of pair.1.value ≡ y)

abbrev pub IsName : (name copy : List ℕ) → Type 0
IsName name copy = copy ≡ name

abbrev pub AreArguments : List Tm → Vec Term → Type 0
AreArguments xs copies = map tm_of copies.items ≡ xs

-- the value of a term whose text is a literal
abbrev pub literal_value : Tm → Option Value
literal_value (tree.Lit v) = Some v
literal_value (tree.Unary Neg a) = machine.negative (literal_value a)
literal_value _ = None

-- the value, where the text is a literal
abbrev pub lead_of : Bool → Tm → Option Value
lead_of true t = literal_value t
lead_of false t = None

abbrev pub operand_of : code.Operand → machine.Operand
operand_of a = record { tree = tm_of a.term.value; height = a.height; lead = lead_of a.literal (tm_of a.term.value) }

abbrev pub frame_of : Frame → machine.Frame
frame_of frame.AfterMinus = machine.AfterMinus
frame_of frame.AfterNot = machine.AfterNot
frame_of frame.InParen = machine.InParen
frame_of (frame.AfterInfix o a) = machine.AfterInfix o (operand_of a)
frame_of frame.AfterIf = machine.AfterIf
frame_of (frame.AfterThen c) = machine.AfterThen (operand_of c)
frame_of (frame.AfterElse c a) = machine.AfterElse (operand_of c) (operand_of a)
frame_of (frame.Sampling a b) = machine.Sampling (operand_of a) b
frame_of frame.AfterMerge = machine.AfterMerge
frame_of (frame.FirstPart c) = machine.FirstPart c
frame_of (frame.SecondPart c a) = machine.SecondPart c (operand_of a)
frame_of (frame.InCall f v h) = machine.InCall f (map tm_of v.items) h

abbrev pub mode_of : Mode → machine.Mode
mode_of mode.Want = machine.Want
mode_of (mode.Named x) = machine.Named x
mode_of (mode.Has a) = machine.Has (operand_of a)
mode_of mode.WantClock = machine.WantClock

-- the begun forms, the newest first; in memory it is the last
abbrev pub stack_of : List Frame → List machine.Frame
stack_of fs = map frame_of (reverse fs)

-- the top frame was taken off, or there was none
abbrev pub TakesTop : (old new : List Frame) → Option Frame → Type 0
TakesTop old new top = MatchOption top ((stack_of old ≡ []) × (stack_of new ≡ [])) (λ f. stack_of old ≡ frame_of f ∷ stack_of new)

abbrev pub top_ends : List machine.Frame → ℕ
top_ends [] = 0
top_ends (f ∷ fs) = machine.ends f

abbrev pub next_of : Next → List machine.Frame → machine.Next
next_of next.Bad fs = machine.Bad
next_of (next.Go m) fs = machine.Go fs (mode_of m)
next_of (next.Done a) fs = machine.Done (operand_of a)
