-- The machine reads what the grammar of expressions writes.
use Rattle.std.proofs.Common.{◌≡◌, ℕ, ◌+◌, ◌<◌, ◌≤◌, max, List, [], ◌∷◌, Option, Some, None, if◌then◌else◌, refl, ap, arith, le-leb}
use Rattle.std.proofs.lemmas.Bool.{lt-leb}
use Rattle.lt_base.specs.declared.value.Value.{Value}
use Rattle.lt_tokens.specs.declared.token.Infix.{Infix}
use Rattle.lt_tokens.specs.declared.token.Infix.TheVariants as meet
use Rattle.lt_tokens.specs.declared.token.Token.{Token}
use Rattle.lt_tokens.specs.declared.token.Token.TheVariants as token
use Rattle.lt_syntax.specs.Levels.{Line, Expr, Impl, Disj, Conj, Comp, Sum, Product, infix_line, level, left_level, right_level}
use Rattle.lt_syntax.specs.Grammar as form
use Rattle.lt_syntax.specs.Grammar.{Form, Forms, IsAt, AreExprs, polarity, tokens, arguments, literal, joined, left_height, height, heights, meaning, meanings}
use Rattle.lt_syntax.specs.Machine.{Operand, Frame, AfterMinus, AfterNot, InParen, AfterInfix, AfterIf, AfterThen, AfterElse, Sampling, AfterMerge, FirstPart, SecondPart, InCall, Want, Named, Next, Go, name_operand, part_level, hole, ends, complete, close, stop, has_operand, go}

abbrev pub operand : Form → Operand
operand a = record { tree = meaning a; height = height a; lead = literal a }

pub height_pos : (a : Form) → 1 ≤ height a
height_pos (form.number n) = omega arith
height_pos (form.truth b) = omega arith
height_pos (form.name x) = omega arith
height_pos (form.paren a) = omega arith
height_pos (form.minus a) = omega arith
height_pos (form.negated a) = omega arith
height_pos (form.binary o a b) = omega arith
height_pos (form.choice c a b) = omega arith
height_pos (form.sampled a c b) = omega arith
height_pos (form.merged c a b) = omega arith
height_pos (form.call f xs) = omega arith

-- a left side of a meeting is not higher than its form
pub left_le : (o : Infix) (v : Option Value) (h : ℕ) → 1 ≤ h → left_height o v h ≤ h
left_le meet.Fby (Some v) h p = p
left_le meet.Arrow (Some v) h p = p
left_le meet.Fby None h p = omega arith
left_le meet.Arrow None h p = omega arith
left_le (meet.Operator o) v h p = omega arith

pub left_pos : (o : Infix) (v : Option Value) (h : ℕ) → 1 ≤ h → 1 ≤ left_height o v h
left_pos meet.Fby (Some v) h p = omega arith
left_pos meet.Arrow (Some v) h p = omega arith
left_pos meet.Fby None h p = p
left_pos meet.Arrow None h p = p
left_pos (meet.Operator o) v h p = p

-- a literal is at most one higher than its value
pub literal_low : (o : Infix) (a : Form) → height a ≤ left_height o (literal a) (height a) + 1
literal_low (meet.Operator o) a = omega arith
literal_low meet.Fby a = fby_low a
  where
    fby_low : (a : Form) → height a ≤ left_height meet.Fby (literal a) (height a) + 1
    fby_low (form.number n) = omega arith
    fby_low (form.truth b) = omega arith
    fby_low (form.minus (form.number n)) = omega arith
    fby_low _ = omega arith
literal_low meet.Arrow a = arrow_low a
  where
    arrow_low : (a : Form) → height a ≤ left_height meet.Arrow (literal a) (height a) + 1
    arrow_low (form.number n) = omega arith
    arrow_low (form.truth b) = omega arith
    arrow_low (form.minus (form.number n)) = omega arith
    arrow_low _ = omega arith

-- the table of levels
pub record Table (k : Line) : Type 0 where
  pub low : 1 ≤ level k
  pub high : level k ≤ 8
  pub lefts : level k ≤ left_level k
  pub rights : level k ≤ right_level k
  pub left_high : left_level k ≤ 8
  pub right_high : right_level k ≤ 9

pub table : (k : Line) → Table k
table Expr = record { low = omega arith; high = omega arith; lefts = omega arith; rights = omega arith; left_high = omega arith; right_high = omega arith }
table Impl = record { low = omega arith; high = omega arith; lefts = omega arith; rights = omega arith; left_high = omega arith; right_high = omega arith }
table Disj = record { low = omega arith; high = omega arith; lefts = omega arith; rights = omega arith; left_high = omega arith; right_high = omega arith }
table Conj = record { low = omega arith; high = omega arith; lefts = omega arith; rights = omega arith; left_high = omega arith; right_high = omega arith }
table Comp = record { low = omega arith; high = omega arith; lefts = omega arith; rights = omega arith; left_high = omega arith; right_high = omega arith }
table Sum = record { low = omega arith; high = omega arith; lefts = omega arith; rights = omega arith; left_high = omega arith; right_high = omega arith }
table Product = record { low = omega arith; high = omega arith; lefts = omega arith; rights = omega arith; left_high = omega arith; right_high = omega arith }

-- two lines: a form whose right part stands at the other's level is not completed by it
lines_apart : (j k : Line) → right_level j ≤ level k → level j < left_level k
lines_apart Expr k h = let t = table k in lines_expr k
  where
    lines_expr : (k : Line) → 1 < left_level k
    lines_expr Expr = omega arith
    lines_expr Impl = omega arith
    lines_expr Disj = omega arith
    lines_expr Conj = omega arith
    lines_expr Comp = omega arith
    lines_expr Sum = omega arith
    lines_expr Product = omega arith
lines_apart Impl Expr h = absurd (omega (arith, h))
lines_apart Impl Impl h = omega arith
lines_apart Impl Disj h = omega arith
lines_apart Impl Conj h = omega arith
lines_apart Impl Comp h = omega arith
lines_apart Impl Sum h = omega arith
lines_apart Impl Product h = omega arith
lines_apart Disj k h = let t = table k in omega (arith, h, t.lefts)
lines_apart Conj k h = let t = table k in omega (arith, h, t.lefts)
lines_apart Comp k h = let t = table k in omega (arith, h, t.lefts)
lines_apart Sum k h = let t = table k in omega (arith, h, t.lefts)
lines_apart Product k h = let t = table k in omega (arith, h, t.lefts)

-- the next part of a form is at its level or above
pub ends_part : (f : Frame) → ends f ≤ part_level f
ends_part AfterMinus = omega arith
ends_part AfterNot = omega arith
ends_part InParen = omega arith
ends_part (AfterInfix o a) = (table (infix_line o)).rights
ends_part AfterIf = omega arith
ends_part (AfterThen c) = omega arith
ends_part (AfterElse c a) = omega arith
ends_part (Sampling a b) = omega arith
ends_part AfterMerge = omega arith
ends_part (FirstPart c) = omega arith
ends_part (SecondPart c a) = omega arith
ends_part (InCall f xs h) = omega arith

-- a form that waits for a part at the operator's level or below isn't completed by it
pub below_left : (f : Frame) (k : Line) → part_level f ≤ level k → ends f < left_level k
below_left AfterMinus k h = let t = table k in absurd (omega (arith, h, t.high))
below_left AfterNot k h = let t = table k in omega (arith, h, t.lefts, below_five k h)
  where
    below_five : (k : Line) → 5 ≤ level k → 5 < left_level k
    below_five Expr h = absurd (omega (arith, h))
    below_five Impl h = absurd (omega (arith, h))
    below_five Disj h = absurd (omega (arith, h))
    below_five Conj h = absurd (omega (arith, h))
    below_five Comp h = omega arith
    below_five Sum h = omega arith
    below_five Product h = omega arith
below_left InParen k h = let t = table k in omega (arith, t.low, t.lefts)
below_left (AfterInfix o a) k h = lines_apart (infix_line o) k h
below_left AfterIf k h = let t = table k in omega (arith, t.low, t.lefts)
below_left (AfterThen c) k h = let t = table k in omega (arith, t.low, t.lefts)
below_left (AfterElse c a) k h = lines_apart Expr k h
below_left (Sampling a b) k h = let t = table k in omega (arith, t.low, t.lefts)
below_left AfterMerge k h = let t = table k in omega (arith, t.low, t.lefts)
below_left (FirstPart c) k h = let t = table k in omega (arith, t.low, t.lefts)
below_left (SecondPart c a) k h = let t = table k in absurd (omega (arith, h, t.high))
below_left (InCall f xs m) k h = let t = table k in omega (arith, t.low, t.lefts)

pub below_nine : (f : Frame) → part_level f ≤ 9 → ends f < 9
below_nine AfterMinus h = absurd (omega (arith, h))
below_nine AfterNot h = omega arith
below_nine InParen h = omega arith
below_nine (AfterInfix o a) h = let t = table (infix_line o) in omega (arith, t.high)
below_nine AfterIf h = omega arith
below_nine (AfterThen c) h = omega arith
below_nine (AfterElse c a) h = omega arith
below_nine (Sampling a b) h = omega arith
below_nine AfterMerge h = omega arith
below_nine (FirstPart c) h = omega arith
below_nine (SecondPart c a) h = absurd (omega (arith, h))
below_nine (InCall f xs m) h = omega arith

pub ends_high : (f : Frame) → ends f < 12
ends_high AfterMinus = omega arith
ends_high AfterNot = omega arith
ends_high InParen = omega arith
ends_high (AfterInfix o a) = let t = table (infix_line o) in omega (arith, t.high)
ends_high AfterIf = omega arith
ends_high (AfterThen c) = omega arith
ends_high (AfterElse c a) = omega arith
ends_high (Sampling a b) = omega arith
ends_high AfterMerge = omega arith
ends_high (FirstPart c) = omega arith
ends_high (SecondPart c a) = omega arith
ends_high (InCall f xs m) = omega arith

-- no form is completed
pub kept : (l : ℕ) (fs : List Frame) (a : Operand) (k : List Frame → Operand → Next) → ((f : Frame) → part_level f ≤ hole fs → hole fs ≤ part_level f → ends f < l) → close l fs a k ≡ k fs a
kept l [] a k h = refl
kept l (f ∷ fs) a k h = ap (λ b. if b then close l fs (complete f a) k else k (f ∷ fs) a) (lt-leb l (ends f) (h f (omega arith) (omega arith)))

pub kept_high : (fs : List Frame) (a : Operand) (k : List Frame → Operand → Next) → close 12 fs a k ≡ k fs a
kept_high fs a k = kept 12 fs a k (λ f g h. ends_high f)

pub kept_infix : (j : Line) (fs : List Frame) (a : Operand) (k : List Frame → Operand → Next) → hole fs ≤ level j → close (left_level j) fs a k ≡ k fs a
kept_infix j fs a k h = kept (left_level j) fs a k (λ f p q. below_left f j (omega (arith, p, h)))

pub kept_when : (fs : List Frame) (a : Operand) (k : List Frame → Operand → Next) → hole fs ≤ 9 → close 9 fs a k ≡ k fs a
kept_when fs a k h = kept 9 fs a k (λ f p q. below_nine f (omega (arith, p, h)))

-- a token completes the newest form
pub ended : (l : ℕ) (f : Frame) (fs : List Frame) (a : Operand) (k : List Frame → Operand → Next) → l ≤ ends f → close l (f ∷ fs) a k ≡ close l fs (complete f a) k
ended l f fs a k h = ap (λ b. if b then close l fs (complete f a) k else k (f ∷ fs) a) (le-leb l (ends f) h)

-- a name that is no call's
pub not_call : (x : List ℕ) (fs : List Frame) (t : Token) → stop t ≤ max 11 (hole fs) → go (Named x) fs t ≡ has_operand fs (name_operand x) t
not_call x fs token.Open h = ap (λ b. if b then Go (InCall x [] 0 ∷ fs) Want else has_operand fs (name_operand x) token.Open) (lt-leb (hole fs) 11 (omega (arith, h)))
not_call x fs _ h = refl

-- - before a form
pub negative_of : (a : Form) → IsAt 11 a → complete AfterMinus (operand a) ≡ operand (form.minus a)
negative_of (form.number v) at = refl
negative_of (form.minus a) at = absurd (omega (arith, at.0))
negative_of _ at = refl
