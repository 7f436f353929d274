-- What the machine has taken is written by what it holds.
use Rattle.std.proofs.Common.{◌≡◌, ℕ, ◌+◌, ◌≤◌, max, Bool, List, [], ◌∷◌, ◌++◌, map, None, refl, ap, ap₂, ◌∙◌, arith}
use Rattle.lt_base.specs.declared.operators.Bin.TheVariants.{Sub}
use Rattle.lt_tokens.specs.declared.token.Infix.{Infix}
use Rattle.lt_tokens.specs.declared.token.Infix.TheVariants as meet
use Rattle.lt_tokens.specs.declared.token.Token.{Token}
use Rattle.lt_tokens.specs.declared.token.Token.TheVariants as token
use Rattle.lt_syntax.specs.Tree as tree
use Rattle.lt_syntax.specs.Tree.{Tm, tms}
use Rattle.lt_syntax.specs.Levels.{infix_line, level, left_level}
use Rattle.lt_syntax.specs.Grammar as form
use Rattle.lt_syntax.specs.Grammar.{Form, Forms, IsAt, AreExprs, polarity, tokens, arguments, literal, joined, left_height, height, heights, meaning, meanings}
use Rattle.lt_syntax.specs.Machine.{Frame, AfterMinus, AfterNot, InParen, AfterInfix, AfterIf, AfterThen, AfterElse, Sampling, AfterMerge, FirstPart, SecondPart, InCall, Mode, Want, Named, Has, WantClock, call_of, part_level, hole, ends, complete, least_height}
use Rattle.lt_syntax.proofs.Complete.{operand, table, negative_of}

-- a form that is begun, with its parts as they are written
pub data Begun : Type 0 where
  z_minus : Begun
  z_not : Begun
  z_paren : Begun
  z_infix : Infix → Form → Begun
  z_if : Begun
  z_then : Form → Begun
  z_else : Form → Form → Begun
  z_sampling : Form → Bool → Begun
  z_merge : Begun
  z_first : List ℕ → Begun
  z_second : List ℕ → Form → Begun
  z_call : List ℕ → List Form → Begun

pub data Holding : Type 0 where
  z_want : Holding
  z_named : List ℕ → Holding
  z_has : Form → Holding
  z_clock : Holding

abbrev pub tallest : List Form → ℕ
tallest [] = 0
tallest (a ∷ xs) = max (height a) (tallest xs)

abbrev pub frame : Begun → Frame
frame z_minus = AfterMinus
frame z_not = AfterNot
frame z_paren = InParen
frame (z_infix o a) = AfterInfix o (operand a)
frame z_if = AfterIf
frame (z_then c) = AfterThen (operand c)
frame (z_else c a) = AfterElse (operand c) (operand a)
frame (z_sampling a b) = Sampling (operand a) b
frame z_merge = AfterMerge
frame (z_first c) = FirstPart c
frame (z_second c a) = SecondPart c (operand a)
frame (z_call f xs) = InCall f (map meaning xs) (tallest xs)

abbrev pub stack : List Begun → List Frame
stack [] = []
stack (z ∷ zs) = frame z ∷ stack zs

abbrev pub mode : Holding → Mode
mode z_want = Want
mode (z_named x) = Named x
mode (z_has a) = Has (operand a)
mode z_clock = WantClock

-- each with a comma behind it
abbrev pub commas : List Form → List Token → List Token
commas [] r = r
commas (a ∷ xs) r = tokens a (token.Comma ∷ commas xs r)

abbrev pub opened : Begun → List Token → List Token
opened z_minus r = token.Infix (meet.Operator Sub) ∷ r
opened z_not r = token.Not ∷ r
opened z_paren r = token.Open ∷ r
opened (z_infix o a) r = tokens a (token.Infix o ∷ r)
opened z_if r = token.If ∷ r
opened (z_then c) r = token.If ∷ tokens c (token.Then ∷ r)
opened (z_else c a) r = token.If ∷ tokens c (token.Then ∷ tokens a (token.Else ∷ r))
opened (z_sampling a b) r = tokens a (token.When ∷ polarity b r)
opened z_merge r = token.Merge ∷ r
opened (z_first c) r = token.Merge ∷ token.Ident c ∷ r
opened (z_second c a) r = token.Merge ∷ token.Ident c ∷ tokens a r
opened (z_call f xs) r = token.Ident f ∷ token.Open ∷ commas xs r

abbrev pub all_opened : List Begun → List Token → List Token
all_opened [] r = r
all_opened (z ∷ zs) r = all_opened zs (opened z r)

abbrev pub held : Holding → List Token → List Token
held z_want r = r
held (z_named x) r = token.Ident x ∷ r
held (z_has a) r = tokens a r
held z_clock r = r

abbrev pub AllExprs : List Form → Type 0
AllExprs [] = Unit {0}
AllExprs (a ∷ xs) = IsAt 1 a × AllExprs xs

-- a form that is begun where the grammar asks for level l
abbrev pub IsBegun : ℕ → Begun → Type 0
IsBegun l z_minus = l ≤ 10
IsBegun l z_not = l ≤ 5
IsBegun l z_paren = l ≤ 12
IsBegun l (z_infix o a) = (l ≤ level (infix_line o)) × IsAt (left_level (infix_line o)) a
IsBegun l z_if = l ≤ 1
IsBegun l (z_then c) = (l ≤ 1) × IsAt 1 c
IsBegun l (z_else c a) = (l ≤ 1) × IsAt 1 c × IsAt 1 a
IsBegun l (z_sampling a b) = (l ≤ 9) × IsAt 9 a
IsBegun l z_merge = l ≤ 11
IsBegun l (z_first c) = l ≤ 11
IsBegun l (z_second c a) = (l ≤ 11) × IsAt 12 a
IsBegun l (z_call f xs) = (l ≤ 11) × AllExprs xs

abbrev pub Waits : List Begun → Type 0
Waits (z_sampling a b ∷ zs) = Unit {0}
Waits (z_merge ∷ zs) = Unit {0}
Waits _ = ⊥

-- an operand may stand on top of these
abbrev pub Ready : List Begun → Type 0
Ready (z_sampling a b ∷ zs) = ⊥
Ready (z_merge ∷ zs) = ⊥
Ready _ = Unit {0}

-- the form with its last part
abbrev pub closing : Begun → Form → Form
closing z_minus b = form.minus b
closing z_not b = form.negated b
closing (z_infix o a) b = form.binary o a b
closing (z_else c a) b = form.choice c a b
closing (z_second c a) b = form.merged c a b
closing _ b = b

abbrev pub forms : List Form → Forms
forms [] = form.nil
forms (a ∷ xs) = form.cons a (forms xs)

pub at_lower : (a : Form) (l m : ℕ) → l ≤ m → IsAt m a → IsAt l a
at_lower (form.number n) l m h at = omega arith
at_lower (form.truth b) l m h at = omega arith
at_lower (form.name x) l m h at = omega arith
at_lower (form.paren a) l m h at = (omega arith, at.1)
at_lower (form.minus a) l m h at = (omega arith, at.1)
at_lower (form.negated a) l m h at = (omega arith, at.1)
at_lower (form.binary o a b) l m h at = (omega arith, at.1, at.2)
at_lower (form.choice c a b) l m h at = (omega arith, at.1, at.2, at.3)
at_lower (form.sampled a c b) l m h at = (omega arith, at.1)
at_lower (form.merged c a b) l m h at = (omega arith, at.1, at.2)
at_lower (form.call f xs) l m h at = (omega arith, at.1)

part_le : (f : Frame) → part_level f ≤ 12
part_le AfterMinus = omega arith
part_le AfterNot = omega arith
part_le (AfterInfix o a) = omega (arith, (table (infix_line o)).right_high)
part_le (FirstPart c) = omega arith
part_le (SecondPart c a) = omega arith
part_le _ = omega arith

pub hole_le : (fs : List Frame) → hole fs ≤ 12
hole_le [] = omega arith
hole_le (f ∷ fs) = part_le f

-- one more argument
pub meanings_snoc : (xs : List Form) (a : Form) → map meaning xs ++ meaning a ∷ [] ≡ map meaning (xs ++ a ∷ [])
meanings_snoc [] a = refl
meanings_snoc (x ∷ xs) a = ap (λ z. meaning x ∷ z) (meanings_snoc xs a)

pub tallest_snoc : (xs : List Form) (a : Form) → max (tallest xs) (height a) ≡ tallest (xs ++ a ∷ [])
tallest_snoc [] a = omega arith
tallest_snoc (x ∷ xs) a = let h = tallest_snoc xs a in omega (arith, h)

pub commas_snoc : (xs : List Form) (a : Form) (r : List Token) → commas (xs ++ a ∷ []) r ≡ commas xs (tokens a (token.Comma ∷ r))
commas_snoc [] a r = refl
commas_snoc (x ∷ xs) a r = ap (λ z. tokens x (token.Comma ∷ z)) (commas_snoc xs a r)

pub exprs_snoc : (xs : List Form) (a : Form) → AllExprs xs → IsAt 1 a → AllExprs (xs ++ a ∷ [])
exprs_snoc [] a e h = (h, tt)
exprs_snoc (x ∷ xs) a e h = (e.0, exprs_snoc xs a e.1 h)

pub arguments_snoc : (xs : List Form) (a : Form) (r : List Token) → arguments (forms (xs ++ a ∷ [])) r ≡ commas xs (tokens a r)
arguments_snoc [] a r = refl
arguments_snoc (x ∷ []) a r = refl
arguments_snoc (x ∷ y ∷ xs) a r = ap (λ z. tokens x (token.Comma ∷ z)) (arguments_snoc (y ∷ xs) a r)

pub forms_meant : (xs : List Form) → tms (map meaning xs) ≡ meanings (forms xs)
forms_meant [] = refl
forms_meant (a ∷ xs) = ap (tree.Cons (meaning a)) (forms_meant xs)

pub forms_tall : (xs : List Form) → tallest xs ≡ heights (forms xs)
forms_tall [] = refl
forms_tall (a ∷ xs) = ap (max (height a)) (forms_tall xs)

pub forms_exprs : (xs : List Form) → AllExprs xs → AreExprs (forms xs)
forms_exprs [] e = tt
forms_exprs (a ∷ xs) e = (e.0, forms_exprs xs e.1)

-- a whole call
pub call_is : (f : List ℕ) (xs : List Form) → call_of f (map meaning xs) (tallest xs) ≡ operand (form.call f (forms xs))
call_is f xs = ap₂ (λ us m. record { tree = tree.Call f us; height = max 1 m + 1; lead = None }) (forms_meant xs) (forms_tall xs)

pub call_more : (f : List ℕ) (xs : List Form) (a : Form) → call_of f (map meaning xs ++ meaning a ∷ []) (max (tallest xs) (height a)) ≡ operand (form.call f (forms (xs ++ a ∷ [])))
call_more f xs a = ap₂ (call_of f) (meanings_snoc xs a) (tallest_snoc xs a) ∙ call_is f (xs ++ a ∷ [])

pub record Completes (z : Begun) (l : ℕ) (b : Form) : Type 0 where
  pub is : complete (frame z) (operand b) ≡ operand (closing z b)
  pub at : IsAt (ends (frame z)) (closing z b)
  pub below : l ≤ ends (frame z)
  pub text : (r : List Token) → opened z (tokens b r) ≡ tokens (closing z b) r

le_refl : (n : ℕ) → n ≤ n
le_refl n = omega arith

pub completes : (z : Begun) (l : ℕ) (b : Form) → IsBegun l z → IsAt (part_level (frame z)) b → 1 ≤ ends (frame z) → Completes z l b
completes z_minus l b g at h = record { is = negative_of b at; at = (omega arith, at); below = g; text = λ r. refl }
completes z_not l b g at h = record { is = refl; at = (omega arith, at); below = g; text = λ r. refl }
completes (z_infix o a) l b g at h = record { is = refl; at = (le_refl (level (infix_line o)), g.1, at); below = g.0; text = λ r. refl }
completes (z_else c a) l b g at h = record { is = refl; at = (omega arith, g.1, g.2, at); below = g.0; text = λ r. refl }
completes (z_second c a) l b g at h = record { is = refl; at = (omega arith, g.1, at); below = g.0; text = λ r. refl }
completes z_paren l b g at h = absurd (omega (arith, h))
completes z_if l b g at h = absurd (omega (arith, h))
completes (z_then c) l b g at h = absurd (omega (arith, h))
completes (z_sampling a v) l b g at h = absurd (omega (arith, h))
completes z_merge l b g at h = absurd (omega (arith, h))
completes (z_first c) l b g at h = absurd (omega (arith, h))
completes (z_call f xs) l b g at h = absurd (omega (arith, h))

pub room_for : (limit : ℕ) (z : Begun) (n : ℕ) (b : Form) → n + least_height (frame z) ≤ limit → n + 1 + height b ≤ limit → 1 ≤ ends (frame z) → n + height (closing z b) ≤ limit
room_for limit z_minus n b h k e = omega arith
room_for limit z_not n b h k e = omega arith
room_for limit (z_infix o a) n b h k e = omega arith
room_for limit (z_else c a) n b h k e = omega arith
room_for limit (z_second c a) n b h k e = omega arith
room_for limit z_paren n b h k e = omega arith
room_for limit z_if n b h k e = omega arith
room_for limit (z_then c) n b h k e = omega arith
room_for limit (z_sampling a v) n b h k e = omega arith
room_for limit z_merge n b h k e = omega arith
room_for limit (z_first c) n b h k e = omega arith
room_for limit (z_call f xs) n b h k e = omega arith
