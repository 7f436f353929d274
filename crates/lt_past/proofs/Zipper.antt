-- What the machine has taken is written by what it holds.
use Rattle.std.proofs.Common.{◌≡◌, ℕ, ◌+◌, ◌<◌, ◌≤◌, List, [], ◌∷◌, Option, Some, None, refl, arith}
use Rattle.lt_past.specs.declared.words.Prefix.{Prefix}
use Rattle.lt_past.specs.declared.words.Infix.{Infix}
use Rattle.lt_past.specs.declared.words.Infix.TheVariants.{And, Or, Since, Implies}
use Rattle.lt_past.specs.declared.words.Sign.TheVariants as word
use Rattle.lt_past.specs.Tokens.{Token, sign}
use Rattle.lt_past.specs.Levels.{observer_level, observer_left_level, observer_right_level}
use Rattle.lt_past.specs.Grammar as form
use Rattle.lt_past.specs.Grammar.{ObserverForm, ObserverFormIsAt, formula_tokens, formula_height, formula_meaning}
use Rattle.lt_past.specs.Machine.{ObserverOperand, ObserverFrame, opened, prefixed, joined, observer_part_level, observer_hole, observer_ends, observer_complete, observer_least_height}

pub height_pos : (a : ObserverForm) → 1 ≤ formula_height a
height_pos (form.truth b) = omega arith
height_pos (form.named x) = omega arith
height_pos (form.paren a) = omega arith
height_pos (form.prefixed p a) = omega arith
height_pos (form.joined o a b) = omega arith

-- the table of levels
pub record Table (o : Infix) : Type 0 where
  pub low : 1 ≤ observer_level o
  pub high : observer_level o ≤ 4
  pub lefts : observer_level o ≤ observer_left_level o
  pub rights : observer_level o ≤ observer_right_level o
  pub left_low : 2 ≤ observer_left_level o
  pub left_high : observer_left_level o ≤ 4
  pub right_high : observer_right_level o ≤ 5

pub table : (o : Infix) → Table o
table Implies = record { low = omega arith; high = omega arith; lefts = omega arith; rights = omega arith; left_low = omega arith; left_high = omega arith; right_high = omega arith }
table Since = record { low = omega arith; high = omega arith; lefts = omega arith; rights = omega arith; left_low = omega arith; left_high = omega arith; right_high = omega arith }
table Or = record { low = omega arith; high = omega arith; lefts = omega arith; rights = omega arith; left_low = omega arith; left_high = omega arith; right_high = omega arith }
table And = record { low = omega arith; high = omega arith; lefts = omega arith; rights = omega arith; left_low = omega arith; left_high = omega arith; right_high = omega arith }

-- a form that a word does not complete waits for a part that the word may join, and the other way round
pub may_join : (j k : Infix) → observer_level j < observer_left_level k → observer_right_level j ≤ observer_level k
may_join Implies k h = (table k).low
may_join Since Implies h = absurd (omega (arith, h))
may_join Since Since h = absurd (omega (arith, h))
may_join Since Or h = omega arith
may_join Since And h = omega arith
may_join Or Implies h = absurd (omega (arith, h))
may_join Or Since h = absurd (omega (arith, h))
may_join Or Or h = absurd (omega (arith, h))
may_join Or And h = omega arith
may_join And k h = let t = table k in absurd (omega (arith, h, t.left_high))

pub not_completed : (j k : Infix) → observer_right_level j ≤ observer_level k → observer_level j < observer_left_level k
not_completed Implies k h = (table k).left_low
not_completed Since Implies h = absurd (omega (arith, h))
not_completed Since Since h = absurd (omega (arith, h))
not_completed Since Or h = omega arith
not_completed Since And h = omega arith
not_completed Or Implies h = absurd (omega (arith, h))
not_completed Or Since h = absurd (omega (arith, h))
not_completed Or Or h = absurd (omega (arith, h))
not_completed Or And h = omega arith
not_completed And k h = let t = table k in absurd (omega (arith, h, t.high))

pub at_lower : (a : ObserverForm) (l m : ℕ) → l ≤ m → ObserverFormIsAt m a → ObserverFormIsAt l a
at_lower (form.truth b) l m h at = omega arith
at_lower (form.named x) l m h at = omega arith
at_lower (form.paren a) l m h at = (omega arith, at.1)
at_lower (form.prefixed p a) l m h at = (omega arith, at.1)
at_lower (form.joined o a b) l m h at = (omega arith, at.1, at.2)

pub hole_le : (fs : List ObserverFrame) → observer_hole fs ≤ 5
hole_le [] = omega arith
hole_le (opened ∷ fs) = omega arith
hole_le (prefixed p ∷ fs) = omega arith
hole_le (joined o a ∷ fs) = (table o).right_high

-- a form that is begun, with its first part as it is written
pub data Begun : Type 0 where
  z_paren : Begun
  z_prefix : Prefix → Begun
  z_infix : Infix → ObserverForm → Begun

-- what is written of it
abbrev pub leads : Begun → List Token → List Token
leads z_paren r = sign word.Open ∷ r
leads (z_prefix p) r = sign (word.Before p) ∷ r
leads (z_infix o a) r = formula_tokens a (sign (word.Between o) ∷ r)

abbrev pub all_leads : List Begun → List Token → List Token
all_leads [] r = r
all_leads (z ∷ zs) r = all_leads zs (leads z r)

abbrev pub held : Option ObserverForm → List Token → List Token
held None r = r
held (Some a) r = formula_tokens a r

-- a form that is begun where the grammar asks for level l
abbrev pub IsBegun : ℕ → Begun → Type 0
IsBegun l z_paren = l ≤ 6
IsBegun l (z_prefix p) = l ≤ 5
IsBegun l (z_infix o a) = (l ≤ observer_level o) × ObserverFormIsAt (observer_left_level o) a

-- the form with its last part
abbrev pub closing : Begun → ObserverForm → ObserverForm
closing z_paren b = b
closing (z_prefix p) b = form.prefixed p b
closing (z_infix o a) b = form.joined o a b

module _ (number : List ℕ → ℕ) where
  abbrev pub operand : ObserverForm → ObserverOperand
  operand a = record { formula = formula_meaning number a; height = formula_height a }

  abbrev pub frame : Begun → ObserverFrame
  frame z_paren = opened
  frame (z_prefix p) = prefixed p
  frame (z_infix o a) = joined o (operand a)

  abbrev pub stack : List Begun → List ObserverFrame
  stack [] = []
  stack (z ∷ zs) = frame z ∷ stack zs

  abbrev pub whole_form : Option ObserverForm → Option ObserverOperand
  whole_form None = None
  whole_form (Some a) = Some (operand a)

  pub record Completes (z : Begun) (l : ℕ) (b : ObserverForm) : Type 0 where
    pub is : observer_complete (frame z) (operand b) ≡ operand (closing z b)
    pub at : ObserverFormIsAt (observer_ends (frame z)) (closing z b)
    pub below : l ≤ observer_ends (frame z)
    pub text : (r : List Token) → leads z (formula_tokens b r) ≡ formula_tokens (closing z b) r

  le_refl : (n : ℕ) → n ≤ n
  le_refl n = omega arith

  pub completes : (z : Begun) (l : ℕ) (b : ObserverForm) → IsBegun l z → ObserverFormIsAt (observer_part_level (frame z)) b → 1 ≤ observer_ends (frame z) → Completes z l b
  completes z_paren l b g at h = absurd (omega (arith, h))
  completes (z_prefix p) l b g at h = record { is = refl; at = (omega arith, at); below = g; text = λ r. refl }
  completes (z_infix o a) l b g at h = record { is = refl; at = (le_refl (observer_level o), g.1, at); below = g.0; text = λ r. refl }

  pub room_for : (limit : ℕ) (z : Begun) (n : ℕ) (b : ObserverForm) → n + observer_least_height (frame z) ≤ limit → n + 1 + formula_height b ≤ limit → 1 ≤ observer_ends (frame z) → n + formula_height (closing z b) ≤ limit
  room_for limit z_paren n b h k e = absurd (omega (arith, e))
  room_for limit (z_prefix p) n b h k e = omega arith
  room_for limit (z_infix o a) n b h k e = omega arith
