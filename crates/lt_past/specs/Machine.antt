-- The reader of observers as a machine that takes one token at a time: the formulas that are begun, the newest first, and the operand
-- that is whole, where one is.
use Rattle.std.specs.Prelude.{ℕ, ◌+◌, ◌≤◌, max, List, [], ◌∷◌, length, nat_le, Option, Some, None, Result, Ok, Err, if◌then◌else◌}
use Rattle.lt_past.specs.declared.words.Prefix.{Prefix}
use Rattle.lt_past.specs.declared.words.Infix.{Infix}
use Rattle.lt_past.specs.declared.words.Sign.TheVariants.{Truth, Before, Between, Open, Close}
use Rattle.lt_past.specs.declared.fault.ObserverKind.{ObserverKind}
use Rattle.lt_past.specs.declared.fault.ObserverKind.TheVariants.{Unexpected, TooDeep}
use Rattle.lt_past.specs.Formula.{Formula, constant, signal, unary, binary}
use Rattle.lt_past.specs.Tokens.{Token, name, sign}
use Rattle.lt_past.specs.Levels.{observer_level, observer_left_level, observer_right_level}

-- a whole operand: its formula, and the height of its text
pub record ObserverOperand : Type 0 where
  pub formula : Formula
  pub height : ℕ

-- a form that is begun, and waits for its next part
pub data ObserverFrame : Type 0 where
  opened : ObserverFrame
  prefixed : Prefix → ObserverFrame
  joined : Infix → ObserverOperand → ObserverFrame

pub record ObserverState : Type 0 where
  pub frames : List ObserverFrame
  pub whole : Option ObserverOperand

abbrev pub leaf_of : Formula → ObserverOperand
leaf_of f = record { formula = f; height = 1 }

abbrev pub observer_paren_of : ObserverOperand → ObserverOperand
observer_paren_of a = record { formula = a.formula; height = a.height + 1 }

-- the level that the next part must have
abbrev pub observer_part_level : ObserverFrame → ℕ
observer_part_level opened = 1
observer_part_level (prefixed p) = 5
observer_part_level (joined o a) = observer_right_level o

abbrev pub observer_hole : List ObserverFrame → ℕ
observer_hole [] = 1
observer_hole (f ∷ fs) = observer_part_level f

-- the level of a form that its next part completes; 0 where ) must follow
abbrev pub observer_ends : ObserverFrame → ℕ
observer_ends opened = 0
observer_ends (prefixed p) = 5
observer_ends (joined o a) = observer_level o

-- the form with its last part
abbrev pub observer_complete : ObserverFrame → ObserverOperand → ObserverOperand
observer_complete opened b = b
observer_complete (prefixed p) b = record { formula = unary p b.formula; height = b.height + 1 }
observer_complete (joined o a) b = record { formula = binary o a.formula b.formula; height = max a.height b.height + 1 }

-- an operand on top of begun forms
pub record Top : Type 0 where
  pub below : List ObserverFrame
  pub operand : ObserverOperand

-- the forms from this level on are completed
abbrev pub observer_close : ℕ → List ObserverFrame → ObserverOperand → Top
observer_close l [] a = record { below = []; operand = a }
observer_close l (f ∷ fs) a = if nat_le l (observer_ends f) then observer_close l fs (observer_complete f a) else record { below = f ∷ fs; operand = a }

-- the least height of what the newest form may become
abbrev pub observer_least_height : ObserverFrame → ℕ
observer_least_height opened = 2
observer_least_height (prefixed p) = 2
observer_least_height (joined o a) = a.height + 1

abbrev pub observer_need : List ObserverFrame → ℕ
observer_need [] = 1
observer_need (f ∷ fs) = length fs + observer_least_height f

-- an operand must come, where the newest form may be low enough
abbrev pub fitting : ℕ → List ObserverFrame → Result ObserverState ObserverKind
fitting limit fs = if nat_le (observer_need fs) limit then Ok (record { frames = fs; whole = None }) else Err TooDeep

-- an operand that is whole by itself
abbrev pub leaf : Formula → List ObserverFrame → Option ObserverOperand → Result ObserverState ObserverKind
leaf f fs None = Ok (record { frames = fs; whole = Some (leaf_of f) })
leaf f fs (Some a) = Err Unexpected

-- a form begins with a word or ( before its operand
abbrev pub begin : ℕ → ObserverFrame → List ObserverFrame → Option ObserverOperand → Result ObserverState ObserverKind
begin limit f fs None = fitting limit (f ∷ fs)
begin limit f fs (Some a) = Err Unexpected

abbrev pub observer_joining : ℕ → Infix → Top → Result ObserverState ObserverKind
observer_joining limit o t = fitting limit (joined o t.operand ∷ t.below)

-- a word or symbol between operands
abbrev pub join : ℕ → Infix → List ObserverFrame → Option ObserverOperand → Result ObserverState ObserverKind
join limit o fs None = Err Unexpected
join limit o fs (Some a) = observer_joining limit o (observer_close (observer_left_level o) fs a)

abbrev pub shut_on : List ObserverFrame → ObserverOperand → Result ObserverState ObserverKind
shut_on (opened ∷ fs) a = Ok (record { frames = fs; whole = Some (observer_paren_of a) })
shut_on _ a = Err Unexpected

abbrev pub shutting : Top → Result ObserverState ObserverKind
shutting t = shut_on t.below t.operand

-- )
abbrev pub shut : List ObserverFrame → Option ObserverOperand → Result ObserverState ObserverKind
shut fs None = Err Unexpected
shut fs (Some a) = shutting (observer_close 1 fs a)

-- one token, where each name has a number
abbrev pub observer_step : ℕ → (List ℕ → ℕ) → ObserverState → Token → Result ObserverState ObserverKind
observer_step limit number s (name x) = leaf (signal (number x)) s.frames s.whole
observer_step limit number s (sign (Truth b)) = leaf (constant b) s.frames s.whole
observer_step limit number s (sign (Before p)) = begin limit (prefixed p) s.frames s.whole
observer_step limit number s (sign Open) = begin limit opened s.frames s.whole
observer_step limit number s (sign (Between o)) = join limit o s.frames s.whole
observer_step limit number s (sign Close) = shut s.frames s.whole

-- the machine over all the tokens
abbrev pub observer_on : Result ObserverState ObserverKind → (ObserverState → Result ObserverState ObserverKind) → Result ObserverState ObserverKind
observer_on (Ok s) k = k s
observer_on (Err e) k = Err e

abbrev pub observer_run : ℕ → (List ℕ → ℕ) → ObserverState → List Token → Result ObserverState ObserverKind
observer_run limit number s [] = Ok s
observer_run limit number s (t ∷ ts) = observer_on (observer_step limit number s t) (λ s'. observer_run limit number s' ts)

-- nothing is read yet
abbrev pub observer_start : ObserverState
observer_start = record { frames = []; whole = None }

-- the formula, where the text may end here
abbrev pub end_on : List ObserverFrame → ObserverOperand → Option Formula
end_on [] a = Some a.formula
end_on (f ∷ fs) a = None

abbrev pub ending : Top → Option Formula
ending t = end_on t.below t.operand

abbrev pub end_of : List ObserverFrame → Option ObserverOperand → Option Formula
end_of fs None = None
end_of fs (Some a) = ending (observer_close 1 fs a)

-- each begun form fits the limit
abbrev pub ObserverRoomy : ℕ → List ObserverFrame → Type 0
ObserverRoomy limit [] = Unit {0}
ObserverRoomy limit (f ∷ fs) = (observer_need (f ∷ fs) ≤ limit) × ObserverRoomy limit fs

-- the operand fits where it stands
abbrev pub ObserverHasRoom : ℕ → List ObserverFrame → ObserverOperand → Type 0
ObserverHasRoom limit fs a = (length fs + a.height ≤ limit) × ObserverRoomy limit fs

-- and so does what is held
abbrev pub ObserverHeld : ℕ → List ObserverFrame → Option ObserverOperand → Type 0
ObserverHeld limit fs None = Unit {0}
ObserverHeld limit fs (Some a) = ObserverHasRoom limit fs a
