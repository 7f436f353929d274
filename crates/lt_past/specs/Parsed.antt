-- What the values of the reader stand for.
use Rattle.std.specs.Prelude.{◌≡◌, ℕ, List, [], ◌∷◌, map, reverse, Option, Some, None, Result, Ok, Err}
use Rattle.lt_base.specs.declared.memory.Memory.{Memory}
use Rattle.lt_base.specs.declared.memory.Or.{Or}
use Rattle.lt_base.specs.declared.memory.Or.TheVariants as or
use Rattle.lt_past.specs.declared.fault.ObserverKind.{ObserverKind}
use Rattle.lt_past.specs.declared.fault.ObserverKind.TheVariants.{Unexpected}
use Rattle.lt_past.specs.declared.fault.ObserverFault.{ObserverFault}
use Rattle.lt_past.specs.declared.formula.Obs.{Obs}
use Rattle.lt_past.specs.declared.parser.Operand as code
use Rattle.lt_past.specs.declared.parser.Parser.{Parser}
use Rattle.lt_past.specs.declared.parser.Frame.{Frame}
use Rattle.lt_past.specs.declared.parser.Frame.TheVariants as frame
use Rattle.lt_past.specs.Formula.{Formula}
use Rattle.lt_past.specs.Grammar.{ObserverForm, formula_meaning}
use Rattle.lt_past.specs.Spelled.{SpellsObserver}
use Rattle.lt_past.specs.Faults.{IsSyntaxFault}
use Rattle.lt_past.specs.Views.{formula_of}
use Rattle.lt_past.specs.Machine as machine

abbrev pub observer_operand_of : code.Operand → machine.ObserverOperand
observer_operand_of a = record { formula = formula_of a.formula; height = a.height }

abbrev pub observer_frame_of : Frame → machine.ObserverFrame
observer_frame_of frame.Opened = machine.opened
observer_frame_of (frame.Prefixed p) = machine.prefixed p
observer_frame_of (frame.Joined o a) = machine.joined o (observer_operand_of a)

-- the begun forms, the newest first; in memory it is the last
abbrev pub observer_stack_of : List Frame → List machine.ObserverFrame
observer_stack_of fs = map observer_frame_of (reverse fs)

abbrev pub observer_whole_of : Option code.Operand → Option machine.ObserverOperand
observer_whole_of None = None
observer_whole_of (Some a) = Some (observer_operand_of a)

abbrev pub observer_state_of : Parser → machine.ObserverState
observer_state_of p = record { frames = observer_stack_of p.frames.items; whole = observer_whole_of p.whole }

abbrev pub observer_top_ends : List machine.ObserverFrame → ℕ
observer_top_ends [] = 0
observer_top_ends (f ∷ fs) = machine.observer_ends f

-- the next state, unless memory ran out
abbrev pub ObserverSteps : Result Parser (Or ObserverKind) → Result machine.ObserverState ObserverKind → Type 0
ObserverSteps (Ok p) r = r ≡ Ok (observer_state_of p)
ObserverSteps (Err (or.Fault k)) r = r ≡ Err k
ObserverSteps (Err or.Memory) r = Unit {0}

-- the formula of the whole text, where it may end
abbrev pub FindsFormula : Result (Option Obs) Memory → Option Formula → Type 0
FindsFormula (Ok None) r = r ≡ None
FindsFormula (Ok (Some f)) r = r ≡ Some (formula_of f)
FindsFormula (Err m) r = Unit {0}

-- the same at a place
abbrev pub ObserverStepsAt : ℕ → Result Parser (Or ObserverKind) → Result Parser (Or ObserverFault) → Type 0
ObserverStepsAt at (Ok p) r = r ≡ Ok p
ObserverStepsAt at (Err (or.Fault k)) r = r ≡ Err (or.Fault (record { at = at; kind = k }))
ObserverStepsAt at (Err or.Memory) r = r ≡ Err or.Memory

-- the formula of the whole text, or that it may not end at this place
abbrev pub ObserverEndsAt : ℕ → Result Obs (Or ObserverFault) → Option Formula → Type 0
ObserverEndsAt at (Ok f) r = r ≡ Some (formula_of f)
ObserverEndsAt at (Err (or.Fault f)) r = (r ≡ None) × (f ≡ record { at = at; kind = Unexpected })
ObserverEndsAt at (Err or.Memory) r = Unit {0}

-- the formula that the bytes spell
pub record IsFormulaOf (limit : ℕ) (number : List ℕ → ℕ) (bytes : List ℕ) (f : Formula) : Type 0 where
  pub form : ObserverForm
  pub spelled : SpellsObserver limit bytes form
  pub meant : f ≡ formula_meaning number form

-- it, or the first offending place
abbrev pub Parses : ℕ → (List ℕ → ℕ) → List ℕ → Result Obs (Or ObserverFault) → Type 0
Parses limit number bytes (Ok f) = IsFormulaOf limit number bytes (formula_of f)
Parses limit number bytes (Err (or.Fault f)) = IsSyntaxFault limit bytes f
Parses limit number bytes (Err or.Memory) = Unit {0}
