-- What reading an observer answers.
use Rattle.std.specs.Prelude.{ℕ, ◌≡◌, List, Result, Ok, Err, ⊤}
use Rattle.lt_base.specs.declared.memory.Or.{Or}
use Rattle.lt_base.specs.declared.memory.Or.TheVariants as or
use Rattle.lt_base.specs.Program.{Function}
use Rattle.lt_past.specs.declared.fault.ObserverFault.{ObserverFault}
use Rattle.lt_past.specs.Observer.{Observing}
use Rattle.lt_past.specs.Faults.{IsObserverOf, IsObserverFault}

-- The bytes are this observer, or this is their first fault.
abbrev pub AnswersObserver : ℕ → Function → List ℕ → Result Observing (Or ObserverFault) → Type 0
AnswersObserver limit main bytes (Ok o) = IsObserverOf limit main bytes o
AnswersObserver limit main bytes (Err (or.Fault f)) = IsObserverFault limit main bytes f
AnswersObserver limit main bytes (Err or.Memory) = ⊤

-- this observer, unless memory ran out
abbrev pub FindsObserver : Observing → Result Observing (Or ObserverFault) → Type 0
FindsObserver o (Ok p) = p ≡ o
FindsObserver o (Err (or.Fault f)) = ⊥
FindsObserver o (Err or.Memory) = ⊤
