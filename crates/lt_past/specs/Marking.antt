-- What going over the names of a text gives.
use Rattle.std.specs.Prelude.{ℕ, ◌≡◌, Bool, true, false, if◌then◌else◌, List, filter, slice_index_or, Option, Some, None}
use Rattle.lt_base.specs.Program.{Function}
use Rattle.lt_tokens.specs.Text.{skip}
use Rattle.lt_past.specs.declared.fault.ObserverFault.{ObserverFault}
use Rattle.lt_past.specs.Tokens.{Token, ObserverFront, Over, Begins, BadByte, ObserverCuts, observer_front}
use Rattle.lt_past.specs.Naming.{is_named, AreOutputs, numbers_below}
use Rattle.lt_past.specs.Faults.{names_in, IsBadName}

-- the end, or a byte that starts no token
abbrev pub FrontEnds : ObserverFront → Type 0
FrontEnds Over = Unit {0}
FrontEnds BadByte = Unit {0}
FrontEnds (Begins t behind) = ⊥

-- up to here each name is that of an output, and these are marked besides those that were
pub record IsMarkedTo (main : Function) (bytes rest : List ℕ) (before after : List Bool) : Type 0 where
  pub tokens : List Token
  pub cut : ObserverCuts bytes tokens rest
  pub good : AreOutputs main (names_in tokens)
  pub marks : (place : ℕ) → slice_index_or after place false ≡ (if is_named main (names_in tokens) place then true else slice_index_or before place false)

-- the same up to where the tokens end
pub record IsMarked (main : Function) (bytes : List ℕ) (before after : List Bool) : Type 0 where
  pub rest : List ℕ
  pub ends : FrontEnds (observer_front (skip rest))
  pub marked : IsMarkedTo main bytes rest before after

abbrev pub MarksNames : Function → List ℕ → (before after : List Bool) → Option ObserverFault → Type 0
MarksNames main bytes before after None = IsMarked main bytes before after
MarksNames main bytes before after (Some f) = IsBadName main bytes f

-- the marked places, in order
abbrev pub marked_below : List Bool → ℕ → List ℕ
marked_below marks n = filter (λ place. slice_index_or marks place false) (numbers_below n)
