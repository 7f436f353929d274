-- The command of the words, by what the reading tells.
use Rattle.std.proofs.Common.{◌≡◌, ◌≢◌, true, List, [], ◌∷◌, Option, Some, None, option_map, Result, Ok, Err, refl, sym, ◌∙◌}
use Rattle.std.specs.Prelude.{IfOk, IfSome}
use Rattle.clap.specs.Words.{App, Text, takes, fault_of}
use Rattle.lt_base.specs.declared.memory.Memory.{Memory}
use Rattle.lt_words.specs.Reading.{unless_faulty}
use Rattle.lt_words.specs.Told.{TellsCommand}

chosen : {A S : Type 0} (faults : List A) (o : Option S) → faults ≡ [] → o ≡ unless_faulty faults o
chosen [] o e = refl
chosen (x ∷ xs) o e = cc

not_chosen : {A S : Type 0} (faults : List A) (o : Option S) → faults ≢ [] → None ≡ unless_faulty faults o
not_chosen [] o e = absurd (e refl)
not_chosen (x ∷ xs) o e = refl

module _ {C S : Type 0} (app : App) (of : C → S) (saying : List Text → Option S) (Ranges : C → Type 0) (words : List Text) where
  pub is_said : (r : Result (Option C) Memory) → TellsCommand app of saying Ranges words r → IfOk r (λ command. option_map of command ≡ unless_faulty (fault_of app words) (saying words))
  is_said (Ok (Some c)) told = sym told.0 ∙ chosen (fault_of app words) (saying words) told.1
  is_said (Ok None) told = not_chosen (fault_of app words) (saying words) told.1
  is_said (Err e) told = tt

  pub is_refused : (r : Result (Option C) Memory) → TellsCommand app of saying Ranges words r → r ≡ Ok None → takes app words ≢ true
  is_refused (Ok (Some c)) told e = cc
  is_refused (Ok None) told e = told.0
  is_refused (Err x) told e = cc

  pub in_ranges : (r : Result (Option C) Memory) → TellsCommand app of saying Ranges words r → IfOk r (λ command. IfSome command Ranges)
  in_ranges (Ok (Some c)) told = told.2
  in_ranges (Ok None) told = tt
  in_ranges (Err e) told = tt
