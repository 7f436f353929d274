-- What a command answers: the text of what it gives, or its refusal.
use Rattle.std.specs.Prelude.{ℕ, List, Result, Ok, Err}
use Rattle.lt_base.specs.declared.memory.Or.{Or}
use Rattle.lt_base.specs.declared.memory.Or.TheVariants.{Fault, Memory}
use Rattle.lt_io.specs.Visits.{Errand}
use Rattle.lt_answer.specs.World.{World}
use Rattle.lt_answer.specs.Answered.{Verdict, Answered}
use Rattle.lt_answer.specs.Rules.{Raised, Shown}
use Rattle.lt_load_fit.specs.declared.fault.CommandFault.{CommandFault}
use Rattle.lt_text_answers.specs.declared.refusal.Refusal.{Refusal}
use Rattle.lt_text_answers.specs.declared.refusal.Refusal.TheVariants.{Words, LttacWords, NoNode, Command, Observer}
use Rattle.lt_text_answers.specs.Blamed.{blame_of}

-- the text of what a command gives, or its refusal
abbrev pub answer_verdict : {T E : Type 0} → (E → Refusal) → (T → List ℕ) → Verdict T E → Verdict (List ℕ) Refusal
answer_verdict raise shown V = Raised raise (Shown shown V)

abbrev pub text_verdict : {T : Type 0} → (T → List ℕ) → Verdict T CommandFault → Verdict (List ℕ) Refusal
text_verdict shown V = answer_verdict (λ fault. Command fault) shown V

-- the words are not refused
abbrev pub IsOfCommand : Result (List ℕ) (Or Refusal) → Type 0
IsOfCommand (Ok text) = Unit {0}
IsOfCommand (Err (Fault Words)) = ⊥
IsOfCommand (Err (Fault LttacWords)) = ⊥
IsOfCommand (Err (Fault (NoNode name))) = ⊥
IsOfCommand (Err (Fault (Command fault))) = Unit {0}
IsOfCommand (Err (Fault (Observer fault))) = Unit {0}
IsOfCommand (Err Memory) = Unit {0}

-- the text of a value that is right, or the refusal that is
pub record AnswersCommand {T E : Type 0} (raise : E → Refusal) (shown : T → List ℕ) (errands : List Errand) (V : Verdict T E) (old new : World) (result : Result (List ℕ) (Or Refusal)) : Type 0 where
  pub answered : Answered blame_of errands (answer_verdict raise shown V) old new result
  pub of_command : IsOfCommand result

abbrev pub AnswersText : {T : Type 0} (shown : T → List ℕ) (errands : List Errand) (V : Verdict T CommandFault) (old new : World) (result : Result (List ℕ) (Or Refusal)) → Type 0
AnswersText shown errands V old new result = AnswersCommand (λ fault. Command fault) shown errands V old new result
