-- What a call does for its words.
use Rattle.std.proofs.Common.{◌≡◌, ◌⊎◌, ℕ, List, [], ◌∷◌, ◌++◌, Option, Some, None, true, refl, sym, ◌∙◌, ap, subst, inl, inr}
use Rattle.std.specs.Prelude.{option_map}
use Rattle.lt_io.proofs.Visiting.{visited_none, unvisited}
use Rattle.lt_io.specs.FilesState.{FilesState}
use Rattle.lt_io.specs.FabricState.{FabricState}
use Rattle.lt_io.specs.SinkState.{SinkState}
use Rattle.lt_answer.specs.World.{World}
use Rattle.lt_answer.proofs.Stages.{refuses, runs_short, calm_itself, opens_none}
use Rattle.lt_words.specs.declared.command.Command.{Command as Spoken}
use Rattle.lt_words.specs.Reading.{Said, said_of, check, meaning, run, plan, sim, big, watch, audit, trace, command_of}
use Rattle.lt_text_answers.specs.declared.refusal.Refusal.TheVariants.{Words}
use Rattle.lt_text_answers.specs.declared.status.Status.{Status}
use Rattle.lt_text_answers.specs.declared.status.Status.TheVariants as status
use Rattle.lt_text_answers.specs.Texts.{refusal_line}
use Rattle.lt_cli.specs.Written.{Written, WriteReaches, whole, broke, short}
use Rattle.lt_cli.specs.Objects.{Objects, world_of}
use Rattle.lt_cli.specs.Commands.{asked_verdict, asked_errands, words_verdict}
use Rattle.lt_cli.specs.Asked.{Asked, EndsBySaid, LeavesFabric, ObeysCommand, VisitsFiles}
use Rattle.lt_cli.specs.Ran.{Ran}
use Rattle.lt_cli.proofs.Ends.{ran_refused, ran_short}
use Rattle.lt_cli.proofs.Obeyed.{objects, visits_all, visits_some}

leaves_itself : (said : Option Said) (files : FilesState) (w : FabricState) → LeavesFabric said files w w
leaves_itself None files w = refl
leaves_itself (Some (check program config)) files w = refl
leaves_itself (Some (meaning program inputs)) files w = refl
leaves_itself (Some (run program inputs schedule config)) files w = (opens_none w, λ told e refused. refl)
leaves_itself (Some (plan config horizon)) files w = refl
leaves_itself (Some (sim program inputs config seed horizon)) files w = refl
leaves_itself (Some (big instants)) files w = (opens_none w, λ e refused. refl)
leaves_itself (Some (watch program inputs schedule observer config)) files w = (opens_none w, λ told e refused. refl)
leaves_itself (Some (audit program inputs schedule config)) files w = refl
leaves_itself (Some (trace program inputs schedule config place from to)) files w = refl

-- the words say a command
pub some_asked : (words : List (List ℕ)) (o : Option Spoken) (command : Spoken) → option_map said_of o ≡ command_of words → o ≡ Some command → (old new : Objects) (ends : Status) → ObeysCommand (said_of command) old new ends
    → Asked words old new ends
unfolding words_verdict
some_asked words o command told is old new ends obeyed =
    let said : Some (said_of command) ≡ command_of words = sym (ap (option_map said_of) is) ∙ told in
    let by_said : EndsBySaid (Some (said_of command)) old new ends = record { words_only = λ at. absurd (obeyed.obeys.not_words at); none_only = λ none. cc; leaves = obeyed.leaves } in
    record {
      ran = subst (λ (s : Option Said). Ran (asked_verdict old.files.named (world_of new) s) old new ends) said obeyed.obeys.ran;
      by_said = subst (λ (s : Option Said). EndsBySaid s old new ends) said by_said;
      visits = subst (λ (s : Option Said). VisitsFiles s old new ends) said obeyed.obeys.visits;
    }

of_three : (text : List ℕ) (old new : SinkState) (ends : Status) → WriteReaches status.Words text old new ends → (ends ≡ status.Words) ⊎ (ends ≡ status.Write) ⊎ (ends ≡ status.Memory)
of_three text old new ends (whole is took) = inl is
of_three text old new ends (broke is broken) = inr (inl is)
of_three text old new ends (short is front) = inr (inr is)

-- they say none
pub none_asked : (words : List (List ℕ)) (s : Option Spoken) → option_map said_of s ≡ command_of words → s ≡ None → (w : World) (o e e' : SinkState) (ends : Status) → Written status.Words (refusal_line Words ++ 10 ∷ []) e e' ends
    → Asked words (objects w o e) (objects w o e') ends
unfolding words_verdict
none_asked words s told is w o e e' ends written =
    let said : None ≡ command_of words = sym (ap (option_map said_of) is) ∙ told in
    let by_said : EndsBySaid None (objects w o e) (objects w o e') ends = record { words_only = λ at. refl; none_only = λ none. of_three (refusal_line Words ++ 10 ∷ []) e e' ends written.reaches; leaves = refl } in
    let V = asked_verdict w.files.named w None in
    record {
      ran = subst (λ (c : Option Said). Ran (asked_verdict w.files.named w c) (objects w o e) (objects w o e') ends) said (ran_refused {es = []} V w w o e e' Words ends (refuses w Words (calm_itself w) refl) written);
      by_said = subst (λ (c : Option Said). EndsBySaid c (objects w o e) (objects w o e') ends) said by_said;
      visits = subst (λ (c : Option Said). VisitsFiles c (objects w o e) (objects w o e') ends) said (visits_all [] (objects w o e) (objects w o e') ends (visited_none w.files.visits true));
    }

-- no memory was found for them
pub not_read : (words : List (List ℕ)) (w : World) (o e : SinkState) → Asked words (objects w o e) (objects w o e) status.Memory
not_read words w o e = record {
  ran = ran_short {es = []} (words_verdict w.files.named w words) w w o e (runs_short w);
  by_said = record { words_only = λ at. cc; none_only = λ none. inr (inr refl); leaves = leaves_itself (command_of words) w.files w.fabric };
  visits = visits_some (asked_errands (command_of words)) (objects w o e) (objects w o e) status.Memory (unvisited (asked_errands (command_of words)) w.files.visits) (λ at. cc);
}
