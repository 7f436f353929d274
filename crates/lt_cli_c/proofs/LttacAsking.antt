-- What a call of `lttac` does for its words.
use Rattle.std.proofs.Common.{◌≡◌, ◌⊎◌, ℕ, List, [], ◌∷◌, ◌++◌, Option, Some, None, true, refl, sym, ◌∙◌, ap, subst, inl, inr}
use Rattle.std.specs.Prelude.{option_map}
use Rattle.lt_io.specs.FilesState.{FilesState}
use Rattle.lt_io.specs.SinkState.{SinkState}
use Rattle.lt_io.proofs.Visiting.{visited_none, unvisited}
use Rattle.lt_answer.specs.World.{alone}
use Rattle.lt_answer.proofs.Stages.{refuses, runs_short, calm_itself}
use Rattle.lt_words.specs.declared.lttac.LttacCommand.{LttacCommand}
use Rattle.lt_words.specs.Lttac.{LttacSaid, lttac_said_of, lttac_command_of}
use Rattle.lt_text_answers.specs.declared.refusal.Refusal.TheVariants.{LttacWords}
use Rattle.lt_text_answers.specs.declared.status.Status.{Status}
use Rattle.lt_text_answers.specs.declared.status.Status.TheVariants as status
use Rattle.lt_text_answers.specs.Texts.{refusal_line}
use Rattle.lt_cli.specs.Objects.{Objects}
use Rattle.lt_cli.specs.Written.{Written, WriteReaches, whole, broke, short}
use Rattle.lt_cli.proofs.Ends.{ran_refused, ran_short}
use Rattle.lt_cli.proofs.Obeyed.{visits_all, visits_some}
use Rattle.lt_cli_c.specs.LttacAsked.{DoesErrands, EndsUnsaid, LttacAsked, lttac_asked_verdict, lttac_errands, lttac_said_errands, lttac_verdict, lttac_words_verdict, without_fabric}

-- the words say a command
pub some_asked : (words : List (List ℕ)) (o : Option LttacCommand) (command : LttacCommand) → option_map lttac_said_of o ≡ lttac_command_of words → o ≡ Some command → (old new : Objects) (ends : Status)
    → DoesErrands (lttac_said_errands (lttac_said_of command)) (lttac_verdict old.files.named (lttac_said_of command)) old new ends → LttacAsked words old new ends
unfolding lttac_words_verdict
some_asked words o command told is old new ends does =
    let said : Some (lttac_said_of command) ≡ lttac_command_of words = sym (ap (option_map lttac_said_of) is) ∙ told in
    record {
      does = subst (λ (s : Option LttacSaid). DoesErrands (lttac_errands s) (lttac_asked_verdict old.files.named s) old new ends) said does;
      unsaid = subst (λ (s : Option LttacSaid). EndsUnsaid s ends) said (λ none. cc);
    }

of_three : (text : List ℕ) (old new : SinkState) (ends : Status) → WriteReaches status.Words text old new ends → (ends ≡ status.Words) ⊎ (ends ≡ status.Write) ⊎ (ends ≡ status.Memory)
of_three text old new ends (whole is took) = inl is
of_three text old new ends (broke is broken) = inr (inl is)
of_three text old new ends (short is front) = inr (inr is)

-- they say none
pub none_asked : (words : List (List ℕ)) (s : Option LttacCommand) → option_map lttac_said_of s ≡ lttac_command_of words → s ≡ None → (f : FilesState) (o e e' : SinkState) (ends : Status)
    → Written status.Words (refusal_line LttacWords ++ 10 ∷ []) e e' ends → LttacAsked words (without_fabric f o e) (without_fabric f o e') ends
unfolding lttac_words_verdict
none_asked words s told is f o e e' ends written =
    let said : None ≡ lttac_command_of words = sym (ap (option_map lttac_said_of) is) ∙ told in
    let V = lttac_asked_verdict f.named None in
    let refused : DoesErrands [] V (without_fabric f o e) (without_fabric f o e') ends = record {
      ran = ran_refused {es = []} V (alone f) (alone f) o e e' LttacWords ends (refuses (alone f) LttacWords (calm_itself (alone f)) refl) written;
      visits = visits_all [] (without_fabric f o e) (without_fabric f o e') ends (visited_none f.visits true);
    } in
    record {
      does = subst (λ (c : Option LttacSaid). DoesErrands (lttac_errands c) (lttac_asked_verdict f.named c) (without_fabric f o e) (without_fabric f o e') ends) said refused;
      unsaid = λ none. of_three (refusal_line LttacWords ++ 10 ∷ []) e e' ends written.reaches;
    }

-- no memory was found for them
pub not_read : (words : List (List ℕ)) (f : FilesState) (o e : SinkState) → LttacAsked words (without_fabric f o e) (without_fabric f o e) status.Memory
not_read words f o e = record {
  does = record {
    ran = ran_short {es = []} (lttac_words_verdict f.named words) (alone f) (alone f) o e (runs_short (alone f));
    visits = visits_some (lttac_errands (lttac_command_of words)) (without_fabric f o e) (without_fabric f o e) status.Memory (unvisited (lttac_errands (lttac_command_of words)) f.visits) (λ at. cc);
  };
  unsaid = λ none. inr (inr refl);
}
