-- What follows of a call of `ltta`, for the words.
use Rattle.std.proofs.Common.{◌≡◌, ℕ, List, Option, Some, None, ◌++◌, Result, Err, ◌∙◌, ap, subst, append-nil}
use Rattle.lt_words.specs.Reading.{Said, command_of}
use Rattle.lt_text_answers.specs.declared.refusal.Refusal.{Refusal}
use Rattle.lt_text_answers.specs.declared.refusal.Refusal.TheVariants.{Words}
use Rattle.lt_text_answers.specs.declared.status.Status.{Status}
use Rattle.lt_text_answers.specs.declared.status.Status.TheVariants as status
use Rattle.lt_text_answers.specs.Texts.{status_of, out_text, err_text}
use Rattle.lt_cli.specs.Commands.{command_verdict, asked_verdict, words_verdict}
use Rattle.lt_cli.specs.Objects.{Objects, world_of}
use Rattle.lt_cli.specs.Asked.{EndsBySaid}
use Rattle.lt_cli.specs.Clauses.{IsWordsExact}
use Rattle.lt_cli.proofs.Gave.{Gave}

pub words_exact : (words : List (List ℕ)) (old new : Objects) (ends : Status) → EndsBySaid (command_of words) old new ends → Gave (words_verdict old.files.named (world_of new) words) old new ends → IsWordsExact words old new ends
unfolding words_verdict
words_exact words old new ends by_said g =
    let refused : command_of words ≡ None → g.outcome ≡ Err Words = λ is. subst (λ (s : Option Said). asked_verdict old.files.named (world_of new) s g.outcome) is g.right in
    let here : ends ≡ status.Words → g.outcome ≡ Err Words = λ at. refused (by_said.words_only at) in
    record {
      exact = (by_said.words_only, λ is. g.status ∙ ap status_of (refused is));
      line = λ at. record {
        out = λ told. g.out told ∙ ap (λ (o : Result (List ℕ) Refusal). old.out.taken ++ out_text o) (here at) ∙ append-nil old.out.taken;
        err = λ told. g.err told ∙ ap (λ (o : Result (List ℕ) Refusal). old.err.taken ++ err_text o) (here at);
      };
    }

-- the verdict of the command that the words say
pub asked_gave : (words : List (List ℕ)) (said : Said) (old new : Objects) (ends : Status) → command_of words ≡ Some said → Gave (words_verdict old.files.named (world_of new) words) old new ends → Gave (command_verdict old.files.named (world_of new) said) old new ends
unfolding words_verdict
asked_gave words said old new ends is g = record {
  outcome = g.outcome;
  right = subst (λ (s : Option Said). asked_verdict old.files.named (world_of new) s g.outcome) is g.right;
  status = g.status;
  out = g.out;
  err = g.err;
}
