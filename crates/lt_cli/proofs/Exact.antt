-- What follows of a call that printed an outcome of a command.
use Rattle.std.proofs.Common.{◌≡◌, ◌≢◌, ℕ, List, ◌++◌, Result, Ok, Err, refl, sym, ◌∙◌, ap, append-nil}
use Rattle.lt_answer.specs.Answered.{Verdict}
use Rattle.lt_answer.proofs.Decided.{HasOneKind}
use Rattle.lt_text_answers.specs.declared.refusal.Refusal.{Refusal}
use Rattle.lt_text_answers.specs.declared.status.Status.{Status}
use Rattle.lt_text_answers.specs.declared.status.Status.TheVariants as status
use Rattle.lt_text_answers.specs.Texts.{status_of, refusal_status, refusal_line, out_text, err_text}
use Rattle.lt_cli.specs.Answers.{answer_verdict}
use Rattle.lt_cli.specs.Objects.{Objects}
use Rattle.lt_cli.specs.Taken.{TookLine, TookText}
use Rattle.lt_cli.specs.Clauses.{IsExactFor}
use Rattle.lt_cli.proofs.Gave.{Gave}
use Rattle.lt_text_answers.proofs.Refusals.{not_ok}

module _ {T E : Type 0} (raise : E → Refusal) (shown : T → List ℕ) (V : Verdict T E) where
  shows : (outcome : Result (List ℕ) Refusal) → answer_verdict raise shown V outcome → status_of outcome ≡ status.Ok → (x : T) × V (Ok x) × (outcome ≡ Ok (shown x))
  shows (Ok text) right is = (right.0, right.1, ap (λ (t : List ℕ). Ok t) right.2)
  shows (Err r) right is = absurd (not_ok r is)

  refuses : (outcome : Result (List ℕ) Refusal) → answer_verdict raise shown V outcome → (status_of outcome ≡ status.Ok → ⊥) → (f : E) × V (Err f) × (outcome ≡ Err (raise f))
  refuses (Ok text) right not = absurd (not refl)
  refuses (Err r) right not = (right.0, right.1, ap (λ (s : Refusal). Err s) right.2)

  module _ (old new : Objects) (ends : Status) (g : Gave (answer_verdict raise shown V) old new ends) where
    shown_at : ends ≡ status.Ok → (x : T) × V (Ok x) × (g.outcome ≡ Ok (shown x))
    shown_at at = shows g.outcome g.right (sym g.status ∙ at)

    refused_at : ends ≢ status.Ok → (f : E) × V (Err f) × (g.outcome ≡ Err (raise f))
    refused_at not = refuses g.outcome g.right (λ is. not (g.status ∙ is))

    text_taken : (text : List ℕ) → g.outcome ≡ Ok text → TookText text old new
    text_taken text is = record {
      out = λ told. g.out told ∙ ap (λ (o : Result (List ℕ) Refusal). old.out.taken ++ out_text o) is;
      err = λ told. g.err told ∙ ap (λ (o : Result (List ℕ) Refusal). old.err.taken ++ err_text o) is ∙ append-nil old.err.taken;
    }

    line_taken : (r : Refusal) → g.outcome ≡ Err r → TookLine (refusal_line r) old new
    line_taken r is = record {
      out = λ told. g.out told ∙ ap (λ (o : Result (List ℕ) Refusal). old.out.taken ++ out_text o) is ∙ append-nil old.out.taken;
      err = λ told. g.err told ∙ ap (λ (o : Result (List ℕ) Refusal). old.err.taken ++ err_text o) is;
    }

    status_at : (r : Refusal) → g.outcome ≡ Err r → refusal_status r ≡ ends
    status_at r is = sym (g.status ∙ ap status_of is)

    answered_text : ends ≡ status.Ok → (x : T) × V (Ok x) × TookText (shown x) old new
    answered_text at = let s = shown_at at in (s.0, s.1, text_taken _ s.2)

    answered_line : ends ≢ status.Ok → (f : E) × V (Err f) × (refusal_status (raise f) ≡ ends) × TookLine (refusal_line (raise f)) old new
    answered_line not = let s = refused_at not in (s.0, s.1, status_at _ s.2, line_taken _ s.2)

-- where all right outcomes have one status

module _ {T E : Type 0} (raise : E → Refusal) (shown : T → List ℕ) (V : Verdict T E) (one : HasOneKind (λ e. refusal_status (raise e)) V) where
  -- a value that is right gives a text
  text_status : (outcome : Result (List ℕ) Refusal) (x : T) → answer_verdict raise shown V outcome → V (Ok x) → status_of outcome ≡ status.Ok
  text_status (Ok text) x right is = refl
  text_status (Err r) x right is = absurd (one.not_both right.0 x right.1 is)

  -- a fault that is right has the outcome's status
  pub refused_status : (outcome : Result (List ℕ) Refusal) (f : E) → answer_verdict raise shown V outcome → V (Err f) → status_of outcome ≡ refusal_status (raise f)
  refused_status (Ok text) f right is = absurd (one.not_both f right.0 is right.1)
  refused_status (Err r) f right is = ap refusal_status right.2 ∙ one.one_kind right.0 f right.1 is

  pub exact_for : (old new : Objects) (ends : Status) → Gave (answer_verdict raise shown V) old new ends → IsExactFor raise shown V old new ends
  exact_for old new ends g =
      let text = answered_text raise shown V old new ends g in
      let line = answered_line raise shown V old new ends g in
      record {
        ok = (λ at. let s = text at in (s.0, s.1), λ here. g.status ∙ text_status g.outcome here.0 g.right here.1);
        text = text;
        refused = λ code not. (
          λ at. let s = line (λ is. not (sym at ∙ is)) in (s.0, s.1, s.2 ∙ at),
          λ here. g.status ∙ refused_status g.outcome here.0 g.right here.1 ∙ here.2,
        );
        line = line;
      }
