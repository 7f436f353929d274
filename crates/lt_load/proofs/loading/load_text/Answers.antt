use Rattle.std.proofs.Common.{◌≡◌, ℕ, List, [], Option, Result, Ok, Err, refl, subst}
use Rattle.lt_base.specs.declared.memory.Or.{Or}
use Rattle.lt_io.specs.Visits.{Errand}
use Rattle.lt_answer.specs.World.{World}
use Rattle.lt_answer.specs.Answered.{Answered, AndThen, Verdict, Settles}
use Rattle.lt_answer.proofs.Stages.{widened}
use Rattle.lt_answer.specs.Rules.{Raised, Shown}
use Rattle.lt_front.specs.Front.{examine_verdict}
use Rattle.lt_front.specs.Printed.{canonical_text, printed_verdict}
use Rattle.lt_load_fit.specs.declared.fault.What.TheVariants.{ProgramBytes}
use Rattle.lt_load_fit.specs.declared.fault.CommandFault.{CommandFault}
use Rattle.lt_load_fit.specs.declared.fault.CommandFault.TheVariants as fault
use Rattle.lt_load.specs.Blamed.{command_blame}
use Rattle.lt_load.specs.Loaded.{whole_verdict, program_verdict}
use Rattle.lt_load.proofs.Steps.{IsContent, content_raised, raised_answer, refused_step, last_step}
use Rattle.lt_load.proofs.Texts.{shown_then}
use Rattle.lt_load.proofs.loading.load_text.Goals as goal

abbrev read_verdict : List ℕ → Verdict (List ℕ) CommandFault
read_verdict bytes = Raised (λ e. fault.Program e) (printed_verdict bytes)

read_content : (bytes : List ℕ) → IsContent command_blame (read_verdict bytes)
read_content bytes = content_raised command_blame (λ e. fault.Program e) (printed_verdict bytes) (λ e. refl)

-- what is right of equal bytes
read_at : (xs ys : List ℕ) → xs ≡ ys → (r : Result (List ℕ) (Or CommandFault)) → Settles (read_verdict xs) r → Settles (read_verdict ys) r
read_at xs ys is r right = subst (λ (bytes : List ℕ). Settles (read_verdict bytes) r) is right

-- the file, and then the text of its bytes
abbrev steps_verdict : Option (List ℕ) → Verdict (List ℕ) CommandFault
steps_verdict file = AndThen (whole_verdict ProgramBytes file) (λ bytes. read_verdict bytes)

of_steps : {es : List Errand} (file : Option (List ℕ)) (a b : World) (r : Result (List ℕ) (Or CommandFault)) → Answered command_blame es (steps_verdict file) a b r → Answered command_blame es (Shown canonical_text (program_verdict file)) a b r
unfolding program_verdict
of_steps file a b r answered =
    widened (steps_verdict file) (Shown canonical_text (program_verdict file)) a b r (λ o right. shown_then (λ e. fault.Program e) canonical_text (whole_verdict ProgramBytes file) (λ bytes. examine_verdict bytes) o right) answered

pub returns-in_err-bytes : goal.returns-in_err-bytes
returns-in_err-bytes g c =
    of_steps ((g.F.Files.state c.args.files.now).named c.args.name.now) _ _ _
    (refused_step command_blame (whole_verdict ProgramBytes ((g.F.Files.state c.args.files.now).named c.args.name.now)) (λ names bytes. read_verdict bytes) _ _ [] _ _
    c.from_residual.ensures.1 c.in_err-bytes.ensures.answered)

pub returns : goal.returns
returns g c =
    of_steps ((g.F.Files.state c.args.files.now).named c.args.name.now) _ _ c.raise_fault.result
    (last_step command_blame (whole_verdict ProgramBytes ((g.F.Files.state c.args.files.now).named c.args.name.now)) (λ names bytes. read_verdict bytes) _ _ c.in_ok-bytes.bytes c.raise_fault.result
    c.in_ok-bytes.ensures.answered (read_content c.in_ok-bytes.bytes)
    (read_at _ _ c.deref.ensures c.raise_fault.result (raised_answer (λ e. fault.Program e) (printed_verdict c.deref.result.now) c.print_program.result c.raise_fault.result c.print_program.ensures c.raise_fault.ensures)))
