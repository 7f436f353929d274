use Rattle.std.proofs.Common.{◌≡◌, ℕ, List, [], Result, Ok, Err, refl, subst}
use Rattle.lt_base.specs.declared.memory.Or.{Or}
use Rattle.lt_answer.specs.Answered.{Verdict, Settles}
use Rattle.lt_answer.specs.Rules.{Raised}
use Rattle.lt_front.specs.Examined.{ExaminedText}
use Rattle.lt_front.specs.Front.{examine_verdict}
use Rattle.lt_load_fit.specs.declared.fault.What.TheVariants.{ProgramBytes}
use Rattle.lt_load_fit.specs.declared.fault.CommandFault.{CommandFault}
use Rattle.lt_load_fit.specs.declared.fault.CommandFault.TheVariants as fault
use Rattle.lt_load.specs.Blamed.{command_blame}
use Rattle.lt_load.specs.Loaded.{whole_verdict, program_verdict}
use Rattle.lt_load.proofs.Steps.{IsContent, content_raised, raised_answer, refused_step, last_step}
use Rattle.lt_load.proofs.loading.load_program.Goals as goal

abbrev read_verdict : List ℕ → Verdict ExaminedText CommandFault
read_verdict bytes = Raised (λ e. fault.Program e) (examine_verdict bytes)

read_content : (bytes : List ℕ) → IsContent command_blame (read_verdict bytes)
read_content bytes = content_raised command_blame (λ e. fault.Program e) (examine_verdict bytes) (λ e. refl)

-- what is right of equal bytes
read_at : (xs ys : List ℕ) → xs ≡ ys → (r : Result ExaminedText (Or CommandFault)) → Settles (read_verdict xs) r → Settles (read_verdict ys) r
read_at xs ys is r right = subst (λ (bytes : List ℕ). Settles (read_verdict bytes) r) is right

pub returns-in_err-bytes : goal.returns-in_err-bytes
unfolding program_verdict
returns-in_err-bytes g c =
    refused_step command_blame (whole_verdict ProgramBytes ((g.F.Files.state c.args.files.now).named c.args.name.now)) (λ names bytes. read_verdict bytes) _ _ [] _ _
    c.from_residual.ensures.1 c.in_err-bytes.ensures.answered

pub returns : goal.returns
unfolding program_verdict
returns g c =
    last_step command_blame (whole_verdict ProgramBytes ((g.F.Files.state c.args.files.now).named c.args.name.now)) (λ names bytes. read_verdict bytes) _ _ c.in_ok-bytes.bytes c.raise_fault.result
    c.in_ok-bytes.ensures.answered (read_content c.in_ok-bytes.bytes)
    (read_at _ _ c.deref.ensures c.raise_fault.result (raised_answer (λ e. fault.Program e) (examine_verdict c.deref.result.now) c.check_program.result c.raise_fault.result c.check_program.ensures c.raise_fault.ensures))
