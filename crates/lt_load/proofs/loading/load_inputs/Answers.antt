use Rattle.std.proofs.Common.{◌≡◌, ◌∙◌, ℕ, List, [], Result, Ok, Err, IfOk, ◌<◌, length, refl, ap, subst}
use Rattle.lt_base.specs.declared.memory.Or.{Or}
use Rattle.lt_base.specs.declared.memory.Or.TheVariants.{Fault, Memory}
use Rattle.lt_base.specs.Or.{MapsFault}
use Rattle.lt_base.specs.Inputs.{InputTable}
use Rattle.lt_base.specs.Program.{Function, WholeProgram}
use Rattle.lt_base.specs.Behaviour.{RowsFit}
use Rattle.lt_answer.specs.Answered.{Verdict, Settles}
use Rattle.lt_answer.specs.Rules.{Raised, Exactly}
use Rattle.lt_inputs.specs.declared.fault.InputFault.{InputFault}
use Rattle.lt_inputs.specs.Inputs.{inputs_of}
use Rattle.lt_inputs.specs.Told.{ToldWanted}
use Rattle.lt_load_fit.specs.declared.fault.What.TheVariants.{InputsBytes}
use Rattle.lt_load_fit.specs.declared.fault.CommandFault.{CommandFault}
use Rattle.lt_load_fit.specs.declared.fault.CommandFault.TheVariants as fault
use Rattle.lt_load_fit.specs.Main.{main_in}
use Rattle.lt_base.specs.Main.{InputsFitMain}
use Rattle.lt_load.specs.Blamed.{command_blame}
use Rattle.lt_load.specs.Loaded.{whole_verdict, inputs_verdict}
use Rattle.lt_load.proofs.Mains.{inputs_fit}
use Rattle.lt_load.proofs.Steps.{IsContent, content_raised, raised_answer, raised_value, refused_step, last_step}
use Rattle.lt_load.proofs.loading.load_inputs.Goals as goal

abbrev read_verdict : Function → List ℕ → Verdict InputTable CommandFault
read_verdict main bytes = Raised (λ e. fault.Inputs e) (Exactly (inputs_of main bytes))

read_content : (p : WholeProgram) (bytes : List ℕ) → IsContent command_blame (read_verdict (main_in p) bytes)
read_content p bytes = content_raised command_blame (λ e. fault.Inputs e) (Exactly (inputs_of (main_in p) bytes)) (λ e. refl)

-- what is right of an equal function and equal bytes
read_at : (f g : Function) → f ≡ g → (xs ys : List ℕ) → xs ≡ ys → (r : Result InputTable (Or CommandFault)) → Settles (read_verdict f xs) r → Settles (read_verdict g ys) r
read_at f g same xs ys is r right =
    subst (λ (bytes : List ℕ). Settles (read_verdict g bytes) r) is (subst (λ (h : Function). Settles (read_verdict h xs) r) same right)

-- what the reading answered
found : (main : Function) (bytes : List ℕ) (r : Result InputTable (Or InputFault)) → ToldWanted (inputs_of main bytes) r → Settles (Exactly (inputs_of main bytes)) r
found main bytes (Ok table) told = told
found main bytes (Err (Fault e)) told = told
found main bytes (Err Memory) told = tt

-- a table that was read fits
fits : (p : WholeProgram) (main : Function) (r : Result InputTable (Or InputFault)) → p.main < length p.funcs → main ≡ main_in p → IfOk r (λ t. t.width ≡ main.n_in) → IfOk r (λ t. RowsFit main t.rows) → IfOk r (InputsFitMain p)
fits p main (Ok table) low is width rows = inputs_fit p table low (width ∙ ap (λ (f : Function). f.n_in) is) (subst (λ (f : Function). RowsFit f table.rows) is rows)
fits p main (Err e) low is width rows = tt

pub returns-in_err-bytes-clause-answered : goal.returns-in_err-bytes-clause-answered
unfolding inputs_verdict
returns-in_err-bytes-clause-answered g c =
    refused_step command_blame (whole_verdict InputsBytes ((g.F.Files.state c.args.files.now).named c.args.name.now)) (λ names bytes. read_verdict (main_in c.args.program.now) bytes) _ _ [] _ _
    c.from_residual.ensures.1 c.in_err-bytes.ensures.answered

pub returns-clause-answered : goal.returns-clause-answered
unfolding inputs_verdict
returns-clause-answered g c =
    let bytes = c.deref.result.now in
    let main = c.main_of.result.now in
    last_step command_blame (whole_verdict InputsBytes ((g.F.Files.state c.args.files.now).named c.args.name.now)) (λ names bytes. read_verdict (main_in c.args.program.now) bytes) _ _ c.in_ok-bytes.bytes c.raise_fault.result
    c.in_ok-bytes.ensures.answered (read_content c.args.program.now c.in_ok-bytes.bytes)
    (read_at main _ c.main_of.ensures bytes _ c.deref.ensures c.raise_fault.result
    (raised_answer (λ e. fault.Inputs e) (Exactly (inputs_of main bytes)) c.read_inputs.result c.raise_fault.result (found main bytes c.read_inputs.result c.read_inputs.ensures.told) c.raise_fault.ensures))

pub returns-clause-fit : goal.returns-clause-fit
returns-clause-fit g c =
    raised_value (InputsFitMain c.args.program.now) (λ e g. MapsFault e g (λ f h. h ≡ fault.Inputs f)) c.read_inputs.result c.raise_fault.result
    (fits c.args.program.now c.main_of.result.now c.read_inputs.result c.invariant_holds.ensures.main c.main_of.ensures c.read_inputs.ensures.width c.read_inputs.ensures.fit) c.raise_fault.ensures
