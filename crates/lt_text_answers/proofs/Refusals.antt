-- Refusals, and their statuses.
use Rattle.std.proofs.Common.{◌≡◌, ◌⊎◌, ◌∙◌, Bool, true, false, refl, sym, ap, subst, inl, inr}
use Rattle.std.specs.Prelude.{codes, if◌then◌else◌}
use Rattle.lt_front.specs.Limits.{is_limit}
use Rattle.lt_answer.specs.World.{Blame, Content, Reading, Linking}
use Rattle.lt_inputs.specs.declared.fault.InputKind.{InputKind}
use Rattle.lt_inputs.specs.declared.fault.InputKind.TheVariants as inputs
use Rattle.lt_rows.specs.declared.fault.RowFault.{RowFault}
use Rattle.lt_rows.specs.declared.fault.RowFault.TheVariants as row
use Rattle.lt_load_fit.specs.declared.fault.CommandFault.{CommandFault}
use Rattle.lt_load_fit.specs.declared.fault.CommandFault.TheVariants as fault
use Rattle.lt_load.specs.Blamed.{command_blame}
use Rattle.lt_text_answers.specs.declared.refusal.Refusal.{Refusal}
use Rattle.lt_text_answers.specs.declared.refusal.Refusal.TheVariants.{Words, LttacWords, NoNode, Command, Observer}
use Rattle.lt_text_answers.specs.declared.status.Status.{Status}
use Rattle.lt_text_answers.specs.declared.status.Status.TheVariants as status
use Rattle.lt_text_answers.specs.Blamed.{blame_of}
use Rattle.lt_watch.specs.declared.fault.WatchFault.{WatchFault}
use Rattle.lt_watch.specs.declared.fault.WatchFault.TheVariants as watch
use Rattle.lt_watch.specs.Blamed.{watch_blame}
use Rattle.lt_text_answers.specs.Replies.{watch_refusal}
use Rattle.lt_text_answers.specs.Texts.{refusal_status, fault_status, inputs_status, row_status, refusal_line}

-- a status that says nothing of what the files hold
record IsNoContent (code : Status) : Type 0 where
  program : status.Program ≡ code → ⊥
  setup : status.Setup ≡ code → ⊥
  inputs : status.Inputs ≡ code → ⊥
  schedule : status.Schedule ≡ code → ⊥
  limit : status.Limit ≡ code → ⊥

no_program : (b : Bool) (code : Status) → IsNoContent code → (if b then status.Limit else status.Program) ≡ code → ⊥
no_program true code not is = not.limit is
no_program false code not is = not.program is

no_inputs : (k : InputKind) (code : Status) → IsNoContent code → inputs_status k ≡ code → ⊥
no_inputs inputs.NotCsv code not is = not.inputs is
no_inputs inputs.Header code not is = not.inputs is
no_inputs inputs.Instant code not is = not.inputs is
no_inputs inputs.Value code not is = not.inputs is
no_inputs inputs.TooMany code not is = not.limit is

no_row : (f : RowFault) (code : Status) → IsNoContent code → row_status f ≡ code → ⊥
no_row row.Header code not is = not.schedule is
no_row row.Time code not is = not.schedule is
no_row row.Kind code not is = not.schedule is
no_row row.UnknownPlace code not is = not.schedule is
no_row row.NotCsv code not is = not.schedule is
no_row row.TooMany code not is = not.limit is

-- only a failed call has another status than that of some content
calls_by_status : (f : CommandFault) (code : Status) → IsNoContent code → fault_status f ≡ code → (f ≡ fault.Read) ⊎ (f ≡ fault.Link)
calls_by_status (fault.Program f) code not is = absurd (no_program (is_limit f) code not is)
calls_by_status (fault.Config f) code not is = absurd (not.setup is)
calls_by_status (fault.Place f main) code not is = absurd (not.setup is)
calls_by_status (fault.Timing f names mixed) code not is = absurd (not.setup is)
calls_by_status (fault.Window f names) code not is = absurd (not.setup is)
calls_by_status (fault.Inputs f) code not is = absurd (no_inputs f.kind code not is)
calls_by_status fault.TooManyCells code not is = absurd (not.limit is)
calls_by_status (fault.Row n f) code not is = absurd (no_row f code not is)
calls_by_status (fault.Offence event offence shape) code not is = absurd (not.schedule is)
calls_by_status (fault.Lossy event offence shape) code not is = absurd (not.schedule is)
calls_by_status (fault.Limit what) code not is = absurd (not.limit is)
calls_by_status fault.Read code not is = inl refl
calls_by_status fault.Link code not is = inr refl

outside_of : (f : CommandFault) (code : Status) → (f ≡ fault.Read) ⊎ (f ≡ fault.Link) → fault_status f ≡ code → status.Outside ≡ code
outside_of f code (inl read) is = sym (ap fault_status read) ∙ is
outside_of f code (inr link) is = sym (ap fault_status link) ∙ is

outside_by_status : (f : CommandFault) (code : Status) → IsNoContent code → fault_status f ≡ code → status.Outside ≡ code
outside_by_status f code not is = outside_of f code (calls_by_status f code not is) is

-- no fault has the status of success
pub fault_not_ok : (f : CommandFault) → fault_status f ≡ status.Ok → ⊥
fault_not_ok f is =
    let outside = outside_by_status f status.Ok (record { program = λ h. cc; setup = λ h. cc; inputs = λ h. cc; schedule = λ h. cc; limit = λ h. cc }) is in
    cc

-- nor that of wrong words
pub fault_not_words : (f : CommandFault) → fault_status f ≡ status.Words → ⊥
fault_not_words f is =
    let outside = outside_by_status f status.Words (record { program = λ h. cc; setup = λ h. cc; inputs = λ h. cc; schedule = λ h. cc; limit = λ h. cc }) is in
    cc

fault_not_write : (f : CommandFault) → fault_status f ≡ status.Write → ⊥
fault_not_write f is =
    let outside = outside_by_status f status.Write (record { program = λ h. cc; setup = λ h. cc; inputs = λ h. cc; schedule = λ h. cc; limit = λ h. cc }) is in
    cc

fault_not_memory : (f : CommandFault) → fault_status f ≡ status.Memory → ⊥
fault_not_memory f is =
    let outside = outside_by_status f status.Memory (record { program = λ h. cc; setup = λ h. cc; inputs = λ h. cc; schedule = λ h. cc; limit = λ h. cc }) is in
    cc

-- no refusal has the status of success
pub not_ok : (r : Refusal) → refusal_status r ≡ status.Ok → ⊥
not_ok Words is = cc
not_ok LttacWords is = cc
not_ok (NoNode name) is = cc
not_ok (Command f) is = fault_not_ok f is
not_ok (Observer f) is = cc

-- nor that of a failed write
pub not_write : (r : Refusal) → refusal_status r ≡ status.Write → ⊥
not_write Words is = cc
not_write LttacWords is = cc
not_write (NoNode name) is = cc
not_write (Command f) is = fault_not_write f is
not_write (Observer f) is = cc

-- nor that of want of memory
pub not_memory : (r : Refusal) → refusal_status r ≡ status.Memory → ⊥
not_memory Words is = cc
not_memory LttacWords is = cc
not_memory (NoNode name) is = cc
not_memory (Command f) is = fault_not_memory f is
not_memory (Observer f) is = cc

-- a failed call has its own status, and its line

fault_calls : (f : CommandFault) → fault_status f ≡ status.Outside → (f ≡ fault.Read) ⊎ (f ≡ fault.Link)
fault_calls f is = calls_by_status f status.Outside (record { program = λ h. cc; setup = λ h. cc; inputs = λ h. cc; schedule = λ h. cc; limit = λ h. cc }) is

blames_by : (f : CommandFault) → (f ≡ fault.Read) ⊎ (f ≡ fault.Link) → (command_blame f ≡ Reading) ⊎ (command_blame f ≡ Linking)
blames_by f (inl read) = inl (ap command_blame read)
blames_by f (inr link) = inr (ap command_blame link)

pub outside_blames : (r : Refusal) → refusal_status r ≡ status.Outside → (blame_of r ≡ Reading) ⊎ (blame_of r ≡ Linking)
outside_blames Words is = cc
outside_blames LttacWords is = cc
outside_blames (NoNode name) is = cc
outside_blames (Command f) is = blames_by f (fault_calls f is)
outside_blames (Observer f) is = cc

-- a blame tells what was called
abbrev BlamedFor : Blame → CommandFault → Type 0
BlamedFor Content f = Unit {0}
BlamedFor Reading f = f ≡ fault.Read
BlamedFor Linking f = f ≡ fault.Link

blamed_for : (f : CommandFault) → BlamedFor (command_blame f) f
blamed_for (fault.Program f) = tt
blamed_for (fault.Config f) = tt
blamed_for (fault.Place f main) = tt
blamed_for (fault.Timing f names mixed) = tt
blamed_for (fault.Window f names) = tt
blamed_for (fault.Inputs f) = tt
blamed_for fault.TooManyCells = tt
blamed_for (fault.Row n f) = tt
blamed_for (fault.Offence event offence shape) = tt
blamed_for (fault.Lossy event offence shape) = tt
blamed_for (fault.Limit what) = tt
blamed_for fault.Read = refl
blamed_for fault.Link = refl

-- only a failed read blames the files
pub blamed_reads : (f : CommandFault) → command_blame f ≡ Reading → f ≡ fault.Read
blamed_reads f is = subst (λ (whose : Blame). BlamedFor whose f) is (blamed_for f)

-- only a failed call on the fabric blames it
pub blamed_links : (f : CommandFault) → command_blame f ≡ Linking → f ≡ fault.Link
blamed_links f is = subst (λ (whose : Blame). BlamedFor whose f) is (blamed_for f)

pub reading_line : (r : Refusal) → blame_of r ≡ Reading → refusal_line r ≡ codes "fault: read"
reading_line Words is = cc
reading_line LttacWords is = cc
reading_line (NoNode name) is = cc
reading_line (Command f) is = ap (λ (e : CommandFault). refusal_line (Command e)) (blamed_reads f is)
reading_line (Observer f) is = cc

pub linking_line : (r : Refusal) → blame_of r ≡ Linking → refusal_line r ≡ codes "fault: link"
linking_line Words is = cc
linking_line LttacWords is = cc
linking_line (NoNode name) is = cc
linking_line (Command f) is = ap (λ (e : CommandFault). refusal_line (Command e)) (blamed_links f is)
linking_line (Observer f) is = cc

-- of a watched run

pub watch_blames : (e : WatchFault) → blame_of (watch_refusal e) ≡ watch_blame e
watch_blames (watch.Command f) = refl
watch_blames (watch.Observer f) = refl

pub watch_reads : (e : WatchFault) → blame_of (watch_refusal e) ≡ Reading → e ≡ watch.Command fault.Read
watch_reads (watch.Command f) is = ap (λ (g : CommandFault). watch.Command g) (blamed_reads f is)
watch_reads (watch.Observer f) is = cc
