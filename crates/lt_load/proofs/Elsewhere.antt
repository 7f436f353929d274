-- What is loaded is refused for no schedule, and how far a refused schedule was read.
use Rattle.std.proofs.Common.{◌≡◌, ◌∙◌, ◌⊎◌, ℕ, inl, inr, List, Option, Some, None, Result, Ok, Err, IsTrue, refl, sym, ap, subst}
use Rattle.std.specs.Prelude.{IfErr, IsErrAnd}
use Rattle.lt_base.specs.declared.memory.Or.{Or}
use Rattle.lt_base.specs.declared.memory.Or.TheVariants.{Fault, Memory}
use Rattle.lt_base.specs.Program.{WholeProgram}
use Rattle.lt_io.specs.Visits.{Errand}
use Rattle.lt_io.specs.FilesState.{FilesState}
use Rattle.lt_answer.specs.World.{World, Blame, Content, Reading, Linking, Blames, alone}
use Rattle.lt_answer.specs.Answered.{Answered, Verdict, RefusesReading}
use Rattle.lt_front.specs.Examined.{ExaminedText}
use Rattle.lt_front.specs.Front.{examine_verdict}
use Rattle.lt_inputs.specs.Inputs.{inputs_of}
use Rattle.lt_config.specs.declared.config.Config.{Config}
use Rattle.lt_answer.specs.Rules.{Exactly, Raised}
use Rattle.lt_load_fit.specs.declared.fault.What.{What}
use Rattle.lt_load_fit.specs.declared.fault.What.TheVariants.{ProgramBytes, ConfigBytes, InputsBytes, ObserverBytes, ScheduleBytes}
use Rattle.lt_load_fit.specs.declared.fault.CommandFault.{CommandFault}
use Rattle.lt_load_fit.specs.declared.fault.CommandFault.TheVariants as fault
use Rattle.lt_load_fit.specs.Main.{main_in}
use Rattle.lt_load_fit.specs.Fits.{fitting_verdict}
use Rattle.lt_load.specs.Blamed.{command_blame}
use Rattle.lt_load.specs.Loaded.{setup_verdict, whole_verdict, program_verdict, config_verdict, inputs_verdict}
use Rattle.lt_load.specs.Plan.{Loads, chosen_setup_verdict, fitting_plan_verdict, inputs_plan_verdict, load_verdict, setup_plan_verdict}
use Rattle.lt_load.proofs.Contents.{fitting_blames}
use Rattle.lt_load.proofs.Steps.{IsContent, content_then, content_raised}
use Rattle.lt_load.specs.Near.{IsNearCommand, IsNearCommandFault, ReadNear}

-- which faults are those of what was read, where a schedule's are set apart

abbrev of_limit : What → Blame
of_limit ProgramBytes = Content
of_limit ConfigBytes = Content
of_limit InputsBytes = Content
of_limit ObserverBytes = Content
of_limit ScheduleBytes = Linking

abbrev pub of_fault : CommandFault → Blame
of_fault (fault.Program f) = Content
of_fault (fault.Config f) = Content
of_fault (fault.Place f main) = Content
of_fault (fault.Timing f names mixed) = Content
of_fault (fault.Window f names) = Content
of_fault (fault.Inputs f) = Content
of_fault fault.TooManyCells = Content
of_fault (fault.Row row f) = Linking
of_fault (fault.Offence event offence s) = Linking
of_fault (fault.Lossy event offence s) = Linking
of_fault (fault.Limit what) = of_limit what
of_fault fault.Read = Content
of_fault fault.Link = Content

near_limit : (file : Option (List ℕ)) (place : ℕ) (what : What) → of_limit what ≡ Content → IsNearCommandFault file place (fault.Limit what)
near_limit file place ProgramBytes is = tt
near_limit file place ConfigBytes is = tt
near_limit file place InputsBytes is = tt
near_limit file place ObserverBytes is = tt
near_limit file place ScheduleBytes is = absurd (cc)

-- of the others nothing is said
elsewhere : (file : Option (List ℕ)) (place : ℕ) (e : CommandFault) → of_fault e ≡ Content → IsNearCommandFault file place e
elsewhere file place (fault.Program f) is = tt
elsewhere file place (fault.Config f) is = tt
elsewhere file place (fault.Place f main) is = tt
elsewhere file place (fault.Timing f names mixed) is = tt
elsewhere file place (fault.Window f names) is = tt
elsewhere file place (fault.Inputs f) is = tt
elsewhere file place fault.TooManyCells is = tt
elsewhere file place (fault.Row row f) is = absurd (cc)
elsewhere file place (fault.Offence event offence s) is = absurd (cc)
elsewhere file place (fault.Lossy event offence s) is = absurd (cc)
elsewhere file place (fault.Limit what) is = near_limit file place what is
elsewhere file place fault.Read is = tt
elsewhere file place fault.Link is = tt

-- the faults of loading

whole_content : (what : What) (file : Option (List ℕ)) → of_limit what ≡ Content → IsContent of_fault (whole_verdict what file)
unfolding whole_verdict
whole_content what None is e right = let same : e ≡ fault.Read = cc in ap of_fault same
whole_content what (Some bytes) is e right = ap of_fault right.0 ∙ is

pub program_content : (file : Option (List ℕ)) → IsContent of_fault (program_verdict file)
unfolding program_verdict
program_content file =
    content_then of_fault (whole_verdict ProgramBytes file) (λ bytes. Raised (λ e. fault.Program e) (examine_verdict bytes)) (whole_content ProgramBytes file refl) (λ bytes. content_raised of_fault (λ e. fault.Program e) (examine_verdict bytes) (λ e. refl))

pub config_content : (file : Option (List ℕ)) → IsContent of_fault (config_verdict file)
unfolding config_verdict
config_content file =
    content_then of_fault (whole_verdict ConfigBytes file) (λ bytes. Raised (λ e. fault.Config e) (setup_verdict bytes)) (whole_content ConfigBytes file refl) (λ bytes. content_raised of_fault (λ e. fault.Config e) (setup_verdict bytes) (λ e. refl))

inputs_content : (p : WholeProgram) (file : Option (List ℕ)) → IsContent of_fault (inputs_verdict p file)
unfolding inputs_verdict
inputs_content p file =
    content_then of_fault (whole_verdict InputsBytes file) (λ bytes. Raised (λ e. fault.Inputs e) (Exactly (inputs_of (main_in p) bytes))) (whole_content InputsBytes file refl)
    (λ bytes. content_raised of_fault (λ e. fault.Inputs e) (Exactly (inputs_of (main_in p) bytes)) (λ e. refl))

fitting_content : (checked : ExaminedText) (setup : Config) → IsContent of_fault (fitting_verdict checked setup)
fitting_content = fitting_blames of_fault (λ f main. refl) (λ f names mixed. refl) (λ f names. refl)

module _ (named : List ℕ → Option (List ℕ)) (inputs : List ℕ) where
  chosen_content : (config : Option (List ℕ)) → IsContent of_fault (chosen_setup_verdict named config)
  chosen_content None e wrong = absurd wrong
  chosen_content (Some config) e right = config_content (named config) e right

  pub inputs_plan_content : (checked : ExaminedText) (setup : Config) → IsContent of_fault (inputs_plan_verdict named inputs checked setup)
  unfolding inputs_plan_verdict
  inputs_plan_content checked setup = content_then of_fault (inputs_verdict checked.program (named inputs)) (λ table. Exactly (Ok (record { checked = checked; setup = setup; inputs = table }))) (inputs_content checked.program (named inputs)) (λ table e wrong. absurd (cc))

  fitting_plan_content : (checked : ExaminedText) (setup : Config) → IsContent of_fault (fitting_plan_verdict named inputs checked setup)
  unfolding fitting_plan_verdict
  fitting_plan_content checked setup = content_then of_fault (fitting_verdict checked setup) (λ fitting. inputs_plan_verdict named inputs checked fitting) (fitting_content checked setup) (λ fitting. inputs_plan_content checked fitting)

  setup_plan_content : (config : Option (List ℕ)) (checked : ExaminedText) → IsContent of_fault (setup_plan_verdict named inputs config checked)
  unfolding setup_plan_verdict
  setup_plan_content config checked = content_then of_fault (chosen_setup_verdict named config) (λ setup. fitting_plan_verdict named inputs checked setup) (chosen_content config) (λ setup. fitting_plan_content checked setup)

  load_content : (program : List ℕ) (config : Option (List ℕ)) → IsContent of_fault (load_verdict named program inputs config)
  unfolding load_verdict
  load_content program config = content_then of_fault (program_verdict (named program)) (λ checked. setup_plan_verdict named inputs config checked) (program_content (named program)) (λ checked. setup_plan_content config checked)

-- a fault blames what was read, or is none of a schedule's
one_of : (e : CommandFault) → (command_blame e ≡ Content) ⊎ (of_fault e ≡ Content)
one_of (fault.Program f) = inl refl
one_of (fault.Config f) = inl refl
one_of (fault.Place f main) = inl refl
one_of (fault.Timing f names mixed) = inl refl
one_of (fault.Window f names) = inl refl
one_of (fault.Inputs f) = inl refl
one_of fault.TooManyCells = inl refl
one_of (fault.Row row f) = inl refl
one_of (fault.Offence event offence s) = inl refl
one_of (fault.Lossy event offence s) = inl refl
one_of (fault.Limit what) = inl refl
one_of fault.Read = inr refl
one_of fault.Link = inr refl

-- so where such a step is refused nothing is said of a schedule
pub elsewhere_near : {T : Type 0} {es : List Errand} (V : Verdict T CommandFault) (a b : FilesState) (file : Option (List ℕ)) (place : ℕ) → IsContent of_fault V → IsTrue a.told → (e : Or CommandFault)
    → Answered command_blame es V (alone a) (alone b) (Err e) → IsNearCommand file place e
elsewhere_near V a b file place content told (Fault e) first =
    elim (one_of e) [
      | inl here ↦ elsewhere file place e (content e (first.exact told (subst (Blames (alone a) (alone b)) here first.cause)))
      | inr other ↦ elsewhere file place e other
    ]
elsewhere_near V a b file place content told Memory first = tt

pub not_loaded_near : {es : List Errand} (program inputs : List ℕ) (config : Option (List ℕ)) (a b : FilesState) (file : Option (List ℕ)) (place : ℕ) → IsTrue a.told → (e : Or CommandFault)
    → Answered command_blame es (Loads (load_verdict a.named program inputs config)) (alone a) (alone b) (Err e) → IsNearCommand file place e
not_loaded_near program inputs config a b file place told e first =
    elsewhere_near (Loads (load_verdict a.named program inputs config)) a b file place (load_content a.named inputs program config) told e first

-- an error that is handed on
pub near_error : {T : Type 0} (file : Option (List ℕ)) (place : ℕ) (e : Or CommandFault) (r : Result T (Or CommandFault)) → IsErrAnd r (λ f. f ≡ e) → IsNearCommand file place e → IfErr r (IsNearCommand file place)
near_error file place e (Ok x) is near = absurd is
near_error file place e (Err f) is near = subst (IsNearCommand file place) (sym is) near

-- on files of the same names
pub near_names : {T : Type 0} (n m : List ℕ → Option (List ℕ)) (name : List ℕ) (place : ℕ) (r : Result T (Or CommandFault)) → n ≡ m → IfErr r (IsNearCommand (n name) place) → IfErr r (IsNearCommand (m name) place)
near_names n m name place r same near = subst (λ (names : List ℕ → Option (List ℕ)). IfErr r (IsNearCommand (names name) place)) same near

-- a run whose refusal is right and so far read

by_read : (file : Option (List ℕ)) (place : ℕ) (e : CommandFault) → command_blame e ≡ Reading → IsNearCommandFault file place e
by_read file place (fault.Program f) is = absurd (cc)
by_read file place (fault.Config f) is = absurd (cc)
by_read file place (fault.Place f main) is = absurd (cc)
by_read file place (fault.Timing f names mixed) is = absurd (cc)
by_read file place (fault.Window f names) is = absurd (cc)
by_read file place (fault.Inputs f) is = absurd (cc)
by_read file place fault.TooManyCells is = absurd (cc)
by_read file place (fault.Row row f) is = absurd (cc)
by_read file place (fault.Offence event offence s) is = absurd (cc)
by_read file place (fault.Lossy event offence s) is = absurd (cc)
by_read file place (fault.Limit what) is = absurd (cc)
by_read file place fault.Read is = tt
by_read file place fault.Link is = absurd (cc)

module _ {T : Type 0} (file : Option (List ℕ)) (place : ℕ) (V : Verdict T CommandFault) (a b : World) where
  reads_near : RefusesReading command_blame V → RefusesReading command_blame (ReadNear file place V)
  reads_near reading = (reading.0, reading.1, (reading.2, by_read file place reading.0 reading.1))

  pub answered_near : {es : List Errand} (r : Result T (Or CommandFault)) → Answered command_blame es V a b r → (IsTrue a.files.told → IfErr r (IsNearCommand file place)) → Answered command_blame es (ReadNear file place V) a b r
  answered_near (Ok x) answered near = record { keeps = answered.keeps; visits = answered.visits; cause = answered.cause; exact = answered.exact; sound = λ told sound rose. reads_near (answered.sound told sound rose) }
  answered_near (Err (Fault e)) answered near = record {
    keeps = answered.keeps;
    visits = answered.visits;
    cause = answered.cause;
    exact = λ told calm. (answered.exact told calm, near told);
    sound = λ told sound rose. reads_near (answered.sound told sound rose);
  }
  answered_near (Err Memory) answered near = record { keeps = answered.keeps; visits = answered.visits; cause = answered.cause; exact = λ told calm. tt; sound = λ told sound rose. reads_near (answered.sound told sound rose) }
