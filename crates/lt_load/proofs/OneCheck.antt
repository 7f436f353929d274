-- A check with a setup leaves one refusal, up to its kind.
use Rattle.std.proofs.Common.{◌≡◌, ◌∙◌, ℕ, Bool, List, Option, Some, None, Ok, refl, sym, ap}
use Rattle.lt_base.specs.Program.{Function}
use Rattle.lt_config.specs.declared.config.Config.{Config}
use Rattle.lt_config.proofs.OneSetup.{one_setup}
use Rattle.lt_answer.specs.Answered.{AndThen}
use Rattle.lt_front.specs.Examined.{ExaminedText}
use Rattle.lt_front.specs.Flattened.{flat_of}
use Rattle.lt_place.specs.declared.fault.PlaceFault.{PlaceFault}
use Rattle.lt_place.specs.Legal.{Legal}
use Rattle.lt_arch.specs.Placement.{node_names}
use Rattle.lt_timing.specs.declared.fault.TimingFault.{TimingFault}
use Rattle.lt_timing.specs.Accepts.{Accepts}
use Rattle.lt_lossy.specs.declared.room.WindowFault.{WindowFault}
use Rattle.lt_lossy.specs.Window.{IsWindowFault}
use Rattle.lt_answer.specs.Rules.{Exactly}
use Rattle.lt_answer.proofs.Decided.{HasOneKind, HasOneOutcome, exactly, and_then, and_then_one, raised_one}
use Rattle.lt_load_fit.specs.declared.fault.What.TheVariants.{ConfigBytes}
use Rattle.lt_load_fit.specs.declared.fault.CommandFault.{CommandFault}
use Rattle.lt_load_fit.specs.declared.fault.CommandFault.TheVariants as fault
use Rattle.lt_load_fit.specs.Fits.{SetupPasses, HasWindowBy, IsPlaceFault, IsTimingFault, IsOutsideWindow, placed_verdict, timed_verdict, windowed_verdict, accepted_verdict, fitting_verdict}
use Rattle.lt_load_fit.proofs.Windows.{one_window_fault}
use Rattle.lt_load.specs.Loaded.{whole_verdict, setup_verdict, program_verdict, config_verdict}
use Rattle.lt_load.specs.Setups.{fitted_verdict, with_setup_verdict, check_verdict}
use Rattle.lt_load.proofs.OneLoad.{TellsLimits, whole_decided, program_decided, setup_decided}

one_config : (bytes : List ℕ) (x y : Config) → setup_verdict bytes (Ok x) → setup_verdict bytes (Ok y) → x ≡ y
one_config bytes x y p q = one_setup x y (let same = sym p ∙ q in cc)

pub config_once : {K : Type 0} (kind : CommandFault → K) (file : Option (List ℕ)) → HasOneOutcome kind (config_verdict file)
unfolding config_verdict
config_once kind file =
    and_then_one kind (whole_verdict ConfigBytes file) _ (whole_decided kind ConfigBytes file)
    (λ bytes. raised_one (λ e. fault.Config e) kind (setup_verdict bytes) (record { faults = setup_decided (λ e. kind (fault.Config e)) bytes; one_value = one_config bytes }))

pub place_fault : (checked : ExaminedText) (setup : Config) (e : CommandFault) → IsPlaceFault checked setup e → (f : PlaceFault) × (main : Function) × (e ≡ fault.Place f main)
place_fault checked setup (fault.Program f) is = absurd is
place_fault checked setup (fault.Config f) is = absurd is
place_fault checked setup (fault.Place f main) is = (f, main, refl)
place_fault checked setup (fault.Timing f names mixed) is = absurd is
place_fault checked setup (fault.Window f names) is = absurd is
place_fault checked setup (fault.Inputs f) is = absurd is
place_fault checked setup fault.TooManyCells is = absurd is
place_fault checked setup (fault.Row n f) is = absurd is
place_fault checked setup (fault.Offence event offence shape) is = absurd is
place_fault checked setup (fault.Lossy event offence shape) is = absurd is
place_fault checked setup (fault.Limit what) is = absurd is
place_fault checked setup fault.Read is = absurd is
place_fault checked setup fault.Link is = absurd is

pub timing_fault : (setup : Config) (e : CommandFault) → IsTimingFault setup e → (f : TimingFault) × (names : List (List ℕ)) × (mixed : Bool) × (e ≡ fault.Timing f names mixed)
timing_fault setup (fault.Program f) is = absurd is
timing_fault setup (fault.Config f) is = absurd is
timing_fault setup (fault.Place f main) is = absurd is
timing_fault setup (fault.Timing f names mixed) is = (f, names, mixed, refl)
timing_fault setup (fault.Window f names) is = absurd is
timing_fault setup (fault.Inputs f) is = absurd is
timing_fault setup fault.TooManyCells is = absurd is
timing_fault setup (fault.Row n f) is = absurd is
timing_fault setup (fault.Offence event offence shape) is = absurd is
timing_fault setup (fault.Lossy event offence shape) is = absurd is
timing_fault setup (fault.Limit what) is = absurd is
timing_fault setup fault.Read is = absurd is
timing_fault setup fault.Link is = absurd is

pub window_fault : (setup : Config) (e : CommandFault) → IsOutsideWindow setup e → (f : WindowFault) × (names : List (List ℕ)) × (e ≡ fault.Window f names) × IsWindowFault setup.timing f × (names ≡ node_names setup.placement)
window_fault setup (fault.Program f) is = absurd is
window_fault setup (fault.Config f) is = absurd is
window_fault setup (fault.Place f main) is = absurd is
window_fault setup (fault.Timing f names mixed) is = absurd is
window_fault setup (fault.Window f names) is = (f, names, refl, is.0, is.1)
window_fault setup (fault.Inputs f) is = absurd is
window_fault setup fault.TooManyCells is = absurd is
window_fault setup (fault.Row n f) is = absurd is
window_fault setup (fault.Offence event offence shape) is = absurd is
window_fault setup (fault.Lossy event offence shape) is = absurd is
window_fault setup (fault.Limit what) is = absurd is
window_fault setup fault.Read is = absurd is
window_fault setup fault.Link is = absurd is

-- a kind that tells no two faults of a placement apart, and no two of a timing
abbrev pub MergesPlaces : {K : Type 0} → (CommandFault → K) → Type 0
MergesPlaces kind = (f g : PlaceFault) (main main' : Function) → kind (fault.Place f main) ≡ kind (fault.Place g main')

abbrev pub MergesTimings : {K : Type 0} → (CommandFault → K) → Type 0
MergesTimings kind = (f g : TimingFault) (names names' : List (List ℕ)) (mixed mixed' : Bool) → kind (fault.Timing f names mixed) ≡ kind (fault.Timing g names' mixed')

pub passes_decided : {K : Type 0} (kind : CommandFault → K) (setup : Config) (Rule : Type 0) (IsFault : CommandFault → Type 0) → ((e f : CommandFault) → IsFault e → IsFault f → kind e ≡ kind f)
    → HasOneOutcome kind (SetupPasses setup Rule IsFault)
passes_decided kind setup Rule IsFault one = record {
  faults = record { one_kind = λ e f p q. one e f p.1 q.1; not_both = λ e x p right. p.0 right.0 };
  one_value = λ x y p q. p.1 ∙ sym q.1;
}

module _ {K : Type 0} (kind : CommandFault → K) (places : MergesPlaces kind) where
  pub placed_decided : (checked : ExaminedText) (setup : Config) → HasOneOutcome kind (placed_verdict checked setup)
  unfolding placed_verdict
  placed_decided checked setup =
      passes_decided kind setup (Legal (flat_of checked.program) setup.placement) (IsPlaceFault checked setup) (λ e f p q.
      let a = place_fault checked setup e p in
      let b = place_fault checked setup f q in
      ap kind a.2 ∙ places a.0 b.0 a.1 b.1 ∙ sym (ap kind b.2))

module _ {K : Type 0} (kind : CommandFault → K) (timings : MergesTimings kind) where
  timed_decided : (setup : Config) → HasOneOutcome kind (timed_verdict setup)
  unfolding timed_verdict
  timed_decided setup =
      passes_decided kind setup (Accepts setup.timing) (IsTimingFault setup) (λ e f p q.
      let a = timing_fault setup e p in
      let b = timing_fault setup f q in
      ap kind a.3 ∙ timings a.0 b.0 a.1 b.1 a.2 b.2 ∙ sym (ap kind b.3))

  -- a setup has only one fault of its window
  one_window : (setup : Config) (e f : CommandFault) → IsOutsideWindow setup e → IsOutsideWindow setup f → e ≡ f
  one_window setup e f p q =
      let a = window_fault setup e p in
      let b = window_fault setup f q in
      let fault_is : a.0 ≡ b.0 = one_window_fault setup.timing a.0 b.0 a.3 b.3 in
      let names_are : a.1 ≡ b.1 = a.4 ∙ sym b.4 in
      a.2 ∙ (λ i. fault.Window (fault_is i) (names_are i)) ∙ sym b.2

  windowed_decided : (setup : Config) → HasOneOutcome kind (windowed_verdict setup)
  unfolding windowed_verdict
  windowed_decided setup = passes_decided kind setup (HasWindowBy setup.pace setup.timing) (IsOutsideWindow setup) (λ e f p q. ap kind (one_window setup e f p q))

  pub accepted_decided : (setup : Config) → HasOneOutcome kind (accepted_verdict setup)
  unfolding accepted_verdict
  accepted_decided setup = and_then_one kind (timed_verdict setup) (λ timed. windowed_verdict timed) (timed_decided setup) (λ timed. windowed_decided timed)

module _ {K : Type 0} (kind : CommandFault → K) (along : TellsLimits kind) (places : MergesPlaces kind) (timings : MergesTimings kind) where
  pub fitting_decided : (checked : ExaminedText) (setup : Config) → HasOneOutcome kind (fitting_verdict checked setup)
  unfolding fitting_verdict
  fitting_decided checked setup = and_then_one kind (placed_verdict checked setup) (λ legal. accepted_verdict legal) (placed_decided kind places checked setup) (λ legal. accepted_decided kind timings legal)

  fitted_decided : (named : List ℕ → Option (List ℕ)) (config : List ℕ) (checked : ExaminedText) → HasOneOutcome kind (fitted_verdict named config checked)
  unfolding fitted_verdict
  fitted_decided named config checked =
      and_then_one kind (config_verdict (named config)) (λ setup. fitting_verdict checked setup) (config_once kind (named config)) (λ setup. fitting_decided checked setup)

  with_setup_decided : (named : List ℕ → Option (List ℕ)) (program config : List ℕ) → HasOneKind kind (with_setup_verdict named program config)
  unfolding with_setup_verdict
  with_setup_decided named program config =
      and_then kind (program_verdict (named program)) (λ checked. AndThen (fitted_verdict named config checked) (λ fitting. Exactly (Ok checked))) (program_decided kind along (named program)) (λ checked.
      and_then kind (fitted_verdict named config checked) (λ fitting. Exactly (Ok checked)) (fitted_decided named config checked) (λ fitting. (exactly kind (Ok checked)).faults))

  -- right refusals are of one kind, and then no program is right
  pub check_decided : (named : List ℕ → Option (List ℕ)) (program : List ℕ) (config : Option (List ℕ)) → HasOneKind kind (check_verdict named program config)
  check_decided named program None = (program_decided kind along (named program)).faults
  check_decided named program (Some config) = with_setup_decided named program config
