-- Steps that touch nothing blame what was read.
use Rattle.std.proofs.Common.{◌≡◌, ◌∙◌, ℕ, List, Bool, refl, ap}
use Rattle.lt_base.specs.Program.{Function}
use Rattle.lt_config.specs.declared.config.Config.{Config}
use Rattle.lt_place.specs.declared.fault.PlaceFault.{PlaceFault}
use Rattle.lt_timing.specs.declared.fault.TimingFault.{TimingFault}
use Rattle.lt_lossy.specs.declared.room.WindowFault.{WindowFault}
use Rattle.lt_answer.specs.World.{Blame, Content}
use Rattle.lt_front.specs.Examined.{ExaminedText}
use Rattle.lt_load_fit.specs.declared.fault.CommandFault.{CommandFault}
use Rattle.lt_load_fit.specs.declared.fault.CommandFault.TheVariants as fault
use Rattle.lt_load_fit.specs.Fits.{placed_verdict, timed_verdict, windowed_verdict, accepted_verdict, fitting_verdict}
use Rattle.lt_load.specs.Blamed.{command_blame}
use Rattle.lt_load.proofs.OneCheck.{place_fault, timing_fault, window_fault}
use Rattle.lt_load.proofs.Steps.{IsContent, content_then}

-- a blame by which the faults of a placement and of a timing are of what was read
module _ (blame : CommandFault → Blame) (places : (f : PlaceFault) (main : Function) → blame (fault.Place f main) ≡ Content)
    (timings : (f : TimingFault) (names : List (List ℕ)) (mixed : Bool) → blame (fault.Timing f names mixed) ≡ Content) (windows : (f : WindowFault) (names : List (List ℕ)) → blame (fault.Window f names) ≡ Content) where
  pub placed_blames : (checked : ExaminedText) (setup : Config) → IsContent blame (placed_verdict checked setup)
  unfolding placed_verdict
  placed_blames checked setup e right = let found = place_fault checked setup e right.1 in ap blame found.2 ∙ places found.0 found.1

  timed_blames : (setup : Config) → IsContent blame (timed_verdict setup)
  unfolding timed_verdict
  timed_blames setup e right = let found = timing_fault setup e right.1 in ap blame found.3 ∙ timings found.0 found.1 found.2

  windowed_blames : (setup : Config) → IsContent blame (windowed_verdict setup)
  unfolding windowed_verdict
  windowed_blames setup e right = let found = window_fault setup e right.1 in ap blame found.2 ∙ windows found.0 found.1

  accepted_blames : (setup : Config) → IsContent blame (accepted_verdict setup)
  unfolding accepted_verdict
  accepted_blames setup = content_then blame (timed_verdict setup) (λ timed. windowed_verdict timed) (timed_blames setup) (λ timed. windowed_blames timed)

  pub fitting_blames : (checked : ExaminedText) (setup : Config) → IsContent blame (fitting_verdict checked setup)
  unfolding fitting_verdict
  fitting_blames checked setup = content_then blame (placed_verdict checked setup) (λ legal. accepted_verdict legal) (placed_blames checked setup) (λ legal. accepted_blames legal)

pub fitting_content : (checked : ExaminedText) (setup : Config) → IsContent command_blame (fitting_verdict checked setup)
fitting_content = fitting_blames command_blame (λ f main. refl) (λ f names mixed. refl) (λ f names. refl)
