-- What a schedule file reads as along which something is run.
use Rattle.std.proofs.Common.{◌≡◌, ℕ, List, Option, Some, None, Result, Ok, Err, refl}
use Rattle.lt_arch.specs.declared.shape.Shape.{Shape}
use Rattle.lt_arch.specs.declared.timing.Timing.{Timing}
use Rattle.lt_arch.specs.declared.pace.Pace.{Pace}
use Rattle.lt_run.specs.declared.fault.RunFault.{RunFault}
use Rattle.lt_run.specs.Kinds.{EventsBy, RunEndsBy, fault_by, run_file_verdict, verdict_by}

-- a schedule file that is played to its end reads as events
pub record HasRead {T : Type 0} (pace : Pace) (end : EventsBy pace → T → Type 0) (s : Shape) (t : Timing) (rows : ℕ) (file : Option (List ℕ)) (x : T) : Type 0 where
  pub bytes : List ℕ
  pub file_is : file ≡ Some bytes
  pub events : EventsBy pace
  pub reads : verdict_by pace s t rows bytes ≡ Ok events
  pub at_end : end events x

ends_with : {E F T : Type 0} (raise : F → RunFault) (end : E → T → Type 0) (x : T) (v : Result E F) → RunEndsBy raise end v (Ok x) → (events : E) × (v ≡ Ok events) × end events x
ends_with raise end x (Ok events) is = (events, refl, is)
ends_with raise end x (Err refused) is = absurd (cc)

pub has_read : {T : Type 0} (pace : Pace) (end : EventsBy pace → T → Type 0) (s : Shape) (t : Timing) (rows : ℕ) (file : Option (List ℕ)) (x : T) → run_file_verdict pace end s t rows file (Ok x) → HasRead pace end s t rows file x
unfolding run_file_verdict
has_read pace end s t rows None x is = absurd (cc)
has_read pace end s t rows (Some bytes) x is = let e = ends_with (fault_by pace) end x (verdict_by pace s t rows bytes) is in record { bytes = bytes; file_is = refl; events = e.0; reads = e.1; at_end = e.2 }
