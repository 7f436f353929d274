-- A refused placement is not legal.
use Rattle.std.specs.Prelude.{Result, Ok, Err, IfErr}
use Rattle.lt_base.specs.Program.{GoodFunction}
use Rattle.lt_base.specs.declared.memory.Or.{Or}
use Rattle.lt_base.specs.declared.memory.Or.TheVariants.{Fault, Memory}
use Rattle.lt_base.specs.Or.{ForFault}
use Rattle.lt_norm.specs.Flat.{Originated}
use Rattle.lt_arch.specs.declared.placement.Placement.{Placement}
use Rattle.lt_place.specs.declared.fault.PlaceFault.{PlaceFault}
use Rattle.lt_place.specs.Legal.{Legal}
use Rattle.lt_place.specs.Faults.{IsFirstPlaceFault}
use Rattle.lt_place.proofs.First.{not_legal}

pub refused : {A : Type 0} (f : Originated) (p : Placement) → GoodFunction f.func → (r : Result A (Or PlaceFault)) → IfErr r (λ e. ForFault e (IsFirstPlaceFault f p)) → IfErr r (λ e. ForFault e (λ fault. Legal f p → ⊥))
refused f p good (Ok a) h = tt
refused f p good (Err (Fault e)) h = not_legal f p good e h
refused f p good (Err Memory) h = tt
