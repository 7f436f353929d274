-- The fault of a placement as that of a layout.
use Rattle.std.proofs.Common.{◌≡◌}
use Rattle.lt_base.specs.Or.{ForFault}
use Rattle.lt_base.specs.declared.memory.Or.{Or}
use Rattle.lt_base.specs.declared.memory.Or.TheVariants.{Fault, Memory}
use Rattle.lt_base.specs.Program.{Function}
use Rattle.lt_place.specs.declared.fault.PlaceFault.{PlaceFault}
use Rattle.lt_place.specs.Faults.{IsFirstPlaceFault}
use Rattle.lt_place.specs.Legal.{Legal}
use Rattle.lt_answer.specs.Answered.{Refuses}
use Rattle.lt_front.specs.Checked.{CheckedText, examined_part}
use Rattle.lt_front.specs.Flattened.{flat_of}
use Rattle.lt_config.specs.declared.config.Config.{Config}
use Rattle.lt_load_fit.specs.declared.fault.CommandFault.{CommandFault}
use Rattle.lt_load_fit.specs.Main.{main_in}
use Rattle.lt_load_fit.specs.Fits.{AsPlace}
use Rattle.lt_load_fit.proofs.Misplaced.{IsRefused, refused}
use Rattle.lt_compile.specs.Sites.{layout_verdict}

laid_so : (k : CheckedText) (setup : Config) (g : Or CommandFault) → IsRefused k setup g → Refuses (layout_verdict (examined_part k) setup) g
unfolding layout_verdict
laid_so k setup (Fault g) is = is
laid_so k setup Memory is = tt

module _ (k : CheckedText) (setup : Config) (flat : k.flat ≡ flat_of k.program) (main : Function) (run : main ≡ main_in k.program) where
  pub not_laid : (e : Or PlaceFault) (g : Or CommandFault) → AsPlace main e g → ForFault e (IsFirstPlaceFault k.flat setup.placement) → ForFault e (λ fault. Legal k.flat setup.placement → ⊥) → Refuses (layout_verdict (examined_part k) setup) g
  not_laid e g is first illegal = laid_so k setup g (refused k setup flat main run e g is first illegal)
