-- The fault of a placement as a command's.
use Rattle.std.proofs.Common.{◌≡◌, sym, subst}
use Rattle.lt_base.specs.Or.{ForFault}
use Rattle.lt_base.specs.declared.memory.Or.{Or}
use Rattle.lt_base.specs.declared.memory.Or.TheVariants.{Fault, Memory}
use Rattle.lt_base.specs.Program.{Function}
use Rattle.lt_norm.specs.Flat.{Originated}
use Rattle.lt_place.specs.declared.fault.PlaceFault.{PlaceFault}
use Rattle.lt_place.specs.Faults.{IsFirstPlaceFault}
use Rattle.lt_place.specs.Legal.{Legal}
use Rattle.lt_answer.specs.Answered.{Refuses}
use Rattle.lt_front.specs.Checked.{CheckedText, examined_part}
use Rattle.lt_front.specs.Flattened.{flat_of}
use Rattle.lt_config.specs.declared.config.Config.{Config}
use Rattle.lt_load_fit.specs.declared.fault.CommandFault.{CommandFault}
use Rattle.lt_load_fit.specs.Main.{main_in}
use Rattle.lt_load_fit.specs.Fits.{AsPlace, IsPlaceFault, placed_verdict}

-- what is right of a refusal
abbrev pub IsRefused : CheckedText → Config → Or CommandFault → Type 0
IsRefused k setup g = ForFault g (λ fault. (Legal (flat_of k.program) setup.placement → ⊥) × IsPlaceFault (examined_part k) setup fault)

placed_so : (k : CheckedText) (setup : Config) (g : Or CommandFault) → IsRefused k setup g → Refuses (placed_verdict (examined_part k) setup) g
unfolding placed_verdict
placed_so k setup (Fault g) is = is
placed_so k setup Memory is = tt

module _ (k : CheckedText) (setup : Config) (flat : k.flat ≡ flat_of k.program) (main : Function) (run : main ≡ main_in k.program) where
  refused_by : (e : Or PlaceFault) (g : Or CommandFault) → AsPlace main e g → ForFault e (IsFirstPlaceFault (flat_of k.program) setup.placement) → ForFault e (λ fault. Legal (flat_of k.program) setup.placement → ⊥) → IsRefused k setup g
  refused_by (Fault f) (Fault g) is first illegal = subst (λ (h : CommandFault). IsRefused k setup (Fault h)) (sym is) (illegal, (first, run))
  refused_by (Fault f) Memory is first illegal = tt
  refused_by Memory (Fault g) is first illegal = absurd is
  refused_by Memory Memory is first illegal = tt

  module _ (e : Or PlaceFault) (g : Or CommandFault) (is : AsPlace main e g) (first : ForFault e (IsFirstPlaceFault k.flat setup.placement)) (illegal : ForFault e (λ fault. Legal k.flat setup.placement → ⊥)) where
    pub refused : IsRefused k setup g
    refused =
        refused_by e g is (subst (λ (f : Originated). ForFault e (IsFirstPlaceFault f setup.placement)) flat first)
        (subst (λ (f : Originated). ForFault e (λ fault. Legal f setup.placement → ⊥)) flat illegal)

    pub not_placed : Refuses (placed_verdict (examined_part k) setup) g
    not_placed = placed_so k setup g refused
