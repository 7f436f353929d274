-- A program with a setup: its placement is legal, its timing is accepted, and it has the window that its pace asks for.
use Rattle.std.specs.Prelude.{◌≡◌, Ok, Err}
use Rattle.lt_base.specs.declared.memory.Or.{Or}
use Rattle.lt_base.specs.declared.memory.Or.TheVariants.{Fault, Memory}
use Rattle.lt_base.specs.Program.{Function}
use Rattle.lt_front.specs.Examined.{ExaminedText}
use Rattle.lt_front.specs.Flattened.{flat_of}
use Rattle.lt_place.specs.declared.fault.PlaceFault.{PlaceFault}
use Rattle.lt_place.specs.Legal.{Legal}
use Rattle.lt_place.specs.Faults as placement
use Rattle.lt_arch.specs.Placement.{node_names}
use Rattle.lt_timing.specs.Accepts.{Accepts}
use Rattle.lt_timing.specs.Accepts as timing
use Rattle.lt_arch.specs.declared.timing.Timing.{Timing}
use Rattle.lt_lossy.specs.Window.{HasWindow, IsWindowFault}
use Rattle.lt_config.specs.declared.config.Config.{Config}
use Rattle.lt_arch.specs.declared.pace.Pace.{Pace}
use Rattle.lt_arch.specs.declared.pace.Pace.TheVariants.{Plain, Lossy, Leader}
use Rattle.lt_answer.specs.Answered.{Verdict, AndThen}
use Rattle.lt_load_fit.specs.declared.fault.CommandFault.{CommandFault}
use Rattle.lt_load_fit.specs.declared.fault.CommandFault.TheVariants as fault
use Rattle.lt_load_fit.specs.Main.{main_in}

-- the setup itself where a rule of it holds, or a fault of it where it does not
abbrev pub SetupPasses : Config → Type 0 → (CommandFault → Type 0) → Verdict Config CommandFault
SetupPasses setup Rule IsFault (Ok passed) = Rule × (passed ≡ setup)
SetupPasses setup Rule IsFault (Err e) = (Rule → ⊥) × IsFault e

-- the first fault of a placement, beside the function whose variables it names
abbrev pub IsPlaceFault : ExaminedText → Config → CommandFault → Type 0
IsPlaceFault checked setup (fault.Place f main) = placement.IsFirstPlaceFault (flat_of checked.program) setup.placement f × (main ≡ main_in checked.program)
IsPlaceFault checked setup _ = ⊥

-- the fault of a placement as a command's, beside a function; memory may be wanting for the copy of the function
abbrev pub AsPlace : Function → Or PlaceFault → Or CommandFault → Type 0
AsPlace main (Fault f) (Fault g) = g ≡ fault.Place f main
AsPlace main (Fault f) Memory = Unit {0}
AsPlace main Memory (Fault g) = ⊥
AsPlace main Memory Memory = Unit {0}

-- the first inequality of a timing that fails, beside the names of the nodes
abbrev pub IsTimingFault : Config → CommandFault → Type 0
IsTimingFault setup (fault.Timing f names mixed) = timing.IsFirstTimingFault setup.timing f × (names ≡ node_names setup.placement) × (mixed ≡ setup.mixed)
IsTimingFault setup _ = ⊥

-- where links lose messages, a channel has room for all that are in transit: the window
abbrev pub HasWindowBy : Pace → Timing → Type 0
HasWindowBy Plain t = Unit {0}
HasWindowBy (Lossy losses) t = HasWindow t
HasWindowBy (Leader leader) t = Unit {0}

-- the first pair of nodes that is not in the window, beside the names of the nodes
abbrev pub IsOutsideWindow : Config → CommandFault → Type 0
IsOutsideWindow setup (fault.Window f names) = IsWindowFault setup.timing f × (names ≡ node_names setup.placement)
IsOutsideWindow setup _ = ⊥

-- a setup by which the placement of a program's flat form is legal
unfoldable pub placed_verdict : ExaminedText → Config → Verdict Config CommandFault
placed_verdict checked setup = SetupPasses setup (Legal (flat_of checked.program) setup.placement) (IsPlaceFault checked setup)

-- a setup whose timing is accepted
unfoldable pub timed_verdict : Config → Verdict Config CommandFault
timed_verdict setup = SetupPasses setup (Accepts setup.timing) (IsTimingFault setup)

-- a setup that has the window which its pace asks for
unfoldable pub windowed_verdict : Config → Verdict Config CommandFault
windowed_verdict setup = SetupPasses setup (HasWindowBy setup.pace setup.timing) (IsOutsideWindow setup)

-- a setup whose timing is accepted and which has its window, in this order
unfoldable pub accepted_verdict : Config → Verdict Config CommandFault
accepted_verdict setup = AndThen (timed_verdict setup) (λ timed. windowed_verdict timed)

-- a setup for a program: the placement and the timing, in this order
unfoldable pub fitting_verdict : ExaminedText → Config → Verdict Config CommandFault
fitting_verdict checked setup = AndThen (placed_verdict checked setup) (λ legal. accepted_verdict legal)
