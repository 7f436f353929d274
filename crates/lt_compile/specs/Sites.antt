-- Where a program runs: on which nodes, with which channels between them, under which bounds of time, and at whose pace.
use Rattle.std.specs.Prelude.{◌≡◌, ◌≤◌, length, Ok, Err}
use Rattle.lt_norm.specs.Flat.{Originated}
use Rattle.lt_timing.specs.Accepts.{Accepts}
use Rattle.lt_place.specs.declared.layout.Layout.{Layout}
use Rattle.lt_place.specs.Layout.{IsLayoutOf, IsPlaced}
use Rattle.lt_place.specs.Legal.{Legal}
use Rattle.lt_lead.specs.Paced.{IsShapeBy, KeepsPace}
use Rattle.lt_front.specs.Examined.{ExaminedText}
use Rattle.lt_front.specs.Flattened.{flat_of}
use Rattle.lt_config.specs.declared.config.Config.{Config}
use Rattle.lt_answer.specs.Answered.{Verdict}
use Rattle.lt_load_fit.specs.declared.fault.CommandFault.{CommandFault}
use Rattle.lt_load_fit.specs.Fits.{HasWindowBy, IsPlaceFault, fitting_verdict}
use Rattle.lt_compile.specs.declared.site.Site.{Site}

-- the layout of a legal placement, or a fault of it
unfoldable pub layout_verdict : ExaminedText → Config → Verdict Layout CommandFault
layout_verdict checked setup (Ok l) = Legal (flat_of checked.program) setup.placement × IsLayoutOf (flat_of checked.program) setup.placement l
layout_verdict checked setup (Err e) = (Legal (flat_of checked.program) setup.placement → ⊥) × IsPlaceFault checked setup e

-- a layout with the channels that a setup asks for, and the setup's bounds of time and pace
pub record IsSiteOf (l : Layout) (setup : Config) (s : Site) : Type 0 where
  pub layout : s.layout ≡ l
  pub timing : s.timing ≡ setup.timing
  pub pace : s.pace ≡ setup.pace
  pub shape : IsShapeBy s.layout s.pace s.timing s.shape

-- the setup fits, and its site is this; or the setup's refusal
abbrev pub site_verdict : ExaminedText → Config → Verdict Site CommandFault
site_verdict checked setup (Ok s) = fitting_verdict checked setup (Ok setup) × ((l : Layout) × IsLayoutOf (flat_of checked.program) setup.placement l × IsSiteOf l setup s)
site_verdict checked setup (Err e) = fitting_verdict checked setup (Err e)

-- what is so of a site of a function, whatever was read
pub record IsSited (f : Originated) (s : Site) : Type 0 where
  pub placed : IsPlaced f s.layout
  pub paced : KeepsPace s.layout s.shape s.timing s.pace
  pub accepted : Accepts s.timing
  pub windowed : HasWindowBy s.pace s.timing
  pub timed : length s.timing.nodes ≡ length s.layout.names
  pub few : length s.layout.names ≤ 32
