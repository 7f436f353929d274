-- The nodes of a shape, by any pace.
use Rattle.std.proofs.Common.{◌≡◌}
use Rattle.lt_arch.specs.declared.timing.Timing.{Timing}
use Rattle.lt_arch.specs.declared.shape.Shape.{Shape}
use Rattle.lt_place.specs.declared.layout.Layout.{Layout}
use Rattle.lt_arch.specs.declared.pace.Pace.{Pace}
use Rattle.lt_arch.specs.declared.pace.Pace.TheVariants.{Plain, Lossy, Leader}
use Rattle.lt_lead.specs.Paced.{IsShapeBy}

pub nodes_are : (l : Layout) (pace : Pace) (t : Timing) (s : Shape) → IsShapeBy l pace t s → s.nodes ≡ l.names
nodes_are l Plain t s is = is.nodes
nodes_are l (Lossy losses) t s is = is.nodes
nodes_are l (Leader leader) t s is = is.nodes
