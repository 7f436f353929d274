-- Which events of a schedule are selected.
use Rattle.std.specs.Prelude.{ℕ, ◌==◌, ◌&&◌, nat_le, nat_lt, Bool, true, false, Option, Some, None}
use Rattle.lt_arch.specs.declared.event.Event.{Event}
use Rattle.lt_arch.specs.declared.event.Event.TheVariants.{Act, Del, End}
use Rattle.lt_arch.specs.declared.shape.Shape.{Shape}
use Rattle.lt_arch.specs.Readers.{chan_count, to_of}
use Rattle.lt_arch.specs.Step.{time_of}
use Rattle.lt_audit.specs.declared.selection.Selection.{Selection}

-- it is a channel of the shape, to the node
abbrev pub leads_to_node : Shape → (c node : ℕ) → Bool
leads_to_node s c node = nat_lt c (chan_count s) && (to_of s c == node)

-- the event is the node's activation, or a delivery on a channel of the shape to it
abbrev pub concerns : Shape → (node : ℕ) → Event → Bool
concerns s node (Act n at) = n == node
concerns s node (Del c at) = leads_to_node s c node
concerns s node (End at) = false

-- it concerns the node, where one is named
abbrev pub concerns_named : Shape → Option ℕ → Event → Bool
concerns_named s None e = true
concerns_named s (Some node) e = concerns s node e

-- its time is within the two bounds, and it concerns the node that is named, if one is
abbrev pub selected : Selection → Shape → Event → Bool
selected sel s e = (nat_le sel.from (time_of e) && nat_le (time_of e) sel.to) && concerns_named s sel.node e
