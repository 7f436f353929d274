-- Which messages are drawn.
use Rattle.std.specs.Prelude.{ℕ, ◌==◌, ◌&&◌, ◌||◌, not, Bool, true, false, List, [], ◌∷◌, Option, Some, None, if◌then◌else◌}
use Rattle.std.specs.List.{flat_map}
use Rattle.lt_diagram.specs.declared.picture.Arrow.{Arrow}
use Rattle.lt_diagram.specs.declared.picture.Wrong.{Wrong}
use Rattle.lt_diagram.specs.declared.picture.Wrong.TheVariants.{Moment, Absent, Soon, Untimely, Gone, Unsent}
use Rattle.lt_tape.specs.declared.window.Window.{Window}
use Rattle.lt_tape.specs.Kept.{is_on_way}
use Rattle.lt_course.specs.declared.course.RefusedEvent.{RefusedEvent}

-- a message is from or to the node that is named, if one is
abbrev pub is_at_node : Option ℕ → Arrow → Bool
is_at_node None a = true
is_at_node (Some n) a = (a.from == n) || (a.to == n)

-- it is the message at which an event stands out
abbrev pub is_in_red : Wrong → Arrow → Bool
is_in_red Moment a = false
is_in_red (Absent n due) a = false
is_in_red (Soon n last least) a = false
is_in_red (Untimely from to sent come) a = (a.from == from) && ((a.to == to) && (a.sent == sent))
is_in_red (Gone from to sent) a = false
is_in_red (Unsent from to) a = false

abbrev pub is_drawn_red : Option RefusedEvent → Arrow → Bool
is_drawn_red None a = false
is_drawn_red (Some r) a = is_in_red r.wrong a

-- it is on its way within the window, and is not drawn in red
abbrev pub is_kept_arrow : Window → Option ℕ → Option RefusedEvent → Arrow → Bool
is_kept_arrow w node refused a = is_on_way w a && (is_at_node node a && not (is_drawn_red refused a))

abbrev pub arrow_if : Window → Option ℕ → Option RefusedEvent → Arrow → List Arrow
arrow_if w node refused a = if is_kept_arrow w node refused a then a ∷ [] else []

-- those that are
abbrev pub arrows_if : Window → Option ℕ → Option RefusedEvent → List Arrow → List Arrow
arrows_if w node refused arrows = flat_map (arrow_if w node refused) arrows
