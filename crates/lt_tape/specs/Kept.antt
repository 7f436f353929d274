-- What of a schedule's strokes is drawn.
use Rattle.std.specs.Prelude.{ℕ, ◌+◌, ◌==◌, ◌&&◌, not, nat_le, nat_lt, Bool, List, [], ◌∷◌, ◌++◌, if◌then◌else◌}
use Rattle.std.specs.List.{filter, flat_map}
use Rattle.lt_diagram.specs.declared.picture.Arrow.{Arrow}
use Rattle.lt_diagram.specs.declared.picture.Mark.{Mark}
use Rattle.lt_diagram.specs.Tints.{is_execution}
use Rattle.lt_tape.specs.declared.stroke.Stroke.{Stroke}
use Rattle.lt_tape.specs.declared.stroke.Stroke.TheVariants.{Point, Line, Edge}
use Rattle.lt_tape.specs.declared.window.Window.{Window}
use Rattle.lt_tape.specs.Times.{stroke_time}

-- a time is within the window
abbrev pub is_in_window : Window → (time : ℕ) → Bool
is_in_window w time = nat_le w.from time && nat_le time w.to

-- how many events are, beside so many
abbrev pub count_in : Window → (count : ℕ) → List Stroke → ℕ
count_in w count [] = count
count_in w count (x ∷ xs) = count_in w (if is_in_window w (stroke_time x) then count + 1 else count) xs

-- the activations in the window
abbrev pub mark_in : Window → Stroke → List Mark
mark_in w (Point m) = if is_in_window w m.time then m ∷ [] else []
mark_in w (Line a) = []
mark_in w (Edge at) = []

-- a mark as its node's last one, behind those of the other nodes
abbrev pub mark_noted : Mark → List Mark → List Mark
mark_noted m found = filter (λ k. not (k.node == m.node)) found ++ m ∷ []

-- each node's last execution before a tick, where these were so before
abbrev pub early_after : (from : ℕ) → Stroke → List Mark → List Mark
early_after from (Point m) found = if nat_lt m.time from && is_execution m.sign then mark_noted m found else found
early_after from (Line a) found = found
early_after from (Edge at) found = found

abbrev pub early_from : (from : ℕ) → (found : List Mark) → List Stroke → List Mark
early_from from found [] = found
early_from from found (x ∷ xs) = early_from from (early_after from x found) xs

-- the activations that count: those in the window, and each node's last execution before it, which tells at which instant the node is there
abbrev pub marks_in : Window → List Stroke → List Mark
marks_in w xs = early_from w.from [] xs ++ flat_map (mark_in w) xs

-- a message is on its way within the window
abbrev pub is_on_way : Window → Arrow → Bool
is_on_way w a = nat_le a.sent w.to && nat_le w.from a.come

-- the messages that were delivered and are
abbrev pub line_within : Window → Stroke → List Arrow
line_within w (Point m) = []
line_within w (Line a) = if is_on_way w a then a ∷ [] else []
line_within w (Edge at) = []

abbrev pub lines_in : Window → List Stroke → List Arrow
lines_in w xs = flat_map (line_within w) xs
