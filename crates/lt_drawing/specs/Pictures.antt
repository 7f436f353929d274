-- The picture of a schedule.
use Rattle.std.specs.Prelude.{ℕ, ◌==◌, List, ◌++◌, length, find, Option, Some, None, is_some, unwrap_or, if◌then◌else◌}
use Rattle.lt_arch.specs.declared.shape.Shape.{Shape}
use Rattle.lt_arch.specs.Paced.{allowed_of}
use Rattle.lt_audit.specs.Acts.{next_number}
use Rattle.lt_audit.specs.declared.miss.Miss.{Miss}
use Rattle.lt_text_lines.specs.ScheduleLines.{lossy_line}
use Rattle.lt_diagram.specs.declared.picture.Offence.{Offence}
use Rattle.lt_diagram.specs.declared.picture.Picture.{Picture}
use Rattle.lt_diagram.specs.declared.picture.Ring.{Ring}
use Rattle.lt_diagram.specs.declared.picture.Mark.{Mark}
use Rattle.lt_tape.specs.declared.window.Window.{Window}
use Rattle.lt_tape.specs.Kept.{is_in_window}
use Rattle.lt_tape.specs.Times.{time_or_zero}
use Rattle.lt_course.specs.declared.course.Course.{Course}
use Rattle.lt_course.specs.declared.course.RefusedEvent.{RefusedEvent}
use Rattle.lt_inspect.specs.declared.stage.Stage.{Stage}
use Rattle.lt_drawing.specs.declared.view.DrawView.{DrawView}
use Rattle.lt_drawing.specs.Kept.{arrows_if}
use Rattle.lt_drawing.specs.Titles.{alone_text, events_text, nodes_text, note_text, protocol_text, ring_text, refused_row_text, ticks_text, title_text}

-- the line below the title
abbrev pub facts_text : Stage → Course → List ℕ
facts_text k c =
    protocol_text k.ground.pace k.ground.timing.protocol ++ nodes_text (length k.ground.shape.nodes) ++ events_text c.excerpt.shown c.excerpt.count
    ++ ticks_text c.excerpt.window c.excerpt.last c.refused ++ alone_text k.ground.shape k.ground.node

-- the event of this number that is refused, with the line of a run that refuses it
abbrev pub shown_refusal : Shape → (number : ℕ) → RefusedEvent → Offence
shown_refusal s number r = record {
  time = r.time;
  refusal = lossy_line s number r.offence;
  row = refused_row_text number r.row r.offence;
  note = note_text (time_or_zero r.bound) r.offence;
  wrong = r.wrong;
}

abbrev pub refusal_in : Shape → (number : ℕ) → Option RefusedEvent → Option Offence
refusal_in s number None = None
refusal_in s number (Some r) = Some (shown_refusal s number r)

-- the first execution with a message too few or too many, where its event is drawn
abbrev pub ring_at : Shape → Window → (time : ℕ) → Miss → Option Ring
ring_at s w time m = if is_in_window w time then Some (record { event = m.event; node = m.node; time = time; line = ring_text s m }) else None

abbrev pub ring_of : Shape → Window → Option Mark → Miss → Option Ring
ring_of s w None m = None
ring_of s w (Some k) m = ring_at s w k.time m

abbrev pub ring_in : Shape → Window → List Mark → Option Miss → Option Ring
ring_in s w marks None = None
ring_in s w marks (Some m) = ring_of s w (find (λ k. k.event == m.event) marks) m

-- the picture of a schedule over its stage
abbrev pub picture_of : (schedule config : List ℕ) → DrawView → Stage → Course → Picture
picture_of schedule config view k c = record {
  width = unwrap_or view.width 760;
  from = c.excerpt.window.from;
  to = c.excerpt.window.to;
  title = title_text schedule config;
  facts = facts_text k c;
  names = k.ground.shape.nodes;
  marks = c.excerpt.marks;
  arrows = arrows_if c.excerpt.window k.ground.node c.refused c.excerpt.lines ++ arrows_if c.excerpt.window k.ground.node c.refused c.pending;
  again = is_some (allowed_of k.ground.pace);
  offence = refusal_in k.ground.shape (next_number c.excerpt.count) c.refused;
  ring = ring_in k.ground.shape c.excerpt.window c.excerpt.marks c.miss;
}
