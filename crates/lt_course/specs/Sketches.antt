-- What an event is drawn as, by what is read of an auditor before and after it.
use Rattle.std.specs.Prelude.{◌≡◌, ℕ, List}
use Rattle.lt_arch.specs.declared.event.Deed.{Deed}
use Rattle.lt_arch.specs.declared.event.Event.{Event}
use Rattle.lt_arch.specs.declared.event.Event.TheVariants.{Act, Del, End}
use Rattle.lt_arch.specs.declared.shape.Shape.{Shape}
use Rattle.lt_place_reads.specs.declared.crossing.Crossing.{Crossing}
use Rattle.lt_audit.specs.Audit.{AuditState, chan_at, member_at}
use Rattle.lt_diagram.specs.declared.picture.Fate.TheVariants.{Delivered}
use Rattle.lt_tape.specs.declared.stroke.Stroke.{Stroke}
use Rattle.lt_tape.specs.declared.stroke.Stroke.TheVariants.{Point, Line, Edge}
use Rattle.lt_course.specs.Strokes.{arrow_of, first_sent_or, sign_of}

-- by its deed, how many instants its node has executed, and the send time of the message that it hands over
abbrev pub stroke_by : List Crossing → Shape → (number : ℕ) → Deed → (executed sent : ℕ) → Event → Stroke
stroke_by cross s number deed executed sent (Act n at) = Point (record { event = number; node = n; time = at; sign = sign_of deed executed })
stroke_by cross s number deed executed sent (Del c at) = Line (arrow_of cross s c sent at (Delivered number))
stroke_by cross s number deed executed sent (End at) = Edge at

-- an activation comes at a node that has executed so many instants
abbrev pub IsExecuted : AuditState → Event → (executed : ℕ) → Type 0
IsExecuted a (Act n at) executed = executed ≡ (member_at a.members n).executed
IsExecuted a (Del c at) executed = Unit {0}
IsExecuted a (End at) executed = Unit {0}

-- a delivery hands over a message that was sent at this time
abbrev pub IsSent : AuditState → Event → (sent : ℕ) → Type 0
IsSent a (Act n at) sent = Unit {0}
IsSent a (Del c at) sent = sent ≡ first_sent_or at (chan_at a.chans c).transit
IsSent a (End at) sent = Unit {0}

-- an activation did this deed
abbrev pub IsDeedDone : AuditState → Event → Deed → Type 0
IsDeedDone a (Act n at) deed = deed ≡ (member_at a.members n).did
IsDeedDone a (Del c at) deed = Unit {0}
IsDeedDone a (End at) deed = Unit {0}
