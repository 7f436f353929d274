-- Rows that stand as they are written, but for zeros in front of the time.
use Rattle.std.specs.Prelude.{◌≡◌, ◌<◌, ◌≤◌, ℕ, List, ◌∷◌, ◌++◌, length, Some}
use Rattle.lt_arch.specs.declared.chan.ChanKind.{ChanKind}
use Rattle.lt_arch.specs.declared.event.Event.{Event}
use Rattle.lt_arch.specs.declared.shape.Shape.{Shape}
use Rattle.lt_arch.specs.Readers.{node_count, chan_count, chan_of}
use Rattle.lt_arch.specs.Schedule.{IsEventOf}
use Rattle.lt_arch.specs.Step.{time_of}
use Rattle.lt_base.specs.Limits.{longest_line, greatest_time}
use Rattle.lt_rows.specs.Events.{time_in, node_name, ends_text}
use Rattle.lt_rows.specs.Texts.{event_place_text}

-- node n has this name
pub record IsNodeOf (s : Shape) (name : List ℕ) (n : ℕ) : Type 0 where
  pub within : n < node_count s
  pub name_is : name ≡ node_name s n

-- channel c has this kind and these ends
pub record IsChanOf (s : Shape) (kind : ChanKind) (ends : List ℕ) (c : ℕ) : Type 0 where
  pub within : c < chan_count s
  pub kind_is : kind ≡ (chan_of s c).kind
  pub ends_are : ends ≡ ends_text s (chan_of s c)

-- the line is a time, a comma and this rest
pub record IsTimed (line : List ℕ) (time : ℕ) (rest : List ℕ) : Type 0 where
  pub digits : List ℕ
  pub line_is : line ≡ digits ++ 44 ∷ rest
  pub time_is : time_in digits ≡ Some time
  pub in_range : time ≤ greatest_time
  pub short : length line ≤ longest_line

-- the rest is the kind and the place of this event
pub record IsWritten (s : Shape) (rest : List ℕ) (time : ℕ) (e : Event) : Type 0 where
  pub of_shape : IsEventOf s e
  pub time_is : time_of e ≡ time
  pub rest_is : rest ≡ event_place_text s e
