-- The schedule file of a list of events.
use Rattle.std.specs.Prelude.{ℕ, List, [], ◌∷◌, ◌++◌, codes, length, nat_lt, if◌then◌else◌}
use Rattle.lt_arch.specs.declared.event.Event.{Event}
use Rattle.lt_arch.specs.declared.shape.Shape.{Shape}
use Rattle.lt_rows.specs.Limits.{most_events}
use Rattle.lt_rows.specs.Texts.{event_text}

-- the rows of these events, each with its line feed
abbrev pub rows_text : Shape → List Event → List ℕ
rows_text s [] = []
rows_text s (e ∷ es) = (event_text s e ++ 10 ∷ []) ++ rows_text s es

abbrev pub header_text : List ℕ
header_text = codes "time,event,place" ++ 10 ∷ []

-- the header and the rows
abbrev pub file_text : Shape → List Event → List ℕ
file_text s es = header_text ++ rows_text s es

-- what is written of a list: its file, or nothing where it has more events than a schedule may have
abbrev pub schedule_text : Shape → List Event → List ℕ
schedule_text s es = if nat_lt most_events (length es) then [] else file_text s es
