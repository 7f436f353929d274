-- A schedule of the events that are selected.
use Rattle.std.specs.Prelude.{ℕ, List, [], ◌∷◌, ◌++◌, codes, filter}
use Rattle.lt_arch.specs.declared.event.Event.{Event}
use Rattle.lt_arch.specs.declared.shape.Shape.{Shape}
use Rattle.lt_rows.specs.Texts.{event_text}
use Rattle.lt_audit.specs.declared.selection.Selection.{Selection}
use Rattle.lt_audit.specs.Selected.{selected}

-- the rows of these events, each with its line feed
abbrev pub trace_rows_text : Shape → List Event → List ℕ
trace_rows_text s [] = []
trace_rows_text s (e ∷ es) = (event_text s e ++ 10 ∷ []) ++ trace_rows_text s es

-- the header's line
abbrev pub trace_header_text : List ℕ
trace_header_text = codes "time,event,place\n"

-- the header, and then the rows of the events that are selected, in order
abbrev pub trace_text : Selection → Shape → List Event → List ℕ
trace_text sel s events = trace_header_text ++ trace_rows_text s (filter (selected sel s) events)
