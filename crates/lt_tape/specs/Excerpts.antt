-- What a picture shows of a schedule's strokes.
use Rattle.std.specs.Prelude.{ℕ, List, length, Option}
use Rattle.lt_tape.specs.declared.asked.Asked.{Asked}
use Rattle.lt_tape.specs.declared.excerpt.Excerpt.{Excerpt}
use Rattle.lt_tape.specs.declared.stroke.Stroke.{Stroke}
use Rattle.lt_tape.specs.declared.window.Window.{Window}
use Rattle.lt_tape.specs.Kept.{count_in, lines_in, marks_in}
use Rattle.lt_tape.specs.Times.{last_time}
use Rattle.lt_tape.specs.Windows.{window_of}

-- in this window
abbrev pub excerpt_in : Window → List Stroke → Excerpt
excerpt_in w xs = record { window = w; count = length xs; shown = count_in w 0 xs; last = last_time xs; marks = marks_in w xs; lines = lines_in w xs }

-- in the one that is asked, of events of so many nodes, where stop is the latest time that matters of an offence behind them
abbrev pub excerpt_of : Asked → (nodes : ℕ) → (stop : Option ℕ) → List Stroke → Excerpt
excerpt_of asked nodes stop xs = excerpt_in (window_of asked nodes xs stop) xs
