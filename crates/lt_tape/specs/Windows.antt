-- Which ticks are drawn.
use Rattle.std.specs.Prelude.{ℕ, ◌+◌, ◌-◌, ◌*◌, ◌/◌, ◌&&◌, min, max, nat_le, nat_lt, Bool, List, [], ◌∷◌, length, take, Option, Some, None, is_some, unwrap_or, if◌then◌else◌}
use Rattle.lt_arch.specs.declared.limits.TheConstants.{GREATEST_TIME}
use Rattle.lt_tape.specs.declared.asked.Asked.{Asked}
use Rattle.lt_tape.specs.declared.stroke.Stroke.{Stroke}
use Rattle.lt_tape.specs.declared.window.Window.{Window}
use Rattle.lt_tape.specs.Times.{last_time, stroke_time, stroke_time_at}

-- how many events of so many nodes are drawn where nothing is asked
abbrev pub most_shown : (nodes : ℕ) → ℕ
most_shown nodes = max (60 * nodes) 120

-- the latest tick at which a picture begins, past the range of times
abbrev pub latest_tick : ℕ
latest_tick = 2 * GREATEST_TIME

-- how many events come before the first one at a tick or after it
abbrev pub skipped_to : (from : ℕ) → List Stroke → ℕ
skipped_to from [] = 0
skipped_to from (x ∷ xs) = if nat_le from (stroke_time x) then 0 else skipped_to from xs + 1

-- when the last one happened of so many events from that one on, or the last of all
abbrev pub reach_time : (from most : ℕ) → List Stroke → ℕ
reach_time from most xs = last_time (take (skipped_to from xs + most) xs)

-- there are more events from a tick on
abbrev pub goes_beyond : (from most : ℕ) → List Stroke → Bool
goes_beyond from most xs = nat_lt (skipped_to from xs + most) (length xs)

-- a fortieth past the latest time that matters of a list with an offence
abbrev pub past_stop : (stop : ℕ) → ℕ
past_stop stop = min stop latest_tick + max (min stop latest_tick / 40) 1

-- where nothing is asked, a picture begins with the beginning, or with the last events before an offence; stop is the latest time that matters of an offence
abbrev pub default_from : (most : ℕ) → List Stroke → (stop : Option ℕ) → ℕ
default_from most xs None = 0
default_from most xs (Some stop) = if nat_lt most (length xs) then stroke_time_at xs (length xs - most) else 0

-- it ends where enough is drawn, or past an offence that comes before
abbrev pub default_to : (begins : Bool) → (from most : ℕ) → List Stroke → (stop : Option ℕ) → ℕ
default_to begins from most xs None = reach_time from most xs
default_to begins from most xs (Some stop) = if begins && goes_beyond from most xs then reach_time from most xs else past_stop (max (last_time xs) stop)

abbrev pub first_tick : Asked → (most : ℕ) → List Stroke → (stop : Option ℕ) → ℕ
first_tick asked most xs stop = min (unwrap_or asked.from (default_from most xs stop)) latest_tick

abbrev pub last_tick : Asked → (from most : ℕ) → List Stroke → (stop : Option ℕ) → ℕ
last_tick asked from most xs stop = max (unwrap_or asked.to (default_to (is_some asked.from) from most xs stop)) (from + 1)

-- which ticks are drawn of events of so many nodes
abbrev pub window_of : Asked → (nodes : ℕ) → List Stroke → (stop : Option ℕ) → Window
window_of asked nodes xs stop = record {
  from = first_tick asked (most_shown nodes) xs stop;
  to = last_tick asked (first_tick asked (most_shown nodes) xs stop) (most_shown nodes) xs stop;
}
