-- When events happened, by what they are drawn as.
use Rattle.std.specs.Prelude.{◌≤◌, ℕ, ◌-◌, ◌==◌, min, List, [], ◌∷◌, length, Option, Some, None, slice_index_or, if◌then◌else◌}
use Rattle.lt_arch.specs.declared.limits.TheConstants.{GREATEST_TIME}
use Rattle.lt_tape.specs.declared.stroke.Stroke.{Stroke}
use Rattle.lt_tape.specs.declared.stroke.Stroke.TheVariants.{Point, Line, Edge}

abbrev pub stroke_time : Stroke → ℕ
stroke_time (Point m) = m.time
stroke_time (Line a) = a.come
stroke_time (Edge at) = at

-- where it begins: a message with its sending
abbrev pub stroke_begin : Stroke → ℕ
stroke_begin (Point m) = m.time
stroke_begin (Line a) = min a.sent a.come
stroke_begin (Edge at) = at

-- when the event at this place happened, and 0 past the last one
abbrev pub stroke_time_at : List Stroke → (place : ℕ) → ℕ
stroke_time_at xs place = stroke_time (slice_index_or xs place (Edge 0))

-- when the last event happened
abbrev pub last_time : List Stroke → ℕ
last_time xs = stroke_time_at xs (length xs - 1)

-- the time of node n's last activation, where there was this one before
abbrev pub later_mark : (n : ℕ) → (found : Option ℕ) → Stroke → Option ℕ
later_mark n found (Point m) = if n == m.node then Some m.time else found
later_mark n found (Line a) = found
later_mark n found (Edge at) = found

abbrev pub last_mark_from : (n : ℕ) → (found : Option ℕ) → List Stroke → Option ℕ
last_mark_from n found [] = found
last_mark_from n found (x ∷ xs) = last_mark_from n (later_mark n found x) xs

abbrev pub last_mark : (n : ℕ) → List Stroke → Option ℕ
last_mark n xs = last_mark_from n None xs

-- within the range of times
abbrev pub IsTimelyStroke : Stroke → Type 0
IsTimelyStroke x = stroke_time x ≤ GREATEST_TIME

-- a time, or 0 where there is none
abbrev pub time_or_zero : Option ℕ → ℕ
time_or_zero None = 0
time_or_zero (Some at) = at
