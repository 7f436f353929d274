-- What is kept of strokes while they come, and for which strokes it stands.
use Rattle.std.specs.Prelude.{◌≡◌, ℕ, ◌+◌, ◌-◌, ◌<◌, ◌≤◌, ◌==◌, ◌&&◌, max, min, nat_le, nat_lt, Bool, true, List, [], ◌∷◌, ◌++◌, length, take, drop, find, Option, Some, None, option_map, unwrap_or, All, if◌then◌else◌}
use Rattle.std.specs.List.{filter, flat_map}
use Rattle.lt_diagram.specs.declared.picture.Mark.{Mark}
use Rattle.lt_tape.specs.declared.asked.Asked.{Asked}
use Rattle.lt_tape.specs.declared.excerpt.Excerpt.{Excerpt}
use Rattle.lt_tape.specs.declared.stroke.Stroke.{Stroke}
use Rattle.lt_tape.specs.declared.stroke.Stroke.TheVariants.{Point, Line, Edge}
use Rattle.lt_tape.specs.declared.tally.Tally.{Tally}
use Rattle.lt_tape.specs.declared.front.Front.{Front}
use Rattle.lt_tape.specs.declared.tail.Tail.{Tail}
use Rattle.lt_tape.specs.declared.tape.Tape.{Tape}
use Rattle.lt_tape.specs.declared.window.Window.{Window}
use Rattle.lt_tape.specs.Kept.{count_in, early_after, early_from, lines_in, mark_in, mark_noted}
use Rattle.lt_tape.specs.Times.{IsTimelyStroke, last_mark, last_time, stroke_begin, stroke_time, stroke_time_at}
use Rattle.lt_tape.specs.Windows.{goes_beyond, latest_tick, most_shown, past_stop, reach_time, skipped_to}

-- a stroke counts in a window: its event is in it, or its message is on its way
abbrev pub is_loud : Window → Stroke → Bool
is_loud w x = nat_le w.from (stroke_time x) && nat_le (stroke_begin x) w.to

-- as many events were taken as are drawn from the tick on where nothing is asked
abbrev pub is_full : Tally → Bool
is_full c = nat_le c.most (c.count - c.skipped)

-- one event more is counted, which happens then
abbrev pub tally_after : Tally → (at : ℕ) → Tally
tally_after c at = record {
  from = c.from;
  most = c.most;
  count = c.count + 1;
  skipped = if (c.skipped == c.count) && nat_lt at c.from then c.skipped + 1 else c.skipped;
  reach = if is_full c then c.reach else at;
  last = at;
}

-- none is counted so far
abbrev pub fresh_tally : (from most : ℕ) → Tally
fresh_tally from most = record { from = from; most = most; count = 0; skipped = 0; reach = 0; last = 0 }

-- it has counted these
pub record IsTallyOf (c : Tally) (xs : List Stroke) : Type 0 where
  pub some : 1 ≤ c.most
  pub count : c.count ≡ length xs
  pub skipped : c.skipped ≡ skipped_to c.from xs
  pub reach : c.reach ≡ reach_time c.from c.most xs
  pub last : c.last ≡ last_time xs

-- the tick past which no event is drawn, as far as it is known: the one that is asked, or where enough is drawn
abbrev pub end_by : (to : Option ℕ) → Tally → (after : ℕ) → Option ℕ
end_by (Some to) c after = Some (max to after)
end_by None c after = if is_full c then Some (max c.reach after) else None

abbrev pub is_before_end : Option ℕ → Stroke → Bool
is_before_end None x = true
is_before_end (Some end) x = nat_le (stroke_begin x) end

-- a stroke that comes next may be drawn
abbrev pub is_taped : Front → Stroke → Bool
is_taped f x = nat_le f.tally.from (stroke_time x) && is_before_end (end_by f.to f.tally f.after) x

-- it is taken
abbrev pub front_after : Front → Stroke → Front
front_after f x = record {
  to = f.to;
  after = f.after;
  tally = tally_after f.tally (stroke_time x);
  kept = if is_taped f x then f.kept ++ x ∷ [] else f.kept;
  early = early_after f.tally.from x f.early;
}

-- a picture of these strokes from a tick on ends there: where it is asked, or where enough is drawn, if they go beyond that
abbrev pub EndsThere : (asked : Option ℕ) → (from most : ℕ) → List Stroke → (to : ℕ) → Type 0
EndsThere (Some end) from most xs to = to ≡ max end (from + 1)
EndsThere None from most xs to = goes_beyond from most xs ≡ true → to ≡ max (reach_time from most xs) (from + 1)

-- what is kept from a tick on stands for these strokes: in each such window the same count
pub record IsFrontOf (f : Front) (xs : List Stroke) : Type 0 where
  pub tally : IsTallyOf f.tally xs
  pub after : f.after ≡ f.tally.from + 1
  pub early : f.early ≡ early_from f.tally.from [] xs
  pub kept : (to : ℕ) → EndsThere f.to f.tally.from f.tally.most xs to → filter (is_loud (record { from = f.tally.from; to = to })) f.kept ≡ filter (is_loud (record { from = f.tally.from; to = to })) xs

-- what is kept of the last strokes: of those before, each node's last execution
pub record IsTailOf (t : Tail) (xs : List Stroke) : Type 0 where
  pub some : 1 ≤ t.most
  pub gone : List Stroke
  pub all : xs ≡ gone ++ t.kept
  pub before : All (λ x. stroke_time x < stroke_time_at xs (length xs - t.most)) gone
  pub enough : 0 < length gone → t.most ≤ length t.kept
  pub early : (from : ℕ) → All (λ x. stroke_time x < from) gone → t.early ≡ early_from from [] gone

-- what happened before the last events but so many is no longer kept
abbrev pub pruned_at : (cut : ℕ) → Tail → (limit : ℕ) → Tail
pruned_at cut t limit = record { most = t.most; limit = limit; kept = drop (skipped_to cut t.kept) t.kept; early = early_from cut t.early (take (skipped_to cut t.kept) t.kept) }

abbrev pub IsPruned : Tail → Tail → Type 0
IsPruned t u = u ≡ pruned_at (stroke_time_at t.kept (length t.kept - t.most)) t u.limit

-- times never go back
abbrev pub AreOrdered : List Stroke → Type 0
AreOrdered xs = (i j : ℕ) → i ≤ j → j < length xs → stroke_time_at xs i ≤ stroke_time_at xs j

-- each node's last activation
abbrev pub latest_after : Stroke → List Mark → List Mark
latest_after (Point m) found = mark_noted m found
latest_after (Line a) found = found
latest_after (Edge at) found = found

-- what is kept of these strokes, of so many nodes, where this is asked
pub record IsTapeOf (t : Tape) (asked : Asked) (nodes : ℕ) (xs : List Stroke) : Type 0 where
  pub front : IsFrontOf t.front xs
  pub tail : IsTailOf t.tail xs
  pub latest : (n : ℕ) → option_map (λ m. m.time) (find (λ k. k.node == n) t.latest) ≡ last_mark n xs
  pub ordered : AreOrdered xs
  pub timely : All IsTimelyStroke xs
  pub asked_is : t.asked ≡ asked
  pub to_is : t.front.to ≡ asked.to
  pub from_is : t.front.tally.from ≡ min (unwrap_or asked.from 0) latest_tick
  pub front_most : t.front.tally.most ≡ most_shown nodes
  pub tail_most : t.tail.most ≡ most_shown nodes

-- how many strokes came to it
abbrev pub tape_count : Tape → ℕ
tape_count t = t.front.tally.count

-- where a picture from a tick on ends: where it is asked, where enough is drawn, or past an offence that comes before
abbrev pub open_end : Tally → (begins : Bool) → (stop : Option ℕ) → ℕ
open_end c begins None = c.reach
open_end c begins (Some stop) = if begins && nat_lt c.most (c.count - c.skipped) then c.reach else past_stop (max c.last stop)

abbrev pub front_end : Front → (begins : Bool) → (stop : Option ℕ) → ℕ
front_end f begins stop = max (unwrap_or f.to (open_end f.tally begins stop)) f.after

-- where a picture of the last events begins
abbrev pub tail_begin : Tail → (count : ℕ) → ℕ
tail_begin t count = min (if nat_lt t.most count then stroke_time_at t.kept (length t.kept - t.most) else 0) latest_tick

-- what a picture shows, by what is kept and these marks before it
abbrev pub kept_excerpt : Window → (count last : ℕ) → (early : List Mark) → (kept : List Stroke) → Excerpt
kept_excerpt w count last early kept = record { window = w; count = count; shown = count_in w 0 kept; last = last; marks = early ++ flat_map (mark_in w) kept; lines = lines_in w kept }

abbrev pub front_excerpt : Front → Window → Excerpt
front_excerpt f w = kept_excerpt w f.tally.count f.tally.last f.early f.kept

abbrev pub tail_excerpt : Tail → (count last : ℕ) → Window → Excerpt
tail_excerpt t count last w = kept_excerpt w count last (early_from w.from t.early t.kept) t.kept

abbrev pub tail_window : Tape → (stop : ℕ) → Window
tail_window t stop = record {
  from = tail_begin t.tail t.front.tally.count;
  to = max (unwrap_or t.asked.to (past_stop (max t.front.tally.last stop))) (tail_begin t.tail t.front.tally.count + 1);
}

abbrev pub front_window : Tape → (begins : Bool) → (stop : Option ℕ) → Window
front_window t begins stop = record { from = t.front.tally.from; to = front_end t.front begins stop }
