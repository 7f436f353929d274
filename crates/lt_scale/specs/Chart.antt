-- Where instants stand.
use Rattle.std.specs.Prelude.{ℕ, ◌+◌, ◌-◌, ◌*◌, ◌/◌, min, max, Bool, ◌&&◌, nat_le, nat_lt, List, length}
use Rattle.lt_base.specs.declared.value.Cell.{Cell}
use Rattle.lt_scale.specs.declared.chart.Chart.{Chart}

-- how wide a picture is: as is wished, between two bounds
abbrev pub picture_width : (wish : ℕ) → ℕ
picture_width wish = min (max wish 400) 10000

-- as large a part of the room as the part is of the whole, rounded down, and no more than the room; a whole of 0 counts as 1
unfoldable pub share_of : (part whole room : ℕ) → ℕ
share_of part whole room = min (part * room / max whole 1) room

-- the first of a stream's cells that are shown, and the end of them
unfoldable pub window_start : (first : ℕ) → List Cell → ℕ
window_start first cells = min first (length cells)

unfoldable pub window_end : (first count : ℕ) → List Cell → ℕ
window_end first count cells = min (first + count) (length cells)

-- where an instant begins
unfoldable pub instant_x : Chart → (k : ℕ) → ℕ
instant_x c k = c.left + share_of (k - c.first) c.count c.breadth

-- the middle of an instant
unfoldable pub instant_middle : Chart → (k : ℕ) → ℕ
instant_middle c k = (instant_x c k + instant_x c (k + 1)) / 2

-- where the last instant ends
unfoldable pub chart_right : Chart → ℕ
chart_right c = c.left + c.breadth

-- how wide an instant is
unfoldable pub instant_width : Chart → ℕ
instant_width c = c.breadth / max c.count 1

-- an instant is shown
unfoldable pub shows_instant : Chart → (k : ℕ) → Bool
shows_instant c k = nat_le c.first k && nat_lt k (c.first + c.count)

-- the beginning of an instant is shown, be it as the end of the one before
unfoldable pub shows_end : Chart → (k : ℕ) → Bool
shows_end c k = nat_le c.first k && nat_le k (c.first + c.count)
