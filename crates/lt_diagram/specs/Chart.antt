-- Where times and nodes stand in a picture, in whole numbers from its upper left corner. A quotient is its floor.
use Rattle.std.specs.Prelude.{ℕ, ◌+◌, ◌-◌, ◌*◌, ◌/◌, ◌&&◌, ◌==◌, nat_le, min, max, Bool, List, [], ◌∷◌, length, decimal, if◌then◌else◌}
use Rattle.lt_diagram.specs.declared.chart.Chart.{Chart}

-- a place between a and b, by which part of the way from a it lies at
abbrev pub part_way : (a b part whole : ℕ) → ℕ
part_way a b part whole =
    let share = (max a b - min a b) * min part whole / max whole 1 in
    if nat_le a b then a + share else a - share

-- where a time stands; one outside the window stands at its edge
unfoldable pub x_at : Chart → (time : ℕ) → ℕ
x_at c time = part_way c.left (c.left + c.breadth) (time - c.from) (c.to - c.from)

-- where the row of a node begins, and where its line stands
unfoldable pub row_top : Chart → (node : ℕ) → ℕ
row_top c node = c.top + node * c.row

unfoldable pub y_at : Chart → (node : ℕ) → ℕ
y_at c node = row_top c node + c.row / 2

-- where the last row ends
unfoldable pub bottom : Chart → ℕ
bottom c = row_top c c.nodes

-- whether a time is in the window
abbrev pub is_within : Chart → (time : ℕ) → Bool
is_within c time = nat_le c.from time && nat_le time c.to

-- the steps that an axis may have, and those at which instants are numbered
abbrev pub step_table : List ℕ
step_table =
    1 ∷ 2 ∷ 5 ∷ 10 ∷ 20 ∷ 50 ∷ 100 ∷ 200 ∷ 500 ∷ 1000 ∷ 2000 ∷ 5000 ∷ 10000 ∷ 20000 ∷ 50000 ∷ 100000 ∷ 200000 ∷ 500000
    ∷ 1000000 ∷ 2000000 ∷ 5000000 ∷ 10000000 ∷ 20000000 ∷ 50000000 ∷ 100000000 ∷ 200000000 ∷ 500000000
    ∷ 1000000000 ∷ 2000000000 ∷ 5000000000 ∷ 10000000000 ∷ 20000000000 ∷ 50000000000 ∷ 100000000000 ∷ 200000000000 ∷ 500000000000
    ∷ 1000000000000 ∷ 2000000000000 ∷ 5000000000000 ∷ 10000000000000 ∷ 20000000000000 ∷ 50000000000000
    ∷ 100000000000000 ∷ 200000000000000 ∷ 500000000000000 ∷ []

-- the first of these steps that takes so much room, where so many units take so much breadth
abbrev pub fitting_step : (room breadth units : ℕ) → List ℕ → ℕ
fitting_step room breadth units [] = 1000000000000000
fitting_step room breadth units (s ∷ ss) = if nat_le room (s * breadth / max units 1) then s else fitting_step room breadth units ss

-- the least one
unfoldable pub nice_step : (room breadth units : ℕ) → ℕ
nice_step room breadth units = fitting_step room breadth units step_table

-- how many digits a number has, as far as numbers of 64 bits go
unfoldable pub digit_count : ℕ → ℕ
digit_count n = min (length (decimal n)) 20

-- the length of the longest name, of which no more than 16 characters are shown
abbrev pub widest_from : (best : ℕ) → List (List ℕ) → ℕ
widest_from best [] = best
widest_from best (n ∷ ns) = widest_from (max best (min (length n) 16)) ns

unfoldable pub widest : List (List ℕ) → ℕ
widest ns = widest_from 0 ns

-- how much stands to the left of the window: a margin, and the names or the word below them
abbrev pub gutter : (digits widest : ℕ) → ℕ
gutter digits widest = 26 + 7 * max (4 + digits / 2) widest

-- the width of a picture, within its limits; and how many characters a line of it has
abbrev pub bounded_width : ℕ → ℕ
bounded_width w = min (max w 400) 10000

abbrev pub per_line : (width : ℕ) → ℕ
per_line w = (bounded_width w - 24) / 7

-- how many lines of so many characters a text takes, of which no more than 40 are shown
abbrev pub line_count : (per : ℕ) → List ℕ → ℕ
line_count per text = if length text == 0 then 0 else min ((length text - 1) / max per 1) 39 + 1

-- how high the row of one of so many nodes is
abbrev pub row_height : (nodes : ℕ) → ℕ
row_height nodes = max (min (380 / max nodes 1) 84) 40

-- how many nodes there are, as far as a number of 32 bits goes
abbrev pub node_count_of : List (List ℕ) → ℕ
node_count_of names = min (length names) 4294967295
