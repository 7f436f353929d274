-- The scale of a row: which values stand at its foot and at its head.
use Rattle.std.specs.Prelude.{ℕ, ℤ, pos, ◌+◌, ◌-◌, ◌*◌, ◌^◌, min, max, int_lt, unsigned_abs, Bool, true, false, ◌&&◌, ◌||◌, ◌==◌, nat_lt, nat_le, List, ◌++◌, length, codes, decimal, fold, if◌then◌else◌}
use Rattle.lt_base.specs.declared.value.Value.{Value}
use Rattle.lt_base.specs.declared.value.Value.TheVariants.{Int, Bool as Truth}
use Rattle.lt_base.specs.declared.value.Cell.{Cell}
use Rattle.lt_base.specs.declared.value.Cell.TheVariants.{Absent, Here}
use Rattle.lt_scale.specs.declared.scale.Range.{Range}
use Rattle.lt_scale.specs.declared.scale.Scale.{Scale}

-- the level of the number 0: levels count from the least number of 64 bits on
abbrev pub zero_level : ℕ
zero_level = 9223372036854775808

-- the level of a number
abbrev pub number_level : ℤ → ℕ
number_level n = if int_lt n (pos 0) then zero_level - unsigned_abs n else zero_level + unsigned_abs n

-- the place of a value among the values of its type, from the least on
unfoldable pub value_level : Value → ℕ
value_level (Int n) = number_level n
value_level (Truth true) = 1
value_level (Truth false) = 0

-- the least and the greatest level, with one cell more; an absent cell has none
abbrev pub range_widened : Range → Cell → Range
range_widened r Absent = r
range_widened r (Here v) = record { least = min r.least (value_level v); greatest = max r.greatest (value_level v) }

-- the range of no cell: its least level is above its greatest
abbrev pub no_range : Range
no_range = record { least = 18446744073709551615; greatest = 0 }

-- the least and the greatest level of some cells
abbrev pub cells_range : List Cell → Range
cells_range cells = fold range_widened no_range cells

-- 0 is to be on the scale: there is no cell, or 0 is no further from the range than three times its height
abbrev pub is_zero_near : Range → Bool
is_zero_near r = nat_lt r.greatest r.least || (nat_le (r.least - zero_level) (3 * (r.greatest - r.least)) && nat_le (zero_level - r.greatest) (3 * (r.greatest - r.least)))

abbrev pub range_with_zero : Range → Range
range_with_zero r = record { least = min r.least zero_level; greatest = max r.greatest zero_level }

-- the scale over a range; one value alone stands at the foot
abbrev pub scale_over_range : Range → (zero : Bool) → Scale
scale_over_range r zero = record { truth = false; low = r.least; high = max r.greatest (min (r.least + 1) 18446744073709551615); zero = zero }

abbrev pub range_scale : Range → Scale
range_scale r = if is_zero_near r then scale_over_range (range_with_zero r) true else scale_over_range r false

-- the scale of some cells: from `false` to `true`, or over their numbers
unfoldable pub cells_scale : (truth : Bool) → List Cell → Scale
cells_scale truth cells = if truth then record { truth = true; low = 0; high = 1; zero = true } else range_scale (cells_range cells)

-- the level from which the area below a line is filled
unfoldable pub scale_floor : Scale → ℕ
scale_floor s = if s.truth then 0 else zero_level

-- the value at a level
unfoldable pub level_text : (truth : Bool) → (level : ℕ) → List ℕ
level_text truth l =
    if truth then (if l == 0 then codes "false" else codes "true") else
    if nat_lt l zero_level then codes "-" ++ decimal (zero_level - l) else decimal (l - zero_level)

-- how many characters a number has, and the number at a level
unfoldable pub decimal_width : ℕ → ℕ
decimal_width n = length (decimal n)

abbrev pub level_width : (level : ℕ) → ℕ
level_width l = if nat_lt l zero_level then 1 + decimal_width (zero_level - l) else decimal_width (l - zero_level)

-- how many characters the widest value on a scale has
unfoldable pub widest_value : Scale → ℕ
widest_value s = if s.truth then 5 else max (level_width s.low) (level_width s.high)
