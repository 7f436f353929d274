-- Where the values of a row stand.
use Rattle.std.specs.Prelude.{ℕ, ◌+◌, ◌-◌, min, Bool, if◌then◌else◌}
use Rattle.lt_scale.specs.declared.band.Band.{Band}
use Rattle.lt_scale.specs.declared.scale.Scale.{Scale}
use Rattle.lt_scale.specs.Chart.{share_of}

-- the height of a row's scale
abbrev pub band_height : (truth : Bool) → ℕ
band_height truth = if truth then 20 else 56

-- the top of the row below one; none is below the last number of 32 bits
unfoldable pub top_below : (top : ℕ) → (truth : Bool) → ℕ
top_below top truth = min (top + (band_height truth + 18)) 4294967295

-- the place of a row with this scale
unfoldable pub band_in : (top : ℕ) → Scale → Band
band_in top s = record { top = top; height = band_height s.truth; scale = s }

-- the foot of the scale
unfoldable pub band_base : Band → ℕ
band_base b = b.top + 9 + b.height

-- the height at which a level stands: as far above the foot as the level is on the scale
unfoldable pub level_y : Band → (level : ℕ) → ℕ
level_y b l = band_base b - share_of (l - b.scale.low) (b.scale.high - b.scale.low) b.height
