-- Whether things have room, and so which distance ticks have.
use Rattle.std.specs.Prelude.{ℕ, ◌+◌, ◌*◌, Bool, nat_le, List, [], ◌∷◌, if◌then◌else◌}
use Rattle.lt_scale.specs.declared.chart.Chart.{Chart}
use Rattle.lt_scale.specs.declared.band.Band.{Band}
use Rattle.lt_scale.specs.Chart.{share_of, instant_width}
use Rattle.lt_scale.specs.Scale.{decimal_width, widest_value}

-- an instant is wide enough for a dot, and for the widest value of a scale
unfoldable pub dots_fit : Chart → Bool
dots_fit c = nat_le 6 (instant_width c)

unfoldable pub values_fit : Chart → Band → Bool
values_fit c b = nat_le (6 * widest_value b.scale + 4) (instant_width c)

-- the distances that two ticks may have
abbrev pub tick_steps : List ℕ
tick_steps = 1 ∷ 2 ∷ 5 ∷ 10 ∷ 20 ∷ 50 ∷ 100 ∷ 200 ∷ 500 ∷ 1000 ∷ 2000 ∷ 5000 ∷ 10000 ∷ 20000 ∷ 50000 ∷ 100000 ∷ 200000 ∷ 500000 ∷ []

-- two ticks at this distance leave so much room
unfoldable pub step_fits : Chart → (room step : ℕ) → Bool
step_fits c room step = nat_le room (share_of step c.count c.breadth)

-- the first of some distances that leaves so much room
unfoldable pub first_fitting : Chart → (room : ℕ) → (steps : List ℕ) → ℕ
first_fitting c room [] = 1000000
first_fitting c room (s ∷ ss) = if step_fits c room s then s else first_fitting c room ss

-- the least distance at which the numbers of ticks have room: 7 for each digit of the last, and for two more
unfoldable pub tick_step : Chart → ℕ
tick_step c = first_fitting c (7 * (decimal_width (c.first + c.count) + 2)) tick_steps
