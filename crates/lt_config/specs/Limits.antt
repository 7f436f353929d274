-- The limits of a setup.
use Rattle.std.specs.Prelude.{ℕ}

-- the greatest upper bound of a period or a delay, in ticks
abbrev pub greatest_bound : ℕ
greatest_bound = 1000000000

-- the greatest countdown, in activations
abbrev pub greatest_countdown : ℕ
greatest_countdown = 4000000000000000000

-- the most nodes
abbrev pub most_nodes : ℕ
most_nodes = 32
