-- The setup that the text of the large input's setup reads as, and why its horizon is late enough.
use Rattle.std.specs.Prelude.{◌≡◌, ◌≤◌, ◌<◌, ℕ, List, [], ◌∷◌, map, replicate, length, Some, Ok, false, codes}
use Rattle.lt_arch.specs.declared.named.NamedNode.{NamedNode}
use Rattle.lt_arch.specs.declared.pace.Pace.TheVariants.{Plain}
use Rattle.lt_arch.specs.declared.timing.Protocol.TheVariants.{BackPressure}
use Rattle.lt_arch.specs.Pairs.{ordered_pairs}
use Rattle.lt_timing.specs.Bounds.{bound_of}
use Rattle.lt_config.specs.declared.config.Config.{Config}
use Rattle.lt_config.specs.Setup.{NodeNumbers, PairNumbers, Setup}
use Rattle.lt_config.specs.Reading.{config_of, setup_in}
use Rattle.lt_big_texts.specs.Texts.{setup_text, horizon_of}

-- each output on a node of its own, and the input on that of the first
abbrev pub large_nodes : List NamedNode
large_nodes =
    record { name = codes "n0"; vars = codes "x" ∷ codes "y0" ∷ [] }
    ∷ record { name = codes "n1"; vars = codes "y1" ∷ [] }
    ∷ record { name = codes "n2"; vars = codes "y2" ∷ [] }
    ∷ record { name = codes "n3"; vars = codes "y3" ∷ [] }
    ∷ record { name = codes "n4"; vars = codes "y4" ∷ [] }
    ∷ record { name = codes "n5"; vars = codes "y5" ∷ [] }
    ∷ record { name = codes "n6"; vars = codes "y6" ∷ [] }
    ∷ record { name = codes "n7"; vars = codes "y7" ∷ [] }
    ∷ []

-- every node is activated 9 to 11 ticks after it was, and every message takes 1 to 4
abbrev pub node_bounds : NodeNumbers
node_bounds = record { tmin = 9; tmax = 11; send = 1; execute = 1 }

abbrev pub pair_bounds : ℕ × ℕ → PairNumbers
pair_bounds ends = record { from = ends.0; to = ends.1; dmin = 1; dmax = 4 }

abbrev pub large_setup : Setup
large_setup = record {
  times = replicate 8 node_bounds;
  delays = map pair_bounds (ordered_pairs 8);
  most = 4;
  protocol = BackPressure;
  placed = Some large_nodes;
  mixed = false;
  pace = Plain;
}

-- the text of the setup, which is not too long, reads as this
abbrev pub SetupRead : Type 0
SetupRead = (length setup_text ≤ 262144) × (config_of setup_text ≡ Ok large_setup)

-- by the horizon of so many instants each node has executed that many at least
abbrev pub HorizonServes : Type 0
HorizonServes = (c : Config) → setup_in c ≡ large_setup → (n instants : ℕ) → n < 8 → instants ≤ bound_of c.timing n (horizon_of instants)
