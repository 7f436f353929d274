-- The setup of the large input fits its program.
use Rattle.std.specs.Prelude.{◌≡◌}
use Rattle.lt_front.specs.Flattened.{flat_of}
use Rattle.lt_place.specs.Legal.{Legal}
use Rattle.lt_timing.specs.Accepts.{Accepts}
use Rattle.lt_config.specs.declared.config.Config.{Config}
use Rattle.lt_config.specs.Reading.{setup_in}
use Rattle.lt_big_texts.specs.Bounds.{large_setup}
use Rattle.lt_big_accepted.specs.Program.{large_program}

-- a setup that says what the text does puts each variable of the program on one node, what one node reads of another is delayed, and its
-- timing is accepted
abbrev pub SetupFits : Type 0
SetupFits = (c : Config) → setup_in c ≡ large_setup → Legal (flat_of large_program) c.placement × Accepts c.timing
