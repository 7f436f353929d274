-- What is asked of each value of a table.
use Rattle.std.specs.Prelude.{Bool}
use Rattle.toml.specs.Data.{Data}
use Rattle.lt_config.specs.declared.values.Wanted.{Wanted}
use Rattle.lt_config.specs.declared.values.Wanted.TheVariants.{Texts, Pair, Integer, Period, Delay, Countdown}
use Rattle.lt_config.specs.Values.{is_texts, is_pair, is_integer, is_period, is_delay_pair, is_countdown}

-- a value passes the test of this name
abbrev pub is_wanted : Wanted → Data → Bool
is_wanted Texts d = is_texts d
is_wanted Pair d = is_pair d
is_wanted Integer d = is_integer d
is_wanted Period d = is_period d
is_wanted Delay d = is_delay_pair d
is_wanted Countdown d = is_countdown d
