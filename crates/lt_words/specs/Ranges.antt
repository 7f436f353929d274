-- The ranges of a command's numbers.
use Rattle.std.specs.Prelude.{◌≤◌}
use Rattle.lt_words.specs.declared.command.Command.{Command}
use Rattle.lt_words.specs.declared.command.Command.TheVariants.{Check, Meaning, Run, Plan, Sim, Big, Watch, Audit, Trace}
use Rattle.lt_base.specs.Limits.{greatest_time, most_rows}

-- times are up to the greatest one, and instants up to the most
abbrev pub HasRanges : Command → Type 0
HasRanges (Check program config) = Unit {0}
HasRanges (Meaning program inputs) = Unit {0}
HasRanges (Run program inputs schedule config) = Unit {0}
HasRanges (Plan config horizon) = Unit {0}
HasRanges (Sim program inputs config seed horizon) = horizon ≤ greatest_time
HasRanges (Big instants) = instants ≤ most_rows
HasRanges (Watch program inputs schedule observer config) = Unit {0}
HasRanges (Audit program inputs schedule config) = Unit {0}
HasRanges (Trace program inputs schedule config place from to) = (from ≤ greatest_time) × (to ≤ greatest_time)
