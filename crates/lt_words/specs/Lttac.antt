-- The words of `lttac`, and its command as `clap` sees it.
use Rattle.std.specs.Prelude.{ℕ, ◌-◌, ◌^◌, ◌≤◌, Bool, List, Option, option_map, unwrap_or, codes, bytes_eq, IfSome, if◌then◌else◌}
use Rattle.clap.specs.Words.{App, Row, Text, first_of, new_app, with_rule, with_subcommand, subcommand_of, fault_of}
use Rattle.lt_words.specs.declared.lttac.LttacCommand.{LttacCommand}
use Rattle.lt_words.specs.declared.lttac.LttacCommand.TheVariants.{Emit, Schedule, Draw, Plot}
use Rattle.lt_base.specs.Limits.{greatest_time}
use Rattle.lt_words.specs.Commands.{text_rule, both_rule, flag_rule, name_rule, number_rule, ranged_rule, needed_number_rule, fed_app, placed_app, replayed_app, bare_app, greatest_seed}
use Rattle.lt_words.specs.Reading.{both_at, text_at, number_at, unless_faulty}

abbrev pub emit_app : App
emit_app = with_rule (with_rule (with_rule (with_rule (new_app (codes "emit")) (text_rule (codes "program"))) (text_rule (codes "config"))) (text_rule (codes "node"))) (flag_rule (codes "header"))

-- the greatest jitter, in thousandths
abbrev pub whole_jitter : ℕ
whole_jitter = 1000

-- the greatest loss, in thousandths of messages
abbrev pub whole_loss : ℕ
whole_loss = 1000

abbrev pub schedule_app : App
schedule_app =
    with_rule (with_rule (with_rule (with_rule (placed_app (codes "schedule")) (needed_number_rule (codes "seed") greatest_seed)) (needed_number_rule (codes "horizon") greatest_time)) (number_rule (codes "jitter") whole_jitter))
    (number_rule (codes "loss") whole_loss)

-- the least and the greatest width of a picture
abbrev pub least_width : ℕ
least_width = 400

abbrev pub most_width : ℕ
most_width = 10000

-- the last instant that a picture of outputs can begin or end at
abbrev pub last_instant : ℕ
last_instant = 2 ^ 32 - 1

-- with options for the first and the last of what is drawn, up to a bound, and for the width
abbrev pub with_window : (most : ℕ) → App → App
with_window most app = with_rule (with_rule (with_rule app (number_rule (codes "from") most)) (number_rule (codes "to") most)) (ranged_rule (codes "width") least_width most_width)

abbrev pub draw_app : App
draw_app = with_window greatest_time (with_rule (replayed_app (codes "draw") (codes "config")) (name_rule (codes "node")))

-- a schedule and a setup come together or not at all
abbrev pub plot_app : App
plot_app = with_window last_instant (with_rule (with_rule (fed_app (codes "plot")) (both_rule (codes "along"))) (name_rule (codes "observer")))

unfoldable pub lttac_app : App
lttac_app = with_subcommand (with_subcommand (with_subcommand (with_subcommand (bare_app (codes "lttac")) emit_app.top) schedule_app.top) draw_app.top) plot_app.top

-- a command and its values
pub data LttacSaid : Type 0 where
  -- whether the header alone is wanted, the two files, and the name of the node
  emit : (header : Bool) → (program config node : Text) → LttacSaid
  -- the files, which schedule, the tick at which it ends, of how much of their intervals periods are drawn, and how many messages are lost
  schedule : (program inputs config : Text) → (seed horizon : ℕ) → (jitter loss : Option ℕ) → LttacSaid
  -- the files, the node that is drawn alone, the first and the last tick, and the width
  draw : (program inputs events config : Text) → (node : Option Text) → (from to width : Option ℕ) → LttacSaid
  -- the files, of these the schedule and the setup together, the first and the last instant, and the width
  plot : (program inputs : Text) → (along : Option (Text × Text)) → (observer : Option Text) → (from to width : Option ℕ) → LttacSaid

abbrev pub lttac_said_of : LttacCommand → LttacSaid
lttac_said_of (Emit header program config node) = emit header program.now config.now node.now
lttac_said_of (Schedule program inputs config seed horizon jitter loss) = schedule program.now inputs.now config.now seed horizon jitter loss
lttac_said_of (Draw program inputs events config node from to width) = draw program.now inputs.now events.now config.now (option_map (λ s. s.now) node) from to width
lttac_said_of (Plot program inputs along observer from to width) = plot program.now inputs.now (option_map (λ p. (p.0.now, p.1.now)) along) (option_map (λ s. s.now) observer) from to width

-- a horizon and a tick are up to the greatest time, a jitter, a loss and a width up to the greatest one
abbrev pub HasLttacRanges : LttacCommand → Type 0
HasLttacRanges (Emit header program config node) = Unit {0}
HasLttacRanges (Schedule program inputs config seed horizon jitter loss) = (horizon ≤ greatest_time) × IfSome jitter (λ part. part ≤ whole_jitter) × IfSome loss (λ rate. rate ≤ whole_loss)
HasLttacRanges (Draw program inputs events config place from to width) = IfSome from (λ tick. tick ≤ greatest_time) × IfSome to (λ tick. tick ≤ greatest_time) × IfSome width (λ wide. wide ≤ most_width)
HasLttacRanges (Plot program inputs along observer from to width) = IfSome width (λ wide. wide ≤ most_width)

-- whether an option without a value is there
abbrev pub flag_at : (id : Text) → List Row → Bool
flag_at id rows = bytes_eq (text_at id rows) (codes "true")

-- the command of this name, with the values that were found
abbrev pub lttac_said_by : (name : Text) → List Row → LttacSaid
lttac_said_by name rows =
    if bytes_eq name (codes "emit") then emit (flag_at (codes "header") rows) (text_at (codes "program") rows) (text_at (codes "config") rows) (text_at (codes "node") rows)
    else if bytes_eq name (codes "schedule") then schedule (text_at (codes "program") rows) (text_at (codes "inputs") rows) (text_at (codes "config") rows) (unwrap_or (number_at (codes "seed") greatest_seed rows) 0) (unwrap_or (number_at (codes "horizon") greatest_time rows) 0)
    (number_at (codes "jitter") whole_jitter rows) (number_at (codes "loss") whole_loss rows)
    else if bytes_eq name (codes "draw") then draw (text_at (codes "program") rows) (text_at (codes "inputs") rows) (text_at (codes "schedule") rows) (text_at (codes "config") rows) (first_of (codes "node") rows)
    (number_at (codes "from") greatest_time rows) (number_at (codes "to") greatest_time rows) (number_at (codes "width") most_width rows)
    else plot (text_at (codes "program") rows) (text_at (codes "inputs") rows) (both_at (codes "along") rows) (first_of (codes "observer") rows)
    (number_at (codes "from") last_instant rows) (number_at (codes "to") last_instant rows) (number_at (codes "width") most_width rows)

-- what the words say, where `clap` reads a command
abbrev pub lttac_said : (words : List Text) → Option LttacSaid
lttac_said words = option_map (λ p. lttac_said_by p.0 p.1) (subcommand_of lttac_app words)

-- the command of the words; none exactly where `clap` finds a fault in them
abbrev pub lttac_command_of : (words : List Text) → Option LttacSaid
lttac_command_of words = unless_faulty (fault_of lttac_app words) (lttac_said words)
