-- What the words say.
use Rattle.std.specs.Prelude.{ℕ, List, [], ◌∷◌, Option, Some, None, option_and_then, option_map, unwrap_or, codes, if◌then◌else◌}
use Rattle.std.specs.Str.{bytes_eq}
use Rattle.clap.specs.Words.{Row, Text, all_of, first_of, subcommand_of, fault_of}
use Rattle.lt_words.specs.declared.command.Command.{Command}
use Rattle.lt_words.specs.declared.command.Command.TheVariants.{Check, Meaning, Run, Plan, Sim, Big, Watch, Audit, Trace}
use Rattle.lt_words.specs.Numbers.{number_text}
use Rattle.lt_base.specs.Limits.{greatest_time, most_rows}
use Rattle.lt_words.specs.Commands.{program_app, greatest_seed}

-- a command and its values
pub data Said : Type 0 where
  check : (program : Text) → (config : Option Text) → Said
  meaning : (program inputs : Text) → Said
  run : (program inputs schedule : Text) → (config : Option Text) → Said
  plan : (config : Text) → (horizon : Option ℕ) → Said
  sim : (program inputs config : Text) → (seed horizon : ℕ) → Said
  big : (instants : ℕ) → Said
  watch : (program inputs schedule observer : Text) → (config : Option Text) → Said
  audit : (program inputs schedule config : Text) → Said
  trace : (program inputs schedule config : Text) → (node : Option Text) → (from to : ℕ) → Said

abbrev pub said_of : Command → Said
said_of (Check program config) = check program.now (option_map (λ s. s.now) config)
said_of (Meaning program inputs) = meaning program.now inputs.now
said_of (Run program inputs schedule config) = run program.now inputs.now schedule.now (option_map (λ s. s.now) config)
said_of (Plan config horizon) = plan config.now horizon
said_of (Sim program inputs config seed horizon) = sim program.now inputs.now config.now seed horizon
said_of (Big instants) = big instants
said_of (Watch program inputs schedule observer config) = watch program.now inputs.now schedule.now observer.now (option_map (λ s. s.now) config)
said_of (Audit program inputs schedule config) = audit program.now inputs.now schedule.now config.now
said_of (Trace program inputs schedule config node from to) = trace program.now inputs.now schedule.now config.now (option_map (λ s. s.now) node) from to

-- the values that were found for an argument
abbrev pub text_at : (id : Text) → List Row → Text
text_at id rows = unwrap_or (first_of id rows) []

-- the first two of some values, where there are two
abbrev pub both_of : List Text → Option (Text × Text)
both_of [] = None
both_of (one ∷ []) = None
both_of (one ∷ two ∷ more) = Some (one, two)

-- the two values of an argument that takes two
abbrev pub both_at : (id : Text) → List Row → Option (Text × Text)
both_at id rows = option_and_then both_of (all_of id rows)

-- the value of an argument that is a number up to a bound
abbrev pub number_at : (id : Text) → (most : ℕ) → List Row → Option ℕ
number_at id most rows = option_map (number_text most) (first_of id rows)

-- the command of this name that draws a schedule or looks at a run
abbrev pub said_besides : (name : Text) → List Row → Said
said_besides name rows =
    if bytes_eq name (codes "sim") then sim (text_at (codes "program") rows) (text_at (codes "inputs") rows) (text_at (codes "config") rows) (unwrap_or (number_at (codes "seed") greatest_seed rows) 0) (unwrap_or (number_at (codes "horizon") greatest_time rows) 0)
    else if bytes_eq name (codes "big") then big (unwrap_or (number_at (codes "instants") most_rows rows) 0)
    else if bytes_eq name (codes "watch") then watch (text_at (codes "program") rows) (text_at (codes "inputs") rows) (text_at (codes "schedule") rows) (text_at (codes "observer") rows) (first_of (codes "config") rows)
    else if bytes_eq name (codes "audit") then audit (text_at (codes "program") rows) (text_at (codes "inputs") rows) (text_at (codes "schedule") rows) (text_at (codes "config") rows)
    else trace (text_at (codes "program") rows) (text_at (codes "inputs") rows) (text_at (codes "schedule") rows) (text_at (codes "config") rows) (first_of (codes "node") rows)
    (unwrap_or (number_at (codes "from") greatest_time rows) 0) (unwrap_or (number_at (codes "to") greatest_time rows) greatest_time)

-- the command of this name on the files of a program, with the values that were found
abbrev pub said_by : (name : Text) → List Row → Said
said_by name rows =
    if bytes_eq name (codes "check") then check (text_at (codes "program") rows) (first_of (codes "config") rows)
    else if bytes_eq name (codes "meaning") then meaning (text_at (codes "program") rows) (text_at (codes "inputs") rows)
    else if bytes_eq name (codes "run") then run (text_at (codes "program") rows) (text_at (codes "inputs") rows) (text_at (codes "schedule") rows) (first_of (codes "config") rows)
    else if bytes_eq name (codes "plan") then plan (text_at (codes "config") rows) (number_at (codes "horizon") greatest_time rows)
    else said_besides name rows

-- what the words say, where `clap` reads a command
abbrev pub said : (words : List Text) → Option Said
said words = option_map (λ p. said_by p.0 p.1) (subcommand_of program_app words)

-- nothing where there is a fault
abbrev pub unless_faulty : {A S : Type 0} → (faults : List A) → Option S → Option S
unless_faulty [] command = command
unless_faulty (fault ∷ faults) command = None

-- the command of the words; none exactly where `clap` finds a fault in them
abbrev pub command_of : (words : List Text) → Option Said
command_of words = unless_faulty (fault_of program_app words) (said words)
