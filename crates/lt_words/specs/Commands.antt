-- The commands of the program, as `clap` sees them.
use Rattle.std.specs.Prelude.{ℕ, ◌-◌, ◌^◌, true, [], Some, codes}
use Rattle.clap.specs.Words.{App, Rule, Text, new_app, new_rule, with_rule, with_subcommand}
use Rattle.lt_base.specs.Limits.{greatest_time, most_rows}
use Rattle.clap.specs.declared.builder.value_parser.ValueParser.TheVariants as parser
use Rattle.clap.specs.declared.builder.action.ArgAction.TheVariants.{SetTrue}

-- the greatest seed of a drawn schedule
abbrev pub greatest_seed : ℕ
greatest_seed = 2 ^ 64 - 1

-- a text that is needed
abbrev pub text_rule : (id : Text) → Rule
text_rule id = record (new_rule id) { required = true }

-- a text that may be left out
abbrev pub optional_rule : (id : Text) → Rule
optional_rule id = new_rule id

-- two texts that are left out together
abbrev pub both_rule : (id : Text) → Rule
both_rule id = record (new_rule id) { range = Some (record { start_inclusive = 2; end_inclusive = 2 }) }

-- an option whose value is a whole number within these bounds
abbrev pub ranged_rule : (id : Text) → (least most : ℕ) → Rule
ranged_rule id least most = record (new_rule id) { long = Some id; parser = Some (parser.Unsigned least most) }

-- one up to a bound
abbrev pub number_rule : (id : Text) → (most : ℕ) → Rule
number_rule id most = ranged_rule id 0 most

-- one that is needed
abbrev pub needed_number_rule : (id : Text) → (most : ℕ) → Rule
needed_number_rule id most = record (number_rule id most) { required = true }

-- a whole number from 1 up to a bound that is needed
abbrev pub counted_rule : (id : Text) → (most : ℕ) → Rule
counted_rule id most = record (text_rule id) { parser = Some (parser.Unsigned 1 most) }

-- an option whose value is a text
abbrev pub name_rule : (id : Text) → Rule
name_rule id = record (new_rule id) { long = Some id }

-- an option without a value: it is there or not
abbrev pub flag_rule : (id : Text) → Rule
flag_rule id = record (new_rule id) { long = Some id; action = Some SetTrue }

abbrev pub check_app : App
check_app = with_rule (with_rule (new_app (codes "check")) (text_rule (codes "program"))) (optional_rule (codes "config"))

-- a command of this name on a program and its inputs
abbrev pub fed_app : (name : Text) → App
fed_app name = with_rule (with_rule (new_app name) (text_rule (codes "program"))) (text_rule (codes "inputs"))

-- and a schedule
abbrev pub scheduled_app : (name : Text) → App
scheduled_app name = with_rule (fed_app name) (text_rule (codes "schedule"))

abbrev pub meaning_app : App
meaning_app = with_rule (with_rule (new_app (codes "meaning")) (text_rule (codes "program"))) (text_rule (codes "inputs"))

abbrev pub run_app : App
run_app = with_rule (with_rule (with_rule (with_rule (new_app (codes "run")) (text_rule (codes "program"))) (text_rule (codes "inputs"))) (text_rule (codes "schedule"))) (optional_rule (codes "config"))

abbrev pub plan_app : App
plan_app = with_rule (with_rule (new_app (codes "plan")) (text_rule (codes "config"))) (number_rule (codes "horizon") greatest_time)

-- a command of this name on a program, its inputs and a setup
abbrev pub placed_app : (name : Text) → App
placed_app name = with_rule (with_rule (with_rule (new_app name) (text_rule (codes "program"))) (text_rule (codes "inputs"))) (text_rule (codes "config"))

abbrev pub sim_app : App
sim_app = with_rule (with_rule (placed_app (codes "sim")) (needed_number_rule (codes "seed") greatest_seed)) (needed_number_rule (codes "horizon") greatest_time)

abbrev pub big_app : App
big_app = with_rule (new_app (codes "big")) (counted_rule (codes "instants") most_rows)

-- a command of this name on a program, its inputs, a schedule and one file more
abbrev pub replayed_app : (name file : Text) → App
replayed_app name file = with_rule (with_rule (with_rule (with_rule (new_app name) (text_rule (codes "program"))) (text_rule (codes "inputs"))) (text_rule (codes "schedule"))) (text_rule file)

abbrev pub watch_app : App
watch_app = with_rule (replayed_app (codes "watch") (codes "observer")) (optional_rule (codes "config"))

abbrev pub audit_app : App
audit_app = replayed_app (codes "audit") (codes "config")

abbrev pub trace_app : App
trace_app = with_rule (with_rule (with_rule (replayed_app (codes "trace") (codes "config")) (name_rule (codes "node"))) (number_rule (codes "from") greatest_time)) (number_rule (codes "to") greatest_time)

-- a program of this name, of which a command is needed; help, version and the word `help` are none
abbrev pub bare_app : (name : Text) → App
bare_app name = record {
  top = record (new_app name).top { no_binary_name = true; disable_help_flag = true; disable_help_subcommand = true; subcommand_required = true };
  subs = [];
}

-- the commands on the files of a program
abbrev pub with_programs : App → App
with_programs app = with_subcommand (with_subcommand (with_subcommand (with_subcommand app check_app.top) meaning_app.top) run_app.top) plan_app.top

-- those that draw a schedule
abbrev pub with_drawings : App → App
with_drawings app = with_subcommand (with_subcommand app sim_app.top) big_app.top

-- those that look at a run
abbrev pub with_views : App → App
with_views app = with_subcommand (with_subcommand (with_subcommand app watch_app.top) audit_app.top) trace_app.top

unfoldable pub program_app : App
program_app = with_views (with_drawings (with_programs (bare_app (codes "ltta"))))
