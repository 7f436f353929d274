-- The limits that several crates keep.
use Rattle.std.specs.Prelude.{ℕ}

-- the greatest height of an expression or of an observer's formula, in levels
abbrev pub greatest_height : ℕ
greatest_height = 200

-- the most that main may weigh, with all functions that it calls, in variables
abbrev pub greatest_weight : ℕ
greatest_weight = 4096

-- the most expression parts of main, with all functions that it calls
abbrev pub most_parts : ℕ
most_parts = 262144

-- the most rows of inputs, and so the most instants of a run
abbrev pub most_rows : ℕ
most_rows = 100000

-- the most cells: the weight of main for each row of inputs
abbrev pub most_cells : ℕ
most_cells = 16000000

-- the greatest time of an event, in ticks, and so the greatest horizon
abbrev pub greatest_time : ℕ
greatest_time = 1000000000000000

-- the most bytes of a program file, a setup file, an inputs file, an observer file and a schedule file
abbrev pub most_program_bytes : ℕ
most_program_bytes = 1048576

abbrev pub most_config_bytes : ℕ
most_config_bytes = 262144

abbrev pub most_inputs_bytes : ℕ
most_inputs_bytes = 67108864

abbrev pub most_observer_bytes : ℕ
most_observer_bytes = 65536

abbrev pub most_schedule_bytes : ℕ
most_schedule_bytes = 1073741824

-- the most bytes of a line of a schedule file, its carriage return counted and its line feed not
abbrev pub longest_line : ℕ
longest_line = 4096

-- the most events of a schedule file, the end included
abbrev pub most_events : ℕ
most_events = 5000000
