-- What a value of a setup is, and which values are in range.
use Rattle.std.specs.Prelude.{ℕ, ◌+◌, ◌&&◌, ◌||◌, Bool, true, false, List, Option, Some, None, is_some, option_and_then, nat_le, ℤ, pos, negsuc, codes}
use Rattle.std.specs.Option.{option_map_or}
use Rattle.std.specs.Str.{bytes_eq}
use Rattle.toml.specs.Data.{Data, Items, no_items, item, Members, no_members, member, as_str, as_integer, as_array, as_table}
use Rattle.lt_arch.specs.Paced.{most_losses}
use Rattle.lt_config.specs.Limits.{greatest_bound, greatest_countdown, most_nodes}
use Rattle.lt_config.specs.declared.keys.Key.{Key}
use Rattle.lt_config.specs.Keys.{table_entry}
use Rattle.lt_config.specs.declared.keys.Key.TheVariants.{Protocol, Period, Delay, Send, Execute, Losses, Leader, Nodes, Periods, Delays, Sends, Executes}

-- ---- the kinds of values

abbrev pub both_numbers : Option ℤ → Option ℤ → Option (ℤ × ℤ)
both_numbers (Some x) (Some y) = Some (x, y)
both_numbers (Some x) None = None
both_numbers None y = None

-- two integers, if the items are just these
abbrev pub pair_items : Items → Option (ℤ × ℤ)
pair_items no_items = None
pair_items (item a no_items) = None
pair_items (item a (item b no_items)) = both_numbers (as_integer a) (as_integer b)
pair_items (item a (item b (item c ds))) = None

-- the two integers of an array
abbrev pub pair_of : Data → Option (ℤ × ℤ)
pair_of d = option_and_then pair_items (as_array d)

abbrev pub all_texts : Items → Bool
all_texts no_items = true
all_texts (item d ds) = is_some (as_str d) && all_texts ds

abbrev pub is_texts : Data → Bool
is_texts d = option_map_or all_texts (as_array d) false

-- every value passes a test
abbrev pub all_values : (Data → Bool) → Members → Bool
all_values p no_members = true
all_values p (member k d ms) = p d && all_values p ms

-- a table in which every value passes a test
abbrev pub is_table_of : (Data → Bool) → Data → Bool
is_table_of p d = option_map_or (all_values p) (as_table d) false

abbrev pub is_pair : Data → Bool
is_pair d = is_some (pair_of d)

abbrev pub is_integer : Data → Bool
is_integer d = is_some (as_integer d)

-- a value of the kind that a key asks for
abbrev pub has_kind : Key → Data → Bool
has_kind Protocol d = is_some (as_str d)
has_kind Period d = is_pair d
has_kind Delay d = is_pair d
has_kind Send d = is_integer d
has_kind Execute d = is_integer d
has_kind Losses d = is_integer d
has_kind Leader d = is_some (as_str d)
has_kind Nodes d = is_table_of is_texts d
has_kind Periods d = is_table_of is_pair d
has_kind Delays d = is_table_of is_pair d
has_kind Sends d = is_table_of is_integer d
has_kind Executes d = is_table_of is_integer d

-- ---- their ranges

-- from low to high
abbrev pub is_int_between : (low high : ℕ) → ℤ → Bool
is_int_between low high (pos n) = nat_le low n && nat_le n high
is_int_between low high (negsuc n) = false

abbrev pub is_at_most : ℤ → ℤ → Bool
is_at_most (pos m) (pos n) = nat_le m n
is_at_most (pos m) (negsuc n) = false
is_at_most (negsuc m) b = true

-- low <= first <= second <= the greatest bound
abbrev pub is_bounds : (low : ℕ) → Option (ℤ × ℤ) → Bool
is_bounds low None = false
is_bounds low (Some p) = is_int_between low greatest_bound p.0 && (is_int_between low greatest_bound p.1 && is_at_most p.0 p.1)

-- bounds of a period, and of a delay
abbrev pub is_period : Data → Bool
is_period d = is_bounds 1 (pair_of d)

abbrev pub is_delay_pair : Data → Bool
is_delay_pair d = is_bounds 0 (pair_of d)

abbrev pub is_countdown : Data → Bool
is_countdown d = option_map_or (is_int_between 1 greatest_countdown) (as_integer d) false

abbrev pub is_losses : Data → Bool
is_losses d = option_map_or (is_int_between 0 most_losses) (as_integer d) false

abbrev pub names_protocol : List ℕ → Bool
names_protocol text = bytes_eq text (codes "backpressure") || (bytes_eq text (codes "timebased") || (bytes_eq text (codes "leader") || bytes_eq text (codes "lossy")))

abbrev pub count_members : Members → ℕ
count_members no_members = 0
count_members (member k d ms) = count_members ms + 1

-- at least one node, and no more than the limit
abbrev pub is_count_of_nodes : ℕ → Bool
is_count_of_nodes n = nat_le 1 n && nat_le n most_nodes

-- the setup has a node of this name
abbrev pub is_node : Members → (name : List ℕ) → Bool
is_node t name = is_some (table_entry t Nodes name)

-- a value in the range of a key of this setup, where it has the key's kind
abbrev pub in_range : Members → Key → Data → Bool
in_range t Protocol d = option_map_or names_protocol (as_str d) false
in_range t Period d = is_period d
in_range t Delay d = is_delay_pair d
in_range t Send d = is_countdown d
in_range t Execute d = is_countdown d
in_range t Losses d = is_losses d
in_range t Leader d = option_map_or (is_node t) (as_str d) false
in_range t Nodes d = option_map_or (λ nodes. is_count_of_nodes (count_members nodes)) (as_table d) false
in_range t Periods d = is_table_of is_period d
in_range t Delays d = is_table_of is_delay_pair d
in_range t Sends d = is_table_of is_countdown d
in_range t Executes d = is_table_of is_countdown d
