-- What the table of a setup says, where it has no fault.
use Rattle.std.specs.Prelude.{ℕ, ◌++◌, ◌&&◌, max, not, position, Bool, false, List, [], ◌∷◌, length, map, Option, Some, is_some, option_and_then, unwrap_or, if◌then◌else◌, ℤ, pos, negsuc, slice_index_or}
use Rattle.std.specs.List.{list_any}
use Rattle.std.specs.Option.{option_map_or}
use Rattle.std.specs.Str.{bytes_eq}
use Rattle.toml.specs.Data.{Data, Items, no_items, item, Members, no_members, member, as_str, as_integer, as_array}
use Rattle.lt_arch.specs.declared.timing.Protocol.{Protocol}
use Rattle.lt_arch.specs.declared.timing.Protocol.TheVariants.{BackPressure, TimeBased}
use Rattle.lt_arch.specs.Pairs.{ordered_pairs}
use Rattle.lt_arch.specs.declared.named.NamedNode.{NamedNode}
use Rattle.lt_arch.specs.declared.pace.Pace.{Pace}
use Rattle.lt_arch.specs.declared.pace.Pace.TheVariants.{Plain, Lossy, Leader as Led}
use Rattle.lt_config.specs.declared.keys.Key.{Key}
use Rattle.lt_config.specs.declared.keys.Key.TheVariants.{Period, Delay, Send, Execute, Losses, Leader, Nodes, Periods, Delays, Sends, Executes}
use Rattle.lt_config.specs.Limits.{greatest_countdown}
use Rattle.lt_config.specs.Keys.{tables, value_at, table_at, table_entry}
use Rattle.lt_config.specs.Values.{pair_of}
use Rattle.lt_config.specs.Faults.{or_else, is_led, is_lossy, is_time_based}

-- the numbers of a node, and of an ordered pair of nodes
pub record NodeNumbers : Type 0 where
  pub tmin : ℕ
  pub tmax : ℕ
  pub send : ℕ
  pub execute : ℕ

pub record PairNumbers : Type 0 where
  pub from : ℕ
  pub to : ℕ
  pub dmin : ℕ
  pub dmax : ℕ

pub record Setup : Type 0 where
  -- by the nodes' numbers
  pub times : List NodeNumbers
  -- by the sending node and then by the receiving one
  pub delays : List PairNumbers
  -- the greatest upper delay that is named
  pub most : ℕ
  pub protocol : Protocol
  -- the nodes that are named; none where everything is on one node
  pub placed : Option (List NamedNode)
  -- whether the setup has a table by which nodes or pairs differ
  pub mixed : Bool
  pub pace : Pace

-- ---- numbers

abbrev pub natural : ℤ → ℕ
natural (pos n) = n
natural (negsuc n) = 0

abbrev pub naturals : ℤ × ℤ → ℕ × ℕ
naturals p = (natural p.0, natural p.1)

-- the bounds that a value is
abbrev pub bounds_of : Option Data → ℕ × ℕ
bounds_of d = option_map_or naturals (option_and_then pair_of d) (0, 0)

-- the countdown that a value is, which is 1 where there is none
abbrev pub countdown_of : Option Data → ℕ
countdown_of d = option_map_or natural (option_and_then as_integer d) 1

-- how many losses in a row are allowed on a channel, which is none where the setup doesn't say
abbrev pub losses_of : Members → ℕ
losses_of t = option_map_or natural (option_and_then as_integer (value_at t Losses)) 0

-- the value of a name in a table, or else the plain one
abbrev pub own_or_plain : Members → (table plain : Key) → (name : List ℕ) → Option Data
own_or_plain t table plain name = or_else (table_entry t table name) (value_at t plain)

abbrev pub period_of : Members → (node : List ℕ) → ℕ × ℕ
period_of t node = bounds_of (own_or_plain t Periods Period node)

abbrev pub delay_of : Members → (pair : List ℕ) → ℕ × ℕ
delay_of t pair = bounds_of (own_or_plain t Delays Delay pair)

abbrev pub setup_send : Members → (node : List ℕ) → ℕ
setup_send t node = countdown_of (own_or_plain t Sends Send node)

abbrev pub setup_execute : Members → (node : List ℕ) → ℕ
setup_execute t node = countdown_of (own_or_plain t Executes Execute node)

-- the name at the key of the leader
abbrev pub leader_name : Members → Option (List ℕ)
leader_name t = option_and_then as_str (value_at t Leader)

-- the node has this name
abbrev pub has_name : (name : List ℕ) → NamedNode → Bool
has_name name node = bytes_eq node.name name

-- a node leads, and it is another one
abbrev pub follows : Members → (node : List ℕ) → Bool
follows t node = is_led t && not (option_map_or (λ name. bytes_eq node name) (leader_name t) false)

-- a node that follows sends when it finds a message, and so long before its countdown ends
abbrev pub paced_send : Members → (node : List ℕ) → ℕ
paced_send t node = if follows t node then greatest_countdown else setup_send t node

abbrev pub node_numbers : Members → (node : List ℕ) → NodeNumbers
node_numbers t node = record { tmin = (period_of t node).0; tmax = (period_of t node).1; send = paced_send t node; execute = setup_execute t node }

-- `a>b`
abbrev pub pair_name : (a b : List ℕ) → List ℕ
pair_name a b = a ++ 62 ∷ b

abbrev pub pair_numbers : Members → (names : List (List ℕ)) → ℕ × ℕ → PairNumbers
pair_numbers t names p =
    let delay = delay_of t (pair_name (slice_index_or names p.0 []) (slice_index_or names p.1 [])) in
    record { from = p.0; to = p.1; dmin = delay.0; dmax = delay.1 }

-- the greatest upper bound of the entries
abbrev pub greatest_upper : Members → ℕ
greatest_upper no_members = 0
greatest_upper (member k d ms) = max (bounds_of (Some d)).1 (greatest_upper ms)

abbrev pub most_delay : Members → ℕ
most_delay t = max (bounds_of (value_at t Delay)).1 (option_map_or greatest_upper (table_at t Delays) 0)

-- ---- nodes

abbrev pub string_of : Data → List ℕ
string_of d = unwrap_or (as_str d) []

abbrev pub texts_of : Items → List (List ℕ)
texts_of no_items = []
texts_of (item d ds) = string_of d ∷ texts_of ds

abbrev pub vars_of : Data → List (List ℕ)
vars_of d = option_map_or texts_of (as_array d) []

-- the nodes, in byte order of their names, since members ascend
abbrev pub nodes_in : Members → List NamedNode
nodes_in no_members = []
nodes_in (member k d ms) = record { name = k; vars = vars_of d } ∷ nodes_in ms

abbrev pub setup_nodes : Members → List NamedNode
setup_nodes t = option_map_or nodes_in (table_at t Nodes) []

abbrev pub setup_names : Members → List (List ℕ)
setup_names t = map (λ node. node.name) (setup_nodes t)

-- ---- the setup

abbrev pub protocol_of : Members → Protocol
protocol_of t = if is_time_based t then TimeBased else BackPressure

-- the number of the node of a name
abbrev pub setup_node_number : List NamedNode → (name : List ℕ) → ℕ
setup_node_number nodes name = unwrap_or (position (has_name name) nodes) 0

-- what the protocol does beside its timing
abbrev pub pace_of : Members → Pace
pace_of t = if is_led t then Led (option_map_or (setup_node_number (setup_nodes t)) (leader_name t) 0) else (if is_lossy t then Lossy (losses_of t) else Plain)

abbrev pub is_mixed : Members → Bool
is_mixed t = list_any (λ key. is_some (value_at t key)) tables

abbrev pub setup_of : Members → Setup
setup_of t = record {
  times = map (node_numbers t) (setup_names t);
  delays = map (pair_numbers t (setup_names t)) (ordered_pairs (length (setup_names t)));
  most = most_delay t;
  protocol = protocol_of t;
  placed = Some (setup_nodes t);
  mixed = is_mixed t;
  pace = pace_of t;
}
