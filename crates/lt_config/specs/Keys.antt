-- The keys of a setup, and what its table has at them.
use Rattle.std.specs.Prelude.{ℕ, List, [], ◌∷◌, Option, option_and_then, codes}
use Rattle.toml.specs.Data.{Data, Members, get_member, as_table}
use Rattle.lt_config.specs.declared.keys.Key.{Key}
use Rattle.lt_config.specs.declared.keys.Key.TheVariants.{Protocol, Period, Delay, Send, Execute, Losses, Leader, Nodes, Periods, Delays, Sends, Executes}

-- the keys, in the order in which they are tried
abbrev pub keys : List Key
keys = Protocol ∷ Period ∷ Delay ∷ Send ∷ Execute ∷ Losses ∷ Leader ∷ Nodes ∷ Periods ∷ Delays ∷ Sends ∷ Executes ∷ []

-- the tables by which nodes and pairs of nodes differ from the plain keys, in that order
abbrev pub tables : List Key
tables = Periods ∷ Delays ∷ Sends ∷ Executes ∷ []

abbrev pub key_text : Key → List ℕ
key_text Protocol = codes "protocol"
key_text Period = codes "period"
key_text Delay = codes "delay"
key_text Send = codes "send"
key_text Execute = codes "execute"
key_text Losses = codes "losses"
key_text Leader = codes "leader"
key_text Nodes = codes "nodes"
key_text Periods = codes "periods"
key_text Delays = codes "delays"
key_text Sends = codes "sends"
key_text Executes = codes "executes"

-- the value at a key
abbrev pub value_at : Members → Key → Option Data
value_at t key = get_member (key_text key) t

-- the entries of the table at a key
abbrev pub table_at : Members → Key → Option Members
table_at t key = option_and_then as_table (value_at t key)

-- the value at a name in the table at a key
abbrev pub table_entry : Members → Key → (name : List ℕ) → Option Data
table_entry t key name = option_and_then (get_member name) (table_at t key)
