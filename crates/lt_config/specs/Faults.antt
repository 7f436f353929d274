-- What is wrong with the table of a setup, and which fault comes first.
use Rattle.std.specs.Prelude.{ℕ, zero, suc, ◌+◌, ◌&&◌, ◌||◌, ◌==◌, Bool, true, false, not, List, [], ◌∷◌, length, take, drop, Option, Some, None, is_some, option_map, option_and_then, if◌then◌else◌, codes, find, slice_index_or}
use Rattle.std.specs.List.{list_any}
use Rattle.std.specs.Option.{option_map_or}
use Rattle.std.specs.Str.{bytes_eq}
use Rattle.toml.specs.Data.{Members, no_members, member, as_str}
use Rattle.lt_arch.specs.Names.{is_identifier}
use Rattle.lt_config.specs.declared.keys.Key.{Key}
use Rattle.lt_config.specs.declared.keys.Key.TheVariants.{Protocol, Period, Delay, Send, Execute, Losses, Leader, Nodes, Periods, Delays, Sends, Executes}
use Rattle.lt_config.specs.declared.fault.ConfigKind.{ConfigKind}
use Rattle.lt_config.specs.declared.fault.ConfigKind.TheVariants.{Missing, WrongKind, UnknownKey, OutOfRange, BadName}
use Rattle.lt_config.specs.declared.fault.ConfigFault.{ConfigFault}
use Rattle.lt_config.specs.Keys.{keys, tables, key_text, value_at, table_at}
use Rattle.lt_config.specs.Values.{has_kind, is_node, in_range}

-- ---- a key with a fault

-- the protocol is one in which a node leads
abbrev pub says_leader : List ℕ → Bool
says_leader text = bytes_eq text (codes "leader")

abbrev pub is_led : Members → Bool
is_led t = option_map_or says_leader (option_and_then as_str (value_at t Protocol)) false

-- or one over links that lose messages
abbrev pub says_lossy : List ℕ → Bool
says_lossy text = bytes_eq text (codes "lossy")

abbrev pub is_lossy : Members → Bool
is_lossy t = option_map_or says_lossy (option_and_then as_str (value_at t Protocol)) false

-- or one in which all nodes count their activations alike
abbrev pub says_time : List ℕ → Bool
says_time text = bytes_eq text (codes "timebased") || says_leader text

abbrev pub is_time_based : Members → Bool
is_time_based t = option_map_or says_time (option_and_then as_str (value_at t Protocol)) false

-- the plain keys are needed, the countdowns where nodes count their activations, the losses where links lose messages, and the leader where
-- one leads
abbrev pub is_needed : Members → Key → Bool
is_needed t Protocol = true
is_needed t Period = true
is_needed t Delay = true
is_needed t Send = is_time_based t
is_needed t Execute = is_time_based t
is_needed t Losses = is_lossy t
is_needed t Leader = is_led t
is_needed t Nodes = true
is_needed t Periods = false
is_needed t Delays = false
is_needed t Sends = false
is_needed t Executes = false

abbrev pub is_missing : Members → Key → Bool
is_missing t key = not (is_some (value_at t key)) && is_needed t key

abbrev pub is_wrong : Members → Key → Bool
is_wrong t key = option_map_or (λ d. not (has_kind key d)) (value_at t key) false

abbrev pub is_outside : Members → Key → Bool
is_outside t key = option_map_or (λ d. not (in_range t key d)) (value_at t key) false

-- ---- a name with a fault

-- the first key that fails a test, in byte order, since members ascend
abbrev pub first_not : (List ℕ → Bool) → Members → Option (List ℕ)
first_not p no_members = None
first_not p (member k d ms) = if p k then first_not p ms else Some k

abbrev pub is_key : List ℕ → Bool
is_key name = list_any (λ key. bytes_eq name (key_text key)) keys

-- at place i the name has a `>` between the names of two different nodes
abbrev pub is_cut : Members → (name : List ℕ) → (i : ℕ) → Bool
is_cut t name i =
    (slice_index_or name i 0 == 62) && (is_node t (take i name) && (is_node t (drop (i + 1) name) && not (bytes_eq (take i name) (drop (i + 1) name))))

abbrev pub is_any_below : (ℕ → Bool) → ℕ → Bool
is_any_below p zero = false
is_any_below p (suc n) = is_any_below p n || p n

-- `a>b` for two different nodes a and b
abbrev pub is_node_pair : Members → (name : List ℕ) → Bool
is_node_pair t name = is_any_below (is_cut t name) (length name)

-- the names that a table may have entries for
abbrev pub is_entry_of : Members → Key → (name : List ℕ) → Bool
is_entry_of t Delays name = is_node_pair t name
is_entry_of t key name = is_node t name

-- the first entry of a table that is for no node, or for no pair
abbrev pub stray_of : Members → Key → Option (List ℕ)
stray_of t key = option_and_then (first_not (is_entry_of t key)) (table_at t key)

abbrev pub or_else : {A : Type 0} → Option A → Option A → Option A
or_else (Some a) b = Some a
or_else None b = b

-- of the first table that has such an entry
abbrev pub first_stray : Members → List Key → Option (List ℕ)
first_stray t [] = None
first_stray t (key ∷ ks) = or_else (stray_of t key) (first_stray t ks)

abbrev pub first_unknown : Members → Option (List ℕ)
first_unknown t = or_else (first_not is_key t) (first_stray t tables)

abbrev pub bad_name : Members → Option (List ℕ)
bad_name t = option_and_then (first_not is_identifier) (table_at t Nodes)

-- ---- the first fault

abbrev pub first_key : (Key → Bool) → Option (List ℕ)
first_key p = option_map key_text (find p keys)

-- a fault of this kind at a name, if there is one
abbrev pub fault : ConfigKind → Option (List ℕ) → Option ConfigFault
fault kind name = option_map (λ key. record { kind = kind; key = key }) name

-- the first fault, by the order of the kinds and, within a kind, of the keys and names
abbrev pub first_fault : Members → Option ConfigFault
first_fault t =
    or_else (fault Missing (first_key (is_missing t)))
    (or_else (fault WrongKind (first_key (is_wrong t)))
    (or_else (fault UnknownKey (first_unknown t))
    (or_else (fault OutOfRange (first_key (is_outside t)))
    (fault BadName (bad_name t)))))
