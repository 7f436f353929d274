-- The node that leads, and the countdowns of those that follow it.
use Rattle.std.proofs.Common.{◌≡◌, ◌≢◌, ℕ, ◌<◌, ◌≤◌, Bool, true, false, not, ◌&&◌, if◌then◌else◌, nat_lt, List, [], length, map, Option, Some, None, AllPairs, get_or, refl, sym, ap, ◌∙◌, subst, arith, ltb-true, lt-ltb}
use Rattle.std.specs.Prelude.{option_and_then}
use Rattle.std.specs.List.{position_or_len}
use Rattle.std.specs.Option.{option_map_or, unwrap_or}
use Rattle.std.specs.Str.{bytes_eq}
use Rattle.std.proofs.lemmas.Bool.{or_right, false_from_ne_true}
use Rattle.std.proofs.lemmas.List.{get_or-map, length-map}
use Rattle.std.proofs.lemmas.List.Sums.{position_or_len_is}
use Rattle.std.proofs.lemmas.Slice.Eq.{bytes_eq-Decides}
use Rattle.toml.specs.Data.{Members, as_str}
use Rattle.lt_arch.specs.declared.limits.TheConstants.{GREATEST_COUNTDOWN}
use Rattle.lt_arch.specs.declared.timing.Timing.{Timing}
use Rattle.lt_arch.specs.declared.timing.Protocol.TheVariants.{BackPressure, TimeBased}
use Rattle.lt_arch.specs.Readers.{no_time, time_at}
use Rattle.lt_arch.specs.Readers as reader
use Rattle.lt_arch.specs.declared.named.NamedNode.{NamedNode}
use Rattle.lt_arch.specs.NodeNames.{names_of}
use Rattle.lt_config.specs.declared.keys.Key.TheVariants.{Protocol as ProtocolKey}
use Rattle.lt_arch.specs.declared.pace.Pace.{Pace}
use Rattle.lt_arch.specs.declared.pace.Pace.TheVariants.{Plain, Lossy, Leader}
use Rattle.lt_config.specs.Keys.{value_at}
use Rattle.lt_arch.specs.Paced.{IsLed, IsLossy, FitsPace, leader_of, allowed_of}
use Rattle.lt_config.specs.Faults.{says_leader, says_time, is_led, is_lossy}
use Rattle.lt_config.specs.Setup.{NodeNumbers, leader_name, has_name, follows, paced_send, setup_send, node_numbers, setup_node_number, setup_nodes, losses_of, pace_of, protocol_of}
use Rattle.lt_config.specs.Reading.{numbers_of}
use Rattle.lt_config.proofs.NoFault.{NoFault}
use Rattle.lt_config.proofs.Losses.{lossy_acknowledges, few_losses}

abbrev no_node : NamedNode
no_node = record { name = []; vars = [] }

-- the number of a node by its name

number_within : (b : Bool) (at count : ℕ) → nat_lt at count ≡ b → 1 ≤ count → unwrap_or (if b then Some at else None) 0 < count
number_within true at count is some = ltb-true at count is
number_within false at count is some = omega (arith, some)

pub number_below : (nodes : List NamedNode) (name : List ℕ) → 1 ≤ length nodes → setup_node_number nodes name < length nodes
number_below nodes name some = number_within (nat_lt (position_or_len (has_name name) nodes) (length nodes)) (position_or_len (has_name name) nodes) (length nodes) refl some

-- with few nodes it is small
number_least : (b : Bool) (at count : ℕ) → nat_lt at count ≡ b → count ≤ 32 → unwrap_or (if b then Some at else None) 0 ≤ 32
number_least true at count is few = let below = ltb-true at count is in omega (arith, below, few)
number_least false at count is few = omega arith

pub number_few : (nodes : List NamedNode) (name : List ℕ) → length nodes ≤ 32 → setup_node_number nodes name ≤ 32
number_few nodes name few = number_least (nat_lt (position_or_len (has_name name) nodes) (length nodes)) (position_or_len (has_name name) nodes) (length nodes) refl few

number_at : (b : Bool) (at : ℕ) → b ≡ true → unwrap_or (if b then Some at else None) 0 ≡ at
number_at true at is = refl
number_at false at is = cc

module _ (nodes : List NamedNode) (differ : AllPairs (λ a b. a ≢ b) (names_of nodes)) (n : ℕ) (d : NamedNode) (within : n < length nodes) (name : List ℕ) (named : (get_or nodes n d).name ≡ name) where
  other_before : (k : ℕ) → k < n → has_name name (get_or nodes k d) ≡ false
  other_before k before = false_from_ne_true _ (λ same.
      let count : length (names_of nodes) ≡ length nodes = length-map nodes (λ (node : NamedNode). node.name) in
      let here : get_or (names_of nodes) n [] ≡ name = get_or-map (λ (node : NamedNode). node.name) nodes n d [] within ∙ named in
      let there : get_or (names_of nodes) k [] ≡ name = get_or-map (λ (node : NamedNode). node.name) nodes k d [] (omega (arith, before, within)) ∙ (bytes_eq-Decides _ name).0 same in
      differ k n [] before (omega (arith, within, count)) (there ∙ sym here))

  -- the only one of this name
  pub number_is : setup_node_number nodes name ≡ n
  number_is =
      let at : position_or_len (has_name name) nodes ≡ n = position_or_len_is (has_name name) nodes n d (omega (arith, within)) other_before (λ _. (bytes_eq-Decides _ name).1 named) in
      let found : nat_lt (position_or_len (has_name name) nodes) (length nodes) ≡ true = ap (λ k. nat_lt k (length nodes)) at ∙ lt-ltb n (length nodes) within in
      number_at _ _ found ∙ at

-- where a node leads, nodes count their activations

counts_by : (o : Option (List ℕ)) → option_map_or says_leader o false ≡ true → option_map_or says_time o false ≡ true
counts_by None led = led
counts_by (Some text) led = or_right _ (says_leader text) led

module _ (t : Members) (led : is_led t ≡ true) where
  pub led_counts : protocol_of t ≡ TimeBased
  led_counts = ap (λ b. if b then TimeBased else BackPressure) (counts_by (option_and_then as_str (value_at t ProtocolKey)) led)

  follows_by : (o : Option (List ℕ)) (node : List ℕ) → ((name : List ℕ) → o ≡ Some name → node ≢ name) → not (option_map_or (λ name. bytes_eq node name) o false) ≡ true
  follows_by None node other = refl
  follows_by (Some name) node other = ap not (false_from_ne_true _ (λ same. other name refl ((bytes_eq-Decides node name).0 same)))

  -- any other node has the greatest countdown
  pub follower_send : (node : List ℕ) → ((name : List ℕ) → leader_name t ≡ Some name → node ≢ name) → paced_send t node ≡ GREATEST_COUNTDOWN
  follower_send node other =
      let follower : follows t node ≡ true = ap (λ b. b && not (option_map_or (λ name. bytes_eq node name) (leader_name t) false)) led ∙ follows_by (leader_name t) node other in
      ap (λ b. if b then GREATEST_COUNTDOWN else setup_send t node) follower

-- what the timing of a setup without a fault has for its pace

module _ (t : Members) (good : NoFault t) (timing : Timing) (nodes : List NamedNode) (same : nodes ≡ setup_nodes t) (differ : AllPairs (λ a b. a ≢ b) (names_of nodes)) (some : 1 ≤ length nodes)
    (times : map numbers_of timing.nodes ≡ map (node_numbers t) (names_of (setup_nodes t))) (protocol : timing.protocol ≡ protocol_of t) where
  -- the pace by what the protocol's text says
  abbrev pace_by : (led lossy : Bool) → Pace
  pace_by led lossy = if led then Leader (option_map_or (setup_node_number (setup_nodes t)) (leader_name t) 0) else (if lossy then Lossy (losses_of t) else Plain)

  time_count : length timing.nodes ≡ length nodes
  time_count =
      sym (length-map timing.nodes numbers_of) ∙ ap length times ∙ length-map (names_of (setup_nodes t)) (node_numbers t) ∙ length-map (setup_nodes t) (λ (node : NamedNode). node.name)
      ∙ ap length (sym same)

  send_at : (n : ℕ) (d : NamedNode) → n < length nodes → reader.send_of timing n ≡ paced_send t (get_or nodes n d).name
  unfolding reader.send_of
  send_at n d within =
      let count = time_count in
      let all : length (names_of (setup_nodes t)) ≡ length nodes = length-map (setup_nodes t) (λ (node : NamedNode). node.name) ∙ ap length (sym same) in
      let name : get_or (names_of (setup_nodes t)) n [] ≡ (get_or nodes n d).name = ap (λ ns. get_or (names_of ns) n []) (sym same) ∙ get_or-map (λ (node : NamedNode). node.name) nodes n d [] within in
      ap (λ (x : NodeNumbers). x.send)
      (sym (get_or-map numbers_of timing.nodes n no_time (numbers_of no_time) (omega (arith, count, within)))
      ∙ ap (λ ns. get_or ns n (numbers_of no_time)) times
      ∙ get_or-map (node_numbers t) (names_of (setup_nodes t)) n [] (numbers_of no_time) (omega (arith, all, within)))
      ∙ ap (paced_send t) name

  is_led_by : (o : Option (List ℕ)) → leader_name t ≡ o → is_led t ≡ true → IsLed timing (option_map_or (setup_node_number (setup_nodes t)) o 0)
  is_led_by None at led = record {
    leader_in = let count = time_count in omega (arith, count, some);
    counts = protocol ∙ led_counts t led;
    follows = λ n within other.
        let count = time_count in
        send_at n (get_or nodes n no_node) (omega (arith, count, within)) ∙ follower_send t led _ (λ name is. let both = sym at ∙ is in cc);
  }
  is_led_by (Some name) at led = record {
    leader_in = let count = time_count in let below = number_below nodes name some in subst (λ ns. setup_node_number ns name < length timing.nodes) same (omega (arith, count, below));
    counts = protocol ∙ led_counts t led;
    follows = λ n within other.
        let count = time_count in
        let there : n < length nodes = omega (arith, count, within) in
        send_at n no_node there
        ∙ follower_send t led _ (λ leader is named.
        let one : name ≡ leader = let both : Some name ≡ Some leader = sym at ∙ is in cc in
        other (sym (ap (λ ns. setup_node_number ns name) (sym same) ∙ number_is nodes differ n no_node there name (named ∙ sym one))));
  }

  leader_by : (led : Bool) → is_led t ≡ led → (leader : ℕ) → leader_of (pace_by led (is_lossy t)) ≡ Some leader → IsLed timing leader
  leader_by true led leader is = let one : option_map_or (setup_node_number (setup_nodes t)) (leader_name t) 0 ≡ leader = cc in subst (IsLed timing) one (is_led_by (leader_name t) refl led)
  leader_by false led leader is = absurd (no_leader (is_lossy t) is)
    where
      no_leader : (lossy : Bool) → leader_of (pace_by false lossy) ≡ Some leader → ⊥
      no_leader true is = cc
      no_leader false is = cc

  losses_by : (led lossy : Bool) → is_lossy t ≡ lossy → (losses : ℕ) → allowed_of (pace_by led lossy) ≡ Some losses → IsLossy timing losses
  losses_by true lossy at losses is = cc
  losses_by false true at losses is =
      let one : losses_of t ≡ losses = cc in
      subst (IsLossy timing) one (record { acknowledges = protocol ∙ lossy_acknowledges t at; few = few_losses t good })
  losses_by false false at losses is = cc

  pub fits_pace : FitsPace (pace_of t) timing
  fits_pace = record { led = leader_by (is_led t) refl; lossy = losses_by (is_led t) (is_lossy t) refl }
