-- A setup's value is the only one that says what it says.
use Rattle.std.proofs.Common.{◌≡◌, ◌≤◌, ◌<◌, ◌^◌, ℕ, List, [], ◌∷◌, length, map, refl, ap, subst, Bool}
use Rattle.std.specs.List.{AllPass}
use Rattle.std.specs.List.Sorted.{IsStrictlySortedBy, IsStrictlySortedBy-prop}
use Rattle.lt_arch.specs.declared.limits.TheConstants.{GREATEST_BOUND, GREATEST_COUNTDOWN}
use Rattle.lt_arch.specs.declared.times.NodeTime.{NodeTime}
use Rattle.lt_arch.specs.declared.times.PairTime.{PairTime}
use Rattle.lt_arch.specs.declared.timing.Timing.{Timing}
use Rattle.lt_arch.specs.declared.timing.Protocol.{Protocol}
use Rattle.lt_arch.specs.Names.{is_identifier}
use Rattle.lt_arch.specs.Pairs.{ends_of, ordered_pairs, HasNoneAbove}
use Rattle.lt_arch.specs.NodeNames.{names_of, byte_order}
use Rattle.lt_arch.specs.Placement.{node_names}
use Rattle.lt_arch.specs.declared.named.NamedNode.{NamedNode}
use Rattle.lt_arch.specs.declared.nodes.NamedNodes.{NamedNodes}
use Rattle.lt_arch.specs.declared.placement.Placement.{Placement}
use Rattle.lt_arch.specs.declared.placement.Placement.TheVariants.{All as Everything, Named}
use Rattle.lt_config.specs.declared.config.Config.{Config}
use Rattle.lt_arch.specs.declared.pace.Pace.{Pace}
use Rattle.lt_config.specs.declared.limits.TheConstants.{MOST_NODES}
use Rattle.lt_arch.specs.Paced.{FitsPace}
use Rattle.lt_config.specs.Setup.{NodeNumbers, PairNumbers, Setup}
use Rattle.lt_config.specs.Reading.{numbers_of, delays_of, placed_of, setup_in}
use denote.Struct.Props.{props}

one_list : {X Y : Type 0} (f : X → Y) → ((a b : X) → f a ≡ f b → a ≡ b) → (xs ys : List X) → map f xs ≡ map f ys → xs ≡ ys
one_list f one [] [] e = refl
one_list f one [] (y ∷ ys) e = cc
one_list f one (x ∷ xs) [] e = cc
one_list f one (x ∷ xs) (y ∷ ys) e =
    let first : x ≡ y = one x y cc in
    let rest : xs ≡ ys = one_list f one xs ys cc in
    cc

-- what a node's numbers keep
abbrev NodeFacts : NodeNumbers → Type 0
NodeFacts n =
    ((1 ≤ n.tmin) × (n.tmin ≤ n.tmax) × (n.tmax ≤ GREATEST_BOUND))
    × ((1 ≤ n.send) × (n.send ≤ GREATEST_COUNTDOWN))
    × ((1 ≤ n.execute) × (n.execute ≤ GREATEST_COUNTDOWN))

abbrev node_made : (n : NodeNumbers) → NodeFacts n → NodeTime
node_made n f = record { tmin = n.tmin; tmax = n.tmax; send = n.send; execute = n.execute; period = f.0; sends = f.1; executes = f.2 }

node_facts : (n : NodeNumbers) → IsProp (NodeFacts n)
node_facts n = hlevel props

one_node_time : (a b : NodeTime) → numbers_of a ≡ numbers_of b → a ≡ b
one_node_time a b e =
    subst (λ n. (q : NodeFacts n) → a ≡ node_made n q) e (λ q. ap (node_made (numbers_of a)) (node_facts (numbers_of a) (a.period, a.sends, a.executes) q)) (b.period, b.sends, b.executes)

abbrev PairFacts : PairNumbers → Type 0
PairFacts p = (p.dmin ≤ p.dmax) × (p.dmax ≤ GREATEST_BOUND)

abbrev pair_made : (p : PairNumbers) → PairFacts p → PairTime
pair_made p f = record { from = p.from; to = p.to; dmin = p.dmin; dmax = p.dmax; delay = f }

pair_facts : (p : PairNumbers) → IsProp (PairFacts p)
pair_facts p = hlevel props

one_pair_time : (a b : PairTime) → delays_of a ≡ delays_of b → a ≡ b
one_pair_time a b e =
    subst (λ p. (q : PairFacts p) → a ≡ pair_made p q) e (λ q. ap (pair_made (delays_of a)) (pair_facts (delays_of a) a.delay q)) b.delay

-- a timing without what it keeps
record Times : Type 0 where
  nodes : List NodeTime
  pairs : List PairTime
  most : ℕ
  protocol : Protocol

abbrev times_of : Timing → Times
times_of t = record { nodes = t.nodes; pairs = t.pairs; most = t.most; protocol = t.protocol }

abbrev TimesFacts : Times → Type 0
TimesFacts t = (ends_of t.pairs ≡ ordered_pairs (length t.nodes)) × HasNoneAbove t.pairs t.most × (t.most ≤ GREATEST_BOUND) × (length t.nodes < 2 ^ 32)

abbrev timing_made : (t : Times) → TimesFacts t → Timing
timing_made t f = record { nodes = t.nodes; pairs = t.pairs; most = t.most; protocol = t.protocol; pairs_are = f.0; none_above = f.1; most_range = f.2; numbered = f.3 }

times_facts : (t : Times) → IsProp (TimesFacts t)
times_facts t = hlevel props

one_timing : (a b : Timing) → times_of a ≡ times_of b → a ≡ b
one_timing a b e =
    subst (λ t. (q : TimesFacts t) → a ≡ timing_made t q) e (λ q. ap (timing_made (times_of a)) (times_facts (times_of a) (a.pairs_are, a.none_above, a.most_range, a.numbered) q))
    (b.pairs_are, b.none_above, b.most_range, b.numbered)

abbrev NodesFacts : List NamedNode → Type 0
NodesFacts nodes = (1 ≤ length nodes) × AllPass is_identifier (names_of nodes) × IsStrictlySortedBy byte_order (names_of nodes)

abbrev nodes_made : (nodes : List NamedNode) → NodesFacts nodes → NamedNodes
nodes_made nodes f = record { nodes = nodes; inhabited = f.0; identifiers = f.1; ascending = f.2 }

nodes_facts : (nodes : List NamedNode) → IsProp (NodesFacts nodes)
nodes_facts nodes = hlevel (props, IsStrictlySortedBy-prop)

one_naming : (a b : NamedNodes) → a.nodes ≡ b.nodes → a ≡ b
one_naming a b e =
    subst (λ nodes. (q : NodesFacts nodes) → a ≡ nodes_made nodes q) e (λ q. ap (nodes_made a.nodes) (nodes_facts a.nodes (a.inhabited, a.identifiers, a.ascending) q))
    (b.inhabited, b.identifiers, b.ascending)

one_placement : (p q : Placement) → placed_of p ≡ placed_of q → p ≡ q
one_placement Everything Everything e = refl
one_placement Everything (Named b) e = cc
one_placement (Named a) Everything e = cc
one_placement (Named a) (Named b) e = ap (λ n. Named n) (one_naming a b cc)

-- a setup without what it keeps
record Parts : Type 0 where
  timing : Timing
  placement : Placement
  mixed : Bool
  pace : Pace

abbrev parts_of : Config → Parts
parts_of c = record { timing = c.timing; placement = c.placement; mixed = c.mixed; pace = c.pace }

abbrev PartsFacts : Parts → Type 0
PartsFacts s = (length s.timing.nodes ≡ length (node_names s.placement)) × (length s.timing.nodes ≤ MOST_NODES) × FitsPace s.pace s.timing

abbrev config_made : (s : Parts) → PartsFacts s → Config
config_made s f = record { timing = s.timing; placement = s.placement; mixed = s.mixed; pace = s.pace; same_nodes = f.0; few = f.1; paced = f.2 }

parts_facts : (s : Parts) → IsProp (PartsFacts s)
parts_facts s = hlevel props

one_of_parts : (a b : Config) → parts_of a ≡ parts_of b → a ≡ b
one_of_parts a b e =
    subst (λ s. (q : PartsFacts s) → a ≡ config_made s q) e (λ q. ap (config_made (parts_of a)) (parts_facts (parts_of a) (a.same_nodes, a.few, a.paced) q)) (b.same_nodes, b.few, b.paced)

-- two values that say the same are equal
pub one_setup : (a b : Config) → setup_in a ≡ setup_in b → a ≡ b
one_setup a b e =
    let nodes : a.timing.nodes ≡ b.timing.nodes = one_list numbers_of one_node_time a.timing.nodes b.timing.nodes (ap (λ (s : Setup). s.times) e) in
    let pairs : a.timing.pairs ≡ b.timing.pairs = one_list delays_of one_pair_time a.timing.pairs b.timing.pairs (ap (λ (s : Setup). s.delays) e) in
    let most : a.timing.most ≡ b.timing.most = ap (λ (s : Setup). s.most) e in
    let protocol : a.timing.protocol ≡ b.timing.protocol = ap (λ (s : Setup). s.protocol) e in
    let times : times_of a.timing ≡ times_of b.timing = rw (nodes, pairs, most, protocol) refl in
    let timing : a.timing ≡ b.timing = one_timing a.timing b.timing times in
    let placement : a.placement ≡ b.placement = one_placement a.placement b.placement (ap (λ (s : Setup). s.placed) e) in
    let mixed : a.mixed ≡ b.mixed = ap (λ (s : Setup). s.mixed) e in
    let pace : a.pace ≡ b.pace = ap (λ (s : Setup). s.pace) e in
    one_of_parts a b (rw (timing, placement, mixed, pace) refl)
