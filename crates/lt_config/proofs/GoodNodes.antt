-- The nodes of a setup without a fault.
use Rattle.std.proofs.Common.{◌≡◌, ◌≤◌, ℕ, Bool, true, false, if◌then◌else◌, ◌&&◌, List, [], length, Option, Some, None, refl, sym, ap, ◌∙◌, arith, nat_le}
use Rattle.std.proofs.lemmas.Bool.{and_parts, false≢true}
use Rattle.std.proofs.lemmas.List.Sums.{AllPass-from_list_all}
use Rattle.std.specs.Prelude.{option_and_then}
use Rattle.std.specs.List.{list_all, AllPass}
use Rattle.std.specs.Option.{option_map_or}
use Rattle.lt_arch.specs.Names.{is_identifier}
use Rattle.toml.specs.Data.{Data, Members, no_members, member, as_table}
use Rattle.lt_arch.specs.declared.named.NamedNode.{NamedNode}
use Rattle.lt_arch.specs.NodeNames.{names_of}
use Rattle.lt_config.specs.declared.keys.Key.TheVariants.{Nodes}
use Rattle.lt_config.specs.declared.limits.TheConstants.{MOST_NODES}
use Rattle.lt_config.specs.Keys.{value_at, table_at}
use Rattle.lt_config.specs.Values.{count_members, is_count_of_nodes}
use Rattle.lt_config.specs.Faults.{first_not}
use Rattle.lt_config.specs.Setup.{nodes_in, setup_nodes}
use Rattle.lt_config.proofs.NoFault.{NoFault, there, inside}

le-of : (m n : ℕ) → nat_le m n ≡ true → m ≤ n
le-of m n h = grind arith

counted : (ms : Members) → length (nodes_in ms) ≡ count_members ms
counted no_members = refl
counted (member k d ms) = omega (arith, counted ms)

all_pass : (p : List ℕ → Bool) (ms : Members) → first_not p ms ≡ None → list_all p (names_of (nodes_in ms)) ≡ true
all_pass p no_members e = refl
all_pass p (member k d ms) e = by (p k) e (all_pass p ms)
  where
    by : (b : Bool) → (if b then first_not p ms else Some k) ≡ None → (first_not p ms ≡ None → list_all p (names_of (nodes_in ms)) ≡ true) → (b && list_all p (names_of (nodes_in ms))) ≡ true
    by true e rest = rest e
    by false e rest = cc

-- the table of the nodes, and what holds of it
pub record GoodNodes (t : Members) : Type 0 where
  pub entries : Members
  pub at : table_at t Nodes ≡ Some entries
  pub nodes : setup_nodes t ≡ nodes_in entries
  pub some : 1 ≤ length (setup_nodes t)
  pub few : length (setup_nodes t) ≤ MOST_NODES
  pub identifiers : AllPass is_identifier (names_of (setup_nodes t))

pub good_nodes : (t : Members) → NoFault t → GoodNodes t
good_nodes t good =
    let (d, at) = there (value_at t Nodes) (good.missing Nodes) in
    by d at (as_table d) refl (inside (λ x. option_map_or (λ nodes. is_count_of_nodes (count_members nodes)) (as_table x) false) (value_at t Nodes) d at (good.outside Nodes))
  where
    by : (d : Data) → value_at t Nodes ≡ Some d → (o : Option Members) → as_table d ≡ o → option_map_or (λ nodes. is_count_of_nodes (count_members nodes)) o false ≡ true → GoodNodes t
    by d at None is e = absurd (false≢true e)
    by d at (Some ms) is e =
        let table : table_at t Nodes ≡ Some ms = ap (option_and_then as_table) at ∙ is in
        let same : setup_nodes t ≡ nodes_in ms = ap (λ o. option_map_or nodes_in o []) table in
        let (low, high) = and_parts (nat_le 1 (count_members ms)) (nat_le (count_members ms) MOST_NODES) e in
        let names : first_not is_identifier ms ≡ None = sym (ap (option_and_then (first_not is_identifier)) table) ∙ good.names in
        let count : length (setup_nodes t) ≡ count_members ms = ap length same ∙ counted ms in
        record {
          entries = ms;
          at = table;
          nodes = same;
          some = rw count (le-of 1 (count_members ms) low);
          few = rw count (le-of (count_members ms) MOST_NODES high);
          identifiers = rw same (AllPass-from_list_all is_identifier (names_of (nodes_in ms)) (all_pass is_identifier ms names));
        }

-- of the nodes in the table at the key
pub named_nodes : (t : Members) → NoFault t → (ms : Members) → Some ms ≡ table_at t Nodes → (nodes : List NamedNode) → nodes ≡ nodes_in ms
    → (nodes ≡ setup_nodes t) × (1 ≤ length nodes) × AllPass is_identifier (names_of nodes)
named_nodes t good ms at nodes is =
    let g = good_nodes t good in
    let same : nodes ≡ setup_nodes t = is ∙ ap (λ o. option_map_or nodes_in o []) at in
    (same, rw same g.some, rw same g.identifiers)

pub no_nodes : (t : Members) → NoFault t → None ≡ table_at t Nodes → ⊥
no_nodes t good at = let e = at ∙ (good_nodes t good).at in cc
