-- What the names of a placement are.
use Rattle.std.proofs.Common.{◌≡◌, ◌≢◌, ℕ, zero, suc, ◌+◌, ◌<◌, ◌≤◌, Bool, true, false, List, [], ◌∷◌, ◌++◌, length, map, get_or, refl, arith, AllPairs}
use Rattle.std.specs.Prelude.{if◌then◌else◌}
use Rattle.std.specs.Str.{bytes_eq}
use Rattle.std.specs.List.{AllPass}
use Rattle.std.specs.Prelude.{codes}
use Rattle.std.proofs.lemmas.List.{length-map}
use Rattle.std.proofs.lemmas.List.Kept.{AllPairs-cons}
use Rattle.std.proofs.lemmas.List.Elements.{All-nil, All-cons}
use Rattle.lt_arch.specs.Names.{is_identifier}
use Rattle.lt_place_reads.specs.Origins.{name_of}
use Rattle.lt_arch.specs.declared.placement.Placement.{Placement}
use Rattle.lt_arch.specs.declared.placement.Placement.TheVariants.{All, Named}
use Rattle.lt_arch.specs.declared.named.NamedNode.{NamedNode}
use Rattle.lt_arch.specs.declared.nodes.NamedNodes.{NamedNodes}
use Rattle.lt_arch.specs.NodeNames.{names_of}
use Rattle.lt_norm.specs.Flat.{Originated}
use Rattle.lt_arch.specs.Placement.{node_names}
use Rattle.lt_place.specs.Nodes.{listings_on, listings_from, node_listed, node_named, node_of}

none_apart : AllPairs (λ (a b : List ℕ). a ≢ b) []
none_apart i j d lt within = absurd (omega (arith, within))

-- there is one at least, they are identifiers, and they differ
pub record AreNames (names : List (List ℕ)) : Type 0 where
  pub inhabited : 1 ≤ length names
  pub identifiers : AllPass is_identifier names
  pub names_differ : AllPairs (λ a b. a ≢ b) names

pub are_names : ((named : NamedNodes) → AllPairs (λ a b. a ≢ b) (names_of named.nodes)) → (p : Placement) → AreNames (node_names p)
are_names differ All = record {
  inhabited = omega arith;
  identifiers = All-cons (λ name. is_identifier name ≡ true) (codes "all") [] refl (All-nil (λ name. is_identifier name ≡ true));
  names_differ = AllPairs-cons (λ a b. a ≢ b) (codes "all") [] (All-nil (λ b. codes "all" ≢ b)) none_apart;
}
are_names differ (Named named) = record {
  inhabited = let same : length (names_of named.nodes) ≡ length named.nodes = length-map named.nodes (λ (node : NamedNode). node.name) in omega (arith, same, named.inhabited);
  identifiers = named.identifiers;
  names_differ = differ named;
}

-- The numbers of nodes.

listed_below : (n : ℕ) (nodes : List NamedNode) (m : ℕ) (q : List ℕ) → n + length nodes ≤ m → 0 < m → node_listed (listings_from n nodes) q < m
listed_below n [] m q h p = p
listed_below n (node ∷ nodes) m q h p = on node.vars (listed_below (suc n) nodes m q (omega (arith, h)) p)
  where
    on : (names : List (List ℕ)) → node_listed (listings_from (suc n) nodes) q < m → node_listed (listings_on n names ++ listings_from (suc n) nodes) q < m
    on [] k = k
    on (x ∷ xs) k = by (bytes_eq q x) (on xs k)
      where
        by : (b : Bool) → node_listed (listings_on n xs ++ listings_from (suc n) nodes) q < m → (if b then n else node_listed (listings_on n xs ++ listings_from (suc n) nodes) q) < m
        by true z = omega (arith, h)
        by false z = z

named_below : (p : Placement) (q : List ℕ) → node_named p q < length (node_names p)
named_below All q = omega arith
named_below (Named named) q =
    let same : length (names_of named.nodes) ≡ length named.nodes = length-map named.nodes (λ (node : NamedNode). node.name) in
    listed_below 0 named.nodes (length (names_of named.nodes)) q (omega (arith, same)) (omega (arith, same, named.inhabited))

map_below : (g : ℕ → ℕ) (m : ℕ) → ((o : ℕ) → g o < m) → 0 < m → (xs : List ℕ) (x : ℕ) → get_or (map g xs) x 0 < m
map_below g m h p [] x = p
map_below g m h p (o ∷ xs) zero = h o
map_below g m h p (o ∷ xs) (suc x) = map_below g m h p xs x

-- a variable's node is one of them
pub node_below : (f : Originated) (p : Placement) (x : ℕ) → node_of f p x < length (node_names p)
node_below f p x =
    let b = named_below p [] in
    map_below (λ o. node_named p (name_of f o)) (length (node_names p)) (λ o. named_below p (name_of f o)) (omega (arith, b)) f.origin x
