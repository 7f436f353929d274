-- Lists of edges, each from a node to a node.
use Rattle.std.specs.Prelude.{◌≡◌, ℕ, ◌<◌, Some, List, length, slice_get}
use Rattle.std.specs.List.{All, Contains}
use Rattle.lt_base.specs.Graph.{Walks}
use Rattle.lt_graph.specs.Tables.{Leads}

-- the edges join nodes below n
abbrev pub AreWithin : ℕ → List (ℕ × ℕ) → Type 0
AreWithin n edges = All (λ e. (e.0 < n) × (e.1 < n)) edges

-- an edge of the list leads from x to y
abbrev pub Joined : List (ℕ × ℕ) → ℕ → ℕ → Type 0
Joined edges x y = Contains edges (x, y)

-- the end of the edge reaches its beginning: the edge lies on a closed walk
abbrev pub IsCircular : List (ℕ × ℕ) → ℕ × ℕ → Type 0
IsCircular edges e = (walk : List ℕ) × Walks (Joined edges) e.1 walk e.0

-- the edge at that place lies on a closed walk, and none before it does
pub record IsFirstCircular (edges : List (ℕ × ℕ)) (place : ℕ) : Type 0 where
  pub circular : (e : ℕ × ℕ) × (slice_get edges place ≡ Some e) × IsCircular edges e
  pub first : (k : ℕ) (e : ℕ × ℕ) → k < place → slice_get edges k ≡ Some e → IsCircular edges e → ⊥

-- the table leads from each node to those that edges lead to from it
pub record HasEdges (nodes : ℕ) (edges : List (ℕ × ℕ)) (table : List (List ℕ)) : Type 0 where
  pub size : length table ≡ nodes
  pub joined : (x y : ℕ) → Leads table x y → Joined edges x y
  pub leads : (x y : ℕ) → Joined edges x y → Leads table x y
