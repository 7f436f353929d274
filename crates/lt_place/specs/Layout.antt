-- A function on its nodes.
use Rattle.std.specs.Prelude.{◌≡◌, ◌≢◌, ◌⊎◌, ℕ, ◌<◌, true, false, Some, None, [], length, get_or, slice_get}
use Rattle.lt_base.specs.declared.value.Value.{Value}
use Rattle.lt_base.specs.declared.value.Value.TheVariants.{Bool as Truth}
use Rattle.lt_base.specs.Expression.{Expression, variable, delayed}
use Rattle.lt_base.specs.Program.{GoodFunction}
use Rattle.lt_base.specs.Meaning.{clock_of, right_of}
use Rattle.lt_base.specs.Typing.{TypedFunction, ty_at}
use Rattle.lt_base.specs.Clocking.{ClockedFunction}
use Rattle.lt_base.specs.Dependence.{Causal, has}
use Rattle.lt_base.specs.Placed.{StandsIn, below, renamed}
use Rattle.lt_norm.specs.Flat.{Originated, FlatFunction}
use Rattle.lt_place_reads.specs.declared.crossing.Crossing.{Crossing}
use Rattle.lt_place_reads.specs.Origins.{variable_count, name_of, origin_of}
use Rattle.lt_place.specs.declared.layout.Feed.{Feed}
use Rattle.lt_place.specs.declared.layout.Feed.TheVariants.{Input, Cross}
use Rattle.lt_place.specs.declared.layout.Part.{Part}
use Rattle.lt_place.specs.declared.layout.Layout.{Layout}
use Rattle.lt_arch.specs.declared.placement.Placement.{Placement}
use Rattle.lt_place.specs.Nodes.{node_of}
use Rattle.lt_arch.specs.Placement.{node_names}
use Rattle.lt_place.specs.Sizes.{IsNoLarger, HasCodeRoom, IsCompilable}

abbrev pub no_part : Part
no_part = record { flat = record { func = record { name = []; decls = []; n_in = 0; outs = []; eqs = [] }; origin = [] }; feeds = []; outs = [] }

abbrev pub no_crossing : Crossing
no_crossing = record { from = 0; to = 0; first = Truth false; var = 0; reader = 0 }

-- the part of a node
unfoldable pub part_of : Layout → ℕ → Part
part_of l n = get_or l.nodes n no_part

-- the crossing at a place
unfoldable pub crossing_of : Layout → ℕ → Crossing
crossing_of l c = get_or l.cross c no_crossing

-- the part has x as its own number of the variable v, and gives it out
pub record PartGives (q : Part) (v x : ℕ) : Type 0 where
  pub place : ℕ
  pub out : slice_get q.outs place ≡ Some v
  pub own : slice_get q.flat.func.outs place ≡ Some x

-- what feeds the input x of the part q of node n
abbrev pub FeedFits : Originated → Layout → ℕ → Part → ℕ → Feed → Type 0
FeedFits f l n q x (Input i) = (origin_of q.flat x ≡ i) × (right_of f.func.eqs i ≡ None) × (i < variable_count f)
FeedFits f l n q x (Cross c) = (origin_of q.flat x ≡ (crossing_of l c).reader) × (c < length l.cross) × ((crossing_of l c).to ≡ n)

-- what the crossings of a layout are
pub record HasCrossings (f : Originated) (p : Placement) (l : Layout) : Type 0 where
  -- each is a delay, on the base clock, of a variable of another node
  pub readers : (c : ℕ) → c < length l.cross → right_of f.func.eqs (crossing_of l c).reader ≡ Some (delayed (crossing_of l c).first (variable (crossing_of l c).var))
  pub readers_declared : (c : ℕ) → c < length l.cross → (crossing_of l c).reader < variable_count f
  pub readers_on_base : (c : ℕ) → c < length l.cross → clock_of f.func.decls (crossing_of l c).reader ≡ []
  pub vars_on_base : (c : ℕ) → c < length l.cross → clock_of f.func.decls (crossing_of l c).var ≡ []
  pub from_node : (c : ℕ) → c < length l.cross → (crossing_of l c).from ≡ node_of f p (crossing_of l c).var
  pub to_node : (c : ℕ) → c < length l.cross → (crossing_of l c).to ≡ node_of f p (crossing_of l c).reader
  pub apart : (c : ℕ) → c < length l.cross → (crossing_of l c).from ≢ (crossing_of l c).to
  pub senders : (c : ℕ) → c < length l.cross → (crossing_of l c).from < length l.nodes
  pub receivers : (c : ℕ) → c < length l.cross → (crossing_of l c).to < length l.nodes
  -- all such delays are crossings
  pub all : (x : ℕ) (v : Value) (y : ℕ) → right_of f.func.eqs x ≡ Some (delayed v (variable y)) → node_of f p y ≢ node_of f p x → (c : ℕ) × (c < length l.cross) × ((crossing_of l c).reader ≡ x)
  -- they stand in order of their readers
  pub ordered : (b c : ℕ) → b < c → c < length l.cross → (crossing_of l b).reader < (crossing_of l c).reader

-- the part of node n
pub record IsPartOf (f : Originated) (p : Placement) (l : Layout) (n : ℕ) (q : Part) : Type 0 where
  -- its variables are those of the node, each once, with their names, types and clocks
  pub numbered : length q.flat.origin ≡ variable_count q.flat
  pub on_node : (x : ℕ) → x < variable_count q.flat → (origin_of q.flat x < variable_count f) × (node_of f p (origin_of q.flat x) ≡ n)
  pub each : (v : ℕ) → v < variable_count f → node_of f p v ≡ n → (x : ℕ) × (x < variable_count q.flat) × (origin_of q.flat x ≡ v)
  pub once : (x y : ℕ) → x < variable_count q.flat → y < variable_count q.flat → origin_of q.flat x ≡ origin_of q.flat y → x ≡ y
  pub names : (x : ℕ) → x < variable_count q.flat → name_of q.flat x ≡ name_of f (origin_of q.flat x)
  pub types : (x : ℕ) → x < variable_count q.flat → ty_at q.flat.func.decls x ≡ ty_at f.func.decls (origin_of q.flat x)
  pub clocks : (x : ℕ) → x < variable_count q.flat → clock_of f.func.decls (origin_of q.flat x) ≡ below (origin_of q.flat) (clock_of q.flat.func.decls x) []
  -- its equations are those of the node
  pub stands : StandsIn f.func q.flat.func (origin_of q.flat) []
  -- but for the crossings, whose readers are inputs, as the node's inputs of `main` are
  pub feeds : (x : ℕ) → x < variable_count q.flat → right_of q.flat.func.eqs x ≡ None → (d : Feed) × (slice_get q.feeds x ≡ Some d) × FeedFits f l n q x d
  pub fed : length q.feeds ≡ q.flat.func.n_in
  -- it gives out the outputs of `main` on the node and what crosses to another, in order of their numbers
  pub gives : (v : ℕ) → v < variable_count f → node_of f p v ≡ n → (has v f.func.outs ≡ true) ⊎ ((c : ℕ) × (c < length l.cross) × ((crossing_of l c).var ≡ v)) → (x : ℕ) × PartGives q v x
  pub given : (v x : ℕ) → PartGives q v x → (x < variable_count q.flat) × (origin_of q.flat x ≡ v) × ((has v f.func.outs ≡ true) ⊎ ((c : ℕ) × (c < length l.cross) × ((crossing_of l c).var ≡ v)))
  pub outs : length q.flat.func.outs ≡ length q.outs
  pub ascending : (i j : ℕ) → i < j → j < length q.outs → get_or q.outs i 0 < get_or q.outs j 0
  -- the checks hold of it
  pub typed : TypedFunction [] q.flat.func
  pub clocked : ClockedFunction [] q.flat.func
  pub causal : Causal q.flat.func
  pub good : GoodFunction q.flat.func
  pub flat : FlatFunction q.flat.func
  -- it is no larger than the whole
  pub no_larger : IsNoLarger q.flat.func f.func

-- the layout of a function under a placement
pub record IsLayoutOf (f : Originated) (p : Placement) (l : Layout) : Type 0 where
  pub names : l.names ≡ node_names p
  pub nodes : length l.nodes ≡ length (node_names p)
  pub parts : (n : ℕ) → n < length l.nodes → IsPartOf f p l n (part_of l n)
  pub crossings : HasCrossings f p l
  pub outs : l.outs ≡ f.func.outs
  -- every equation is one of a part, or a crossing
  pub equations : (x : ℕ) (e : Expression) → right_of f.func.eqs x ≡ Some e →
      ((c : ℕ) × (c < length l.cross) × ((crossing_of l c).reader ≡ x))
      ⊎ ((n : ℕ) × (k : ℕ) × (n < length l.nodes) × (k < variable_count (part_of l n).flat) × (origin_of (part_of l n).flat k ≡ x) × (d : Expression) × (right_of (part_of l n).flat.func.eqs k ≡ Some d) × (renamed (origin_of (part_of l n).flat) d ≡ e))

-- the layout is one of this function under some placement, and the function passes the checks
pub record IsPlaced (f : Originated) (l : Layout) : Type 0 where
  pub placement : Placement
  pub layout : IsLayoutOf f placement l
  pub good : GoodFunction f.func
  pub typed : TypedFunction [] f.func
  pub clocked : ClockedFunction [] f.func
  pub causal : Causal f.func

-- each part of a placed function compiles, where the function has room for its code
abbrev pub PartsCompile : Type 0
PartsCompile = (f : Originated) (l : Layout) (n : ℕ) → IsPlaced f l → HasCodeRoom f.func → n < length l.nodes → IsCompilable (part_of l n).flat.func
