-- What a net needs of the layout that it runs.
use Rattle.std.specs.Prelude.{◌≡◌, ℕ, ◌<◌, [], length, take, Bool, ◌==◌, ◌&&◌, Some, None, slice_get}
use Rattle.std.specs.List.{count_by}
use Rattle.lt_base.specs.Expression.{variable, delayed}
use Rattle.lt_base.specs.Value.{ty_of}
use Rattle.lt_base.specs.Program.{Function, GoodFunction}
use Rattle.lt_base.specs.Typing.{TypedFunction, ty_at}
use Rattle.lt_base.specs.Meaning.{right_of, clock_of}
use Rattle.lt_base.specs.Placed.{StandsIn, below}
use Rattle.lt_base.specs.Dependence.{Causal}
use Rattle.lt_base.specs.Clocking.{ClockedFunction}
use Rattle.lt_place_reads.specs.declared.crossing.Crossing.{Crossing}
use Rattle.lt_place_reads.specs.Origins.{origin_of}
use Rattle.lt_place.specs.declared.layout.Feed.{Feed}
use Rattle.lt_place.specs.declared.layout.Feed.TheVariants.{Input, Cross}
use Rattle.lt_place.specs.declared.layout.Part.{Part}
use Rattle.lt_place.specs.declared.layout.Layout.{Layout}
use Rattle.lt_place.specs.Layout.{PartGives, part_of, crossing_of}

-- the number in the whole of a part's variable
abbrev pub origin_in : Part → (x : ℕ) → ℕ
origin_in q x = origin_of q.flat x

-- a crossing from node i to node j
abbrev pub joins : (i j : ℕ) → Crossing → Bool
joins i j cr = (cr.from == i) && (cr.to == j)

-- the place of a crossing's value in the messages between its two nodes
unfoldable pub crossing_place : Layout → (c : ℕ) → ℕ
crossing_place l c = count_by (joins (crossing_of l c).from (crossing_of l c).to) (take c l.cross)

-- what feeds the input x of the part q of node n
abbrev pub Feeds : Function → Layout → (n : ℕ) → Part → (x : ℕ) → Feed → Type 0
Feeds f l n q x (Input i) = (origin_in q x ≡ i) × (right_of f.eqs i ≡ None) × (i < length f.decls)
Feeds f l n q x (Cross c) = (origin_in q x ≡ (crossing_of l c).reader) × (c < length l.cross) × ((crossing_of l c).to ≡ n)

-- what follows of the layout, and is all that a net uses of it
pub record IsLaidOut (f : Function) (l : Layout) : Type 0 where
  pub causal : Causal f
  pub parts_causal : (n : ℕ) → n < length l.nodes → Causal (part_of l n).flat.func
  pub parts_clocked : (n : ℕ) → n < length l.nodes → ClockedFunction [] (part_of l n).flat.func
  pub parts : (n : ℕ) → n < length l.nodes → StandsIn f (part_of l n).flat.func (origin_in (part_of l n)) []
  pub feeds : (n x : ℕ) → n < length l.nodes → x < length (part_of l n).flat.func.decls → right_of (part_of l n).flat.func.eqs x ≡ None → (d : Feed) × (slice_get (part_of l n).feeds x ≡ Some d) × Feeds f l n (part_of l n) x d
  pub crosses : (n x c : ℕ) → n < length l.nodes → slice_get (part_of l n).feeds x ≡ Some (Cross c) → (c < length l.cross) × ((crossing_of l c).to ≡ n)
  pub readers : (c : ℕ) → c < length l.cross → right_of f.eqs (crossing_of l c).reader ≡ Some (delayed (crossing_of l c).first (variable (crossing_of l c).var))
  pub readers_on_base : (c : ℕ) → c < length l.cross → clock_of f.decls (crossing_of l c).reader ≡ []
  pub readers_declared : (c : ℕ) → c < length l.cross → (crossing_of l c).reader < length f.decls
  pub senders : (c : ℕ) → c < length l.cross → (crossing_of l c).from < length l.nodes
  pub receivers : (c : ℕ) → c < length l.cross → (crossing_of l c).to < length l.nodes
  pub gives : (c : ℕ) → c < length l.cross → (x : ℕ) × PartGives (part_of l (crossing_of l c).from) (crossing_of l c).var x
  -- what a part gives out
  pub given_origin : (n v x : ℕ) → n < length l.nodes → PartGives (part_of l n) v x → origin_in (part_of l n) x ≡ v
  pub given_declared : (n v x : ℕ) → n < length l.nodes → PartGives (part_of l n) v x → x < length (part_of l n).flat.func.decls
  pub vars_on_base : (c : ℕ) → c < length l.cross → clock_of f.decls (crossing_of l c).var ≡ []
  -- a part's variable has its clock in the whole
  pub clocks : (n x : ℕ) → n < length l.nodes → x < length (part_of l n).flat.func.decls → clock_of f.decls (origin_in (part_of l n) x) ≡ below (origin_in (part_of l n)) (clock_of (part_of l n).flat.func.decls x) []
  -- a part's checks hold, and it has one feed for each input and one number for each variable that it gives out
  pub parts_good : (n : ℕ) → n < length l.nodes → GoodFunction (part_of l n).flat.func
  pub parts_typed : (n : ℕ) → n < length l.nodes → TypedFunction [] (part_of l n).flat.func
  pub fed : (n : ℕ) → n < length l.nodes → length (part_of l n).feeds ≡ (part_of l n).flat.func.n_in
  pub outs : (n : ℕ) → n < length l.nodes → length (part_of l n).flat.func.outs ≡ length (part_of l n).outs
  -- one node gives a variable out, at one place
  pub one_node : (n m v x y : ℕ) → n < length l.nodes → m < length l.nodes → PartGives (part_of l n) v x → PartGives (part_of l m) v y → n ≡ m
  pub one_place : (n i j v : ℕ) → n < length l.nodes → slice_get (part_of l n).outs i ≡ Some v → slice_get (part_of l n).outs j ≡ Some v → i ≡ j
  -- no two crossings have one reader
  pub one_reader : (b c : ℕ) → b < length l.cross → c < length l.cross → (crossing_of l b).reader ≡ (crossing_of l c).reader → b ≡ c
  -- what crosses has the type of the literal, and is on the base clock
  pub sent_type : (c x : ℕ) → c < length l.cross → PartGives (part_of l (crossing_of l c).from) (crossing_of l c).var x → ty_at (part_of l (crossing_of l c).from).flat.func.decls x ≡ Some (ty_of (crossing_of l c).first)
  pub sent_base : (c x : ℕ) → c < length l.cross → PartGives (part_of l (crossing_of l c).from) (crossing_of l c).var x → clock_of (part_of l (crossing_of l c).from).flat.func.decls x ≡ []
  pub fed_type : (n x c : ℕ) → n < length l.nodes → slice_get (part_of l n).feeds x ≡ Some (Cross c) → ty_at (part_of l n).flat.func.decls x ≡ Some (ty_of (crossing_of l c).first)
