-- The parts and the tables for them, as the code builds them.
use Rattle.std.specs.Prelude.{◌≡◌, ◌≢◌, ℕ, zero, suc, ◌+◌, ◌<◌, ◌≤◌, Bool, true, false, ◌&&◌, ◌||◌, not, Option, Some, None, List, [], ◌∷◌, ◌++◌, length, map, filter, take, get_or, nat_eq, nat_lt, slice_index, if◌then◌else◌}
use Rattle.std.specs.List.{count_by}
use Rattle.std.specs.Option.{is_some}
use Rattle.lt_base.specs.declared.value.Ty.TheVariants.{Int as IntTy}
use Rattle.lt_base.specs.declared.function.Decl.{Decl}
use Rattle.lt_base.specs.Expression.{Expression}
use Rattle.lt_base.specs.Meaning.{clock_of, right_of}
use Rattle.lt_base.specs.Dependence.{has, clock_vars}
use Rattle.lt_base.specs.Placed.{renamed, below}
use Rattle.lt_base.specs.Program.{Function}
use Rattle.lt_norm.specs.Flat.{Originated}
use Rattle.lt_place_reads.specs.declared.crossing.Crossing.{Crossing}
use Rattle.lt_place_reads.specs.Reads.{direct_reads, delayed_reads}
use Rattle.lt_place_reads.specs.Crossings.{HasReaders, HasPlaces}
use Rattle.lt_place.specs.declared.layout.Feed.{Feed}
use Rattle.lt_place.specs.declared.layout.Feed.TheVariants.{Input, Cross}
use Rattle.lt_place.specs.declared.layout.Part.{Part}
use Rattle.lt_place.specs.declared.spread.Spread.{Spread}
use Rattle.lt_place.specs.Layout.{no_part}

-- ---- the variables of a node

-- these are variables of node n, each with its number there
pub record Numbered (nodes : List ℕ) (n : ℕ) (members own : List ℕ) : Type 0 where
  pub size : length own ≡ length nodes
  pub inside : (k : ℕ) → k < length members → (slice_index members k < length nodes) × (slice_index nodes (slice_index members k) ≡ n)
  pub back : (k : ℕ) → k < length members → slice_index own (slice_index members k) ≡ k

-- all of them, and those first that are fed
pub record HasMembers (nodes : List ℕ) (fed : List Bool) (n : ℕ) (members own : List ℕ) (inputs : ℕ) : Type 0 where
  pub numbered : Numbered nodes n members own
  pub inputs_le : inputs ≤ length members
  pub few : length members ≤ length nodes
  pub all : (x : ℕ) → x < length nodes → slice_index nodes x ≡ n → (slice_index own x < length members) × (slice_index members (slice_index own x) ≡ x)
  pub first : (k : ℕ) → k < inputs → get_or fed (slice_index members k) false ≡ true
  pub rest : (k : ℕ) → inputs ≤ k → k < length members → get_or fed (slice_index members k) false ≡ false

-- ---- what stands in a part

abbrev pub no_decl : Decl
no_decl = record { name = []; ty = IntTy; clock = [] }

abbrev pub own_of : List ℕ → ℕ → ℕ
own_of own x = slice_index own x

abbrev pub own_decl : List ℕ → Decl → Decl
own_decl own d = record { name = d.name; ty = d.ty; clock = below (own_of own) d.clock [] }

abbrev pub own_equation : List ℕ → ℕ × Expression → ℕ × Expression
own_equation own q = (own_of own q.0, renamed (own_of own) q.1)

-- an equation of node n that stays one
abbrev pub stays : List ℕ → List Bool → ℕ → ℕ × Expression → Bool
stays nodes fed n q = nat_eq (slice_index nodes q.0) n && not (get_or fed q.0 false)

-- what feeds the input x: a crossing, where it reads one
abbrev pub feed_by : ℕ → Option ℕ → Feed
feed_by x None = Input x
feed_by x (Some k) = Cross k

abbrev pub feed_of : List (Option ℕ) → ℕ → Feed
feed_of places x = feed_by x (get_or places x None)

-- those of node n among the first variables that are given out
abbrev pub outs_below : List ℕ → List Bool → ℕ → ℕ → List ℕ
outs_below nodes given n zero = []
outs_below nodes given n (suc x) = outs_below nodes given n x ++ (if nat_eq (slice_index nodes x) n && get_or given x false then x ∷ [] else [])

-- the part of node n
abbrev pub built : Originated → List ℕ → List Bool → List (Option ℕ) → List Bool → ℕ → List ℕ → List ℕ → ℕ → Part
built f nodes fed places given n members own inputs =
    let outs = outs_below nodes given n (length nodes) in
    record {
      flat = record {
        func = record {
          name = f.func.name;
          decls = map (λ x. own_decl own (get_or f.func.decls x no_decl)) members;
          n_in = inputs;
          outs = map (own_of own) outs;
          eqs = map (own_equation own) (filter (stays nodes fed n) f.func.eqs);
        };
        origin = members;
      };
      feeds = map (feed_of places) (take inputs members);
      outs = outs;
    }

-- ---- numbering

-- to the variables and numbers so far were added those variables of node n below the bound that the table picks
pub record Added (nodes : List ℕ) (picked : List Bool) (n : ℕ) (bound : ℕ) (members own members' own' : List ℕ) : Type 0 where
  pub more : length members ≤ length members'
  pub few : length members' ≤ length members + count_by (λ b. b) (take bound picked)
  pub kept : (k : ℕ) → k < length members → slice_index members' k ≡ slice_index members k
  pub fresh : (k : ℕ) → length members ≤ k → k < length members' → (slice_index members' k < bound) × (get_or picked (slice_index members' k) false ≡ true)
  pub numbered : Numbered nodes n members' own'
  pub all : (x : ℕ) → x < bound → slice_index nodes x ≡ n → get_or picked x false ≡ true → (slice_index own' x < length members') × (slice_index members' (slice_index own' x) ≡ x)
  pub others : (x : ℕ) → get_or picked x false ≡ false → slice_index own' x ≡ slice_index own x

-- none of these variables is picked
abbrev pub NonePicked : List Bool → List ℕ → Type 0
NonePicked picked members = (k : ℕ) → k < length members → get_or picked (slice_index members k) false ≡ false

-- ---- tables for all parts

-- whether a variable is fed: an input, or one that reads a crossing
pub record HasFed (n_in : ℕ) (places : List (Option ℕ)) (fed : List Bool) : Type 0 where
  pub size : length fed ≡ length places
  pub each : (x : ℕ) → x < length places → get_or fed x false ≡ (nat_lt x n_in || is_some (get_or places x None))

-- whether it is given out: an output, or one that crosses
pub record HasGiven (variables : ℕ) (outs : List ℕ) (cross : List Crossing) (given : List Bool) : Type 0 where
  pub size : length given ≡ variables
  pub each : (x : ℕ) → get_or given x false ≡ (has x outs || has x (map (λ c. c.var) cross))

-- the tables of a function on these nodes
pub record IsSpread (f : Originated) (s : Spread) : Type 0 where
  pub size : length s.nodes.items ≡ length f.func.decls
  pub readers : List (Option Crossing)
  pub reads : HasReaders f s.nodes.items readers
  pub places : HasPlaces readers (length f.func.decls) s.cross.items s.places.items
  pub fed : HasFed f.func.n_in s.places.items s.fed.items
  pub free : s.free.items ≡ map not s.fed.items
  pub given : HasGiven (length f.func.decls) f.func.outs s.cross.items s.given.items

-- the equations of each node read its own variables, but for the crossings, and so do its clocks
pub record IsLocal (f : Originated) (nodes : List ℕ) : Type 0 where
  pub direct : (x : ℕ) (e : Expression) (y : ℕ) → right_of f.func.eqs x ≡ Some e → has y (direct_reads e) ≡ true → slice_index nodes y ≡ slice_index nodes x
  pub slow : (x : ℕ) (e : Expression) (y : ℕ) → right_of f.func.eqs x ≡ Some e → clock_of f.func.decls x ≢ [] → has y (delayed_reads e) ≡ true → slice_index nodes y ≡ slice_index nodes x
  pub clocks : (x : ℕ) (y : ℕ) → x < length f.func.decls → has y (clock_vars (clock_of f.func.decls x)) ≡ true → slice_index nodes y ≡ slice_index nodes x

-- a part that was built for node n
pub record IsBuilt (f : Originated) (s : Spread) (n : ℕ) (q : Part) : Type 0 where
  pub members : List ℕ
  pub own : List ℕ
  pub inputs : ℕ
  pub numbers : HasMembers s.nodes.items s.fed.items n members own inputs
  pub is : q ≡ built f s.nodes.items s.fed.items s.places.items s.given.items n members own inputs

-- its function
abbrev pub part_function : Originated → Spread → ℕ → List ℕ → List ℕ → ℕ → Function
part_function f s n members own inputs = (built f s.nodes.items s.fed.items s.places.items s.given.items n members own inputs).flat.func

-- each of these is the part that was built for its node
abbrev pub AllBuilt : Originated → Spread → List Part → Type 0
AllBuilt f s parts = (n : ℕ) → n < length parts → IsBuilt f s n (get_or parts n no_part)
