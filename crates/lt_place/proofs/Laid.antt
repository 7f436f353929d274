-- The layout of a legal function.
use Rattle.std.proofs.Common.{◌≡◌, ◌⊎◌, inl, inr, ℕ, zero, suc, ◌<◌, Bool, true, false, List, [], ◌∷◌, length, map, get_or, Option, Some, None, refl, sym, ap, ◌∙◌, subst, arith, ⊎_elim, ltb-true}
use Rattle.std.specs.Prelude.{nat_eq, nat_lt, ◌||◌, slice_get}
use Rattle.std.specs.Option.{is_some}
use Rattle.std.proofs.lemmas.Bool.{or_cases, cases_Bool}
use Rattle.lt_base.specs.Expression.{Expression}
use Rattle.lt_base.specs.Program.{GoodFunction}
use Rattle.lt_base.specs.Meaning.{right_of}
use Rattle.lt_base.specs.Typing.{TypedFunction}
use Rattle.lt_base.specs.Clocking.{ClockedFunction}
use Rattle.lt_base.specs.Dependence.{Causal, has}
use Rattle.lt_base.specs.Placed.{renamed}
use Rattle.lt_base.proofs.Lookups.{input_none, left_below, same_self}
use Rattle.lt_base.proofs.Reading.{or_left, or_right, has_one}
use Rattle.lt_norm.specs.Flat.{Originated, FlatFunction}
use Rattle.lt_place_reads.specs.declared.crossing.Crossing.{Crossing}
use Rattle.lt_place_reads.specs.Origins.{variable_count, origin_of}
use Rattle.lt_place_reads.specs.Crossings.{HasPlaces}
use Rattle.lt_arch.specs.declared.placement.Placement.{Placement}
use Rattle.lt_place.specs.declared.layout.Part.{Part}
use Rattle.lt_place.specs.declared.layout.Layout.{Layout}
use Rattle.lt_place.specs.declared.spread.Spread.{Spread}
use Rattle.lt_arch.specs.Placement.{node_names}
use Rattle.lt_place.specs.Nodes.{nodes_of, node_of}
use Rattle.lt_place.specs.Legal.{Legal}
use Rattle.lt_place.specs.Layout.{IsLayoutOf, IsPartOf, part_of, crossing_of, no_crossing}
use Rattle.lt_place.specs.Spread.{IsSpread, IsLocal, IsBuilt, AllBuilt}
use Rattle.lt_place.proofs.Splitting.{splits}
use Rattle.lt_place.proofs.Crosses.{IsCross, cross_is, crossings, node_below}
use Rattle.lt_place.proofs.Parts.{Splits, Wires, Out, part_is, part_equation}

pub local_of : (f : Originated) (p : Placement) (nodes : List ℕ) → nodes ≡ nodes_of f p → Legal f p → IsLocal f nodes
local_of f p nodes e l =
    let at : (x : ℕ) → get_or nodes x 0 ≡ node_of f p x = λ x. ap (λ (ns : List ℕ). get_or ns x 0) e in
    record {
      direct = λ x a y q h. at y ∙ l.direct x a y q h ∙ sym (at x);
      slow = λ x a y q n h. at y ∙ l.slow x a y q n h ∙ sym (at x);
      clocks = λ x y b h. at y ∙ l.clocks x y b h ∙ sym (at x);
    }

some_some : {A : Type 0} (o : Option A) → (o ≡ None → ⊥) → (a : A) × (o ≡ Some a)
some_some None h = absurd (h refl)
some_some (Some a) h = (a, refl)

var_has : (cross : List Crossing) (k v : ℕ) (d : Crossing) → k < length cross → (get_or cross k d).var ≡ v → has v (map (λ c. c.var) cross) ≡ true
var_has [] k v d l e = absurd (omega arith)
var_has (c ∷ cross) zero v d l e = or_left (nat_eq v c.var) (has v (map (λ c. c.var) cross)) (ap (λ z. nat_eq z c.var) (sym e) ∙ same_self c.var)
var_has (c ∷ cross) (suc k) v d l e = or_right (nat_eq v c.var) (has v (map (λ c. c.var) cross)) (var_has cross k v d (omega arith) e)

has_var : (cross : List Crossing) (v : ℕ) (d : Crossing) → has v (map (λ c. c.var) cross) ≡ true → (k : ℕ) × (k < length cross) × ((get_or cross k d).var ≡ v)
has_var [] v d h = absurd (cc)
has_var (c ∷ cross) v d h =
    has_one (λ v. (k : ℕ) × (k < length (c ∷ cross)) × ((get_or (c ∷ cross) k d).var ≡ v)) c.var (map (λ c. c.var) cross) v h
    (0, omega arith, refl)
    (λ j. let w = has_var cross v d j in (suc w.0, (let b = w.1 in omega (arith, b)), w.2))

module _ (f : Originated) (good : GoodFunction f.func) (flat : FlatFunction f.func) (p : Placement) (s : Spread) (sp : IsSpread f s) (e : s.nodes.items ≡ nodes_of f p) (legal : Legal f p) (l : Layout) (cross : l.cross ≡ s.cross.items) where
  abbrev nodes : List ℕ
  nodes = s.nodes.items

  abbrev fed : List Bool
  fed = s.fed.items

  abbrev places : List (Option ℕ)
  places = s.places.items

  abbrev given : List Bool
  given = s.given.items

  local : IsLocal f nodes
  local = local_of f p nodes e legal

  hp : HasPlaces sp.readers (variable_count f) l.cross places
  hp = subst (λ (xs : List Crossing). HasPlaces sp.readers (variable_count f) xs places) (sym cross) sp.places

  split : Splits f nodes fed
  split = splits f good flat nodes local sp.readers sp.reads l.cross places hp fed sp.fed

  fed_is : (x : ℕ) → x < variable_count f → get_or fed x false ≡ (nat_lt x f.func.n_in || is_some (get_or places x None))
  fed_is x b = sp.fed.each x (let z = hp.size in omega (arith, z, b))

  input : (x : ℕ) → x < variable_count f → get_or fed x false ≡ true → get_or places x None ≡ None → right_of f.func.eqs x ≡ None
  input x b t q = ⊎_elim
      (λ a. input_none f.func good x (ltb-true x f.func.n_in a))
      (λ a. let z : is_some (get_or places x None) ≡ false = ap is_some q in absurd (cc))
      (or_cases (nat_lt x f.func.n_in) (is_some (get_or places x None)) (sym (fed_is x b) ∙ t))

  at : (k : ℕ) (c : Crossing) → slice_get l.cross k ≡ Some c → (k < length l.cross) × (crossing_of l k ≡ c)
  unfolding crossing_of
  at k c q = go l.cross k q
    where
      go : (xs : List Crossing) (k : ℕ) → slice_get xs k ≡ Some c → (k < length xs) × (get_or xs k no_crossing ≡ c)
      go [] k q = absurd (cc)
      go (x ∷ xs) zero q = (omega arith, cc)
      go (x ∷ xs) (suc k) q = let w = go xs k q in (let b = w.0 in omega (arith, b), w.1)

  -- the place of a reader is that of its crossing
  reader_at : (x k : ℕ) → x < variable_count f → get_or places x None ≡ Some k → (c : Crossing) × (slice_get l.cross k ≡ Some c) × IsCross nodes x (right_of f.func.eqs x) c
  reader_at x k b q =
      let w = some_some (get_or sp.readers x None) (λ z. let y : Some k ≡ None = sym q ∙ hp.none x b z in absurd (cc)) in
      let o = hp.some x w.0 b w.1 in
      let same : o.0 ≡ k = let y : Some o.0 ≡ Some k = sym o.1 ∙ q in cc in
      (w.0, ap (slice_get l.cross) (sym same) ∙ o.2, cross_is nodes x (right_of f.func.eqs x) w.0 (sym (sp.reads.each x b) ∙ w.1))

  reads : (x k : ℕ) → x < variable_count f → get_or places x None ≡ Some k → ((crossing_of l k).reader ≡ x) × (k < length l.cross) × ((crossing_of l k).to ≡ get_or nodes x 0)
  reads x k b q =
      let w = reader_at x k b q in
      let a = at k w.0 w.1 in
      (ap (λ (c : Crossing). c.reader) a.1 ∙ w.2.reads, a.0, ap (λ (c : Crossing). c.to) a.1 ∙ w.2.to_is)

  given_at : (v : ℕ) → get_or given v false ≡ (has v f.func.outs || has v (map (λ c. c.var) l.cross))
  given_at v = sp.given.each v ∙ ap (λ (xs : List Crossing). has v f.func.outs || has v (map (λ c. c.var) xs)) (sym cross)

  out_given : (v : ℕ) → Out f l v → get_or given v false ≡ true
  unfolding crossing_of
  out_given v o = given_at v ∙ ⊎_elim (λ h. or_left (has v f.func.outs) (has v (map (λ c. c.var) l.cross)) h) (λ h. or_right (has v f.func.outs) (has v (map (λ c. c.var) l.cross)) (var_has l.cross h.0 v no_crossing h.1 h.2)) o

  given_out : (v : ℕ) → get_or given v false ≡ true → Out f l v
  unfolding crossing_of
  given_out v t = ⊎_elim (λ h. inl h) (λ h. inr (has_var l.cross v no_crossing h)) (or_cases (has v f.func.outs) (has v (map (λ c. c.var) l.cross)) (sym (given_at v) ∙ t))

  wires : Wires f nodes fed places given l
  wires = record { input = input; cross = reads; out_given = out_given; given_out = given_out }

  module _ (typed : TypedFunction [] f.func) (clocked : ClockedFunction [] f.func) (causal : Causal f.func) (names : l.names ≡ node_names p) (outs : l.outs ≡ f.func.outs) (long : length l.nodes ≡ length (node_names p)) (all : AllBuilt f s l.nodes) where
    part_at : (n : ℕ) → n < length l.nodes → IsBuilt f s n (part_of l n)
    unfolding part_of
    part_at n b = all n b

    parts : (n : ℕ) → n < length l.nodes → IsPartOf f p l n (part_of l n)
    parts n b =
        let q = part_at n b in
        subst (IsPartOf f p l n) (sym q.is) (part_is f good flat nodes sp.size fed n q.members q.own q.inputs q.numbers split given p e l places wires typed clocked causal)

    abbrev Stands : ℕ → Expression → ℕ → Part → Type 0
    Stands x d n q = (k : ℕ) × (k < variable_count q.flat) × (origin_of q.flat k ≡ x) × (a : Expression) × (right_of q.flat.func.eqs k ≡ Some a) × (renamed (origin_of q.flat) a ≡ d)

    equation : (x : ℕ) (d : Expression) → right_of f.func.eqs x ≡ Some d →
        ((c : ℕ) × (c < length l.cross) × ((crossing_of l c).reader ≡ x))
        ⊎ ((n : ℕ) × (k : ℕ) × (n < length l.nodes) × (k < variable_count (part_of l n).flat) × (origin_of (part_of l n).flat k ≡ x) × (a : Expression) × (right_of (part_of l n).flat.func.eqs k ≡ Some a) × (renamed (origin_of (part_of l n).flat) a ≡ d))
    equation x d q =
        let b = left_below f.func good x d q in
        ⊎_elim
        (λ t.
        let w = some_some (get_or places x None) (λ z. let y : Some d ≡ None = sym q ∙ input x b t z in absurd (cc)) in
        let r = reads x w.0 b w.1 in
        inl (w.0, r.1, r.0))
        (λ t.
        let n = get_or nodes x 0 in
        let in_range : n < length l.nodes = let z = node_below f p x in let y = ap (λ (ns : List ℕ). get_or ns x 0) e in omega (arith, z, y, long) in
        let g = part_at n in_range in
        let w : Stands x d n (part_of l n) = subst (Stands x d n) (sym g.is) (part_equation f good flat nodes sp.size fed n g.members g.own g.inputs g.numbers split given p e l places wires x d q refl t) in
        inr (n, w.0, in_range, w.1, w.2, w.3, w.4, w.5))
        (cases_Bool (get_or fed x false))

    pub is_layout : IsLayoutOf f p l
    is_layout = record {
      names = names;
      nodes = long;
      parts = parts;
      crossings = crossings f good clocked p nodes e local sp.readers sp.reads places l hp long;
      outs = outs;
      equations = equation;
    }
