-- What the crossings are.
use Rattle.std.proofs.Common.{◌≡◌, ◌≢◌, ℕ, zero, suc, ◌+◌, ◌<◌, ◌≤◌, Bool, true, false, List, [], ◌∷◌, ◌++◌, length, map, get_or, Option, Some, None, refl, sym, ap, ◌∙◌, subst, arith, All}
use Rattle.std.specs.Prelude.{nat_eq, slice_get, if◌then◌else◌}
use Rattle.std.specs.Str.{bytes_eq}
use Rattle.lt_base.specs.declared.value.Value.{Value}
use Rattle.lt_base.specs.Expression.{Expression, literal, variable, unary, binary, imported, choose, sampled, merged, delayed, follow, arrow, call}
use Rattle.lt_base.specs.Program.{GoodFunction, VarsBelow}
use Rattle.lt_base.specs.Meaning.{ClockPairs, clock_of, right_of}
use Rattle.lt_base.specs.Clocking.{ClockedFunction}
use Rattle.lt_base.proofs.Lookups.{right_all, left_below, same_self}
use Rattle.lt_base.proofs.Reading.{or_left}
use Rattle.lt_norm.specs.Flat.{Originated}
use Rattle.lt_place_reads.specs.declared.crossing.Crossing.{Crossing}
use Rattle.lt_place_reads.specs.Origins.{variable_count, name_of}
use Rattle.lt_place_reads.specs.Crossings.{cross_of, cross_in, cross_by, HasReaders, HasPlaces}
use Rattle.lt_place_reads.proofs.Crossed.{differ}
use Rattle.lt_arch.specs.declared.named.NamedNode.{NamedNode}
use Rattle.lt_arch.specs.declared.placement.Placement.{Placement}
use Rattle.lt_arch.specs.declared.placement.Placement.TheVariants.{All as OnOne, Named as OnListed}
use Rattle.lt_place.specs.declared.layout.Layout.{Layout}
use Rattle.lt_arch.specs.NodeNames.{names_of}
use Rattle.lt_arch.specs.Placement.{node_names}
use Rattle.lt_place.specs.Nodes.{listings_on, listings_from, node_listed, node_named, nodes_of, node_of}
use Rattle.lt_place.specs.Layout.{HasCrossings, crossing_of, no_crossing}
use Rattle.lt_place.specs.Spread.{IsLocal}

-- what a crossing is made of
pub record IsCross (nodes : List ℕ) (x : ℕ) (o : Option Expression) (c : Crossing) : Type 0 where
  pub equation : o ≡ Some (delayed c.first (variable c.var))
  pub from_is : c.from ≡ get_or nodes c.var 0
  pub to_is : c.to ≡ get_or nodes x 0
  pub reads : c.reader ≡ x
  pub away : get_or nodes c.var 0 ≢ get_or nodes x 0

made : (nodes : List ℕ) (x : ℕ) (v : Value) (y : ℕ) → Crossing
made nodes x v y = record { from = get_or nodes y 0; to = get_or nodes x 0; first = v; var = y; reader = x }

made_is : (nodes : List ℕ) (x : ℕ) (v : Value) (y : ℕ) → get_or nodes y 0 ≢ get_or nodes x 0 → IsCross nodes x (Some (delayed v (variable y))) (made nodes x v y)
unfolding made
made_is nodes x v y a = record { equation = refl; from_is = refl; to_is = refl; reads = refl; away = a }

not_equal : (a b : ℕ) → nat_eq a b ≡ false → a ≢ b
not_equal a b e s = let t : nat_eq a b ≡ true = ap (λ z. nat_eq a z) (sym s) ∙ same_self a in absurd (cc)

of_whole : (nodes : List ℕ) (x : ℕ) (v : Value) (a : Expression) (c : Crossing) → cross_of nodes x v a ≡ Some c → IsCross nodes x (Some (delayed v a)) c
unfolding made
of_whole nodes x v (variable y) c h =
    let go : (b : Bool) → nat_eq (get_or nodes y 0) (get_or nodes x 0) ≡ b → ◌≡◌ {A = Option Crossing} (if b then None else Some (record { from = get_or nodes y 0; to = get_or nodes x 0; first = v; var = y; reader = x })) (Some c) → IsCross nodes x (Some (delayed v (variable y))) c =
    elim [
      | true ↦ λ e k. absurd (cc)
      | false ↦ λ e k. let same : made nodes x v y ≡ c = cc in subst (IsCross nodes x (Some (delayed v (variable y)))) same (made_is nodes x v y (not_equal _ _ e))
    ] in
    go (nat_eq (get_or nodes y 0) (get_or nodes x 0)) refl h
of_whole nodes x v (literal w) c h = absurd (cc)
of_whole nodes x v (unary o a) c h = absurd (cc)
of_whole nodes x v (binary o a b) c h = absurd (cc)
of_whole nodes x v (imported o a b) c h = absurd (cc)
of_whole nodes x v (choose d a b) c h = absurd (cc)
of_whole nodes x v (sampled e d b) c h = absurd (cc)
of_whole nodes x v (merged d a b) c h = absurd (cc)
of_whole nodes x v (delayed w e) c h = absurd (cc)
of_whole nodes x v (follow a b) c h = absurd (cc)
of_whole nodes x v (arrow a b) c h = absurd (cc)
of_whole nodes x v (call g args) c h = absurd (cc)

of_right : (nodes : List ℕ) (x : ℕ) (e : Expression) (c : Crossing) → cross_in nodes x e ≡ Some c → IsCross nodes x (Some e) c
of_right nodes x (delayed v a) c h = of_whole nodes x v a c h
of_right nodes x (literal w) c h = absurd (cc)
of_right nodes x (variable y) c h = absurd (cc)
of_right nodes x (unary o a) c h = absurd (cc)
of_right nodes x (binary o a b) c h = absurd (cc)
of_right nodes x (imported o a b) c h = absurd (cc)
of_right nodes x (choose d a b) c h = absurd (cc)
of_right nodes x (sampled e d b) c h = absurd (cc)
of_right nodes x (merged d a b) c h = absurd (cc)
of_right nodes x (follow a b) c h = absurd (cc)
of_right nodes x (arrow a b) c h = absurd (cc)
of_right nodes x (call g args) c h = absurd (cc)

pub cross_is : (nodes : List ℕ) (x : ℕ) (o : Option Expression) (c : Crossing) → cross_by nodes x o ≡ Some c → IsCross nodes x o c
cross_is nodes x None c h = absurd (cc)
cross_is nodes x (Some e) c h = of_right nodes x e c h

pub is_cross : (nodes : List ℕ) (x : ℕ) (v : Value) (y : ℕ) → get_or nodes y 0 ≢ get_or nodes x 0 → (c : Crossing) × (cross_by nodes x (Some (delayed v (variable y))) ≡ Some c)
unfolding made
is_cross nodes x v y a = (made nodes x v y, ap (λ b. if b then None else Some (made nodes x v y)) (differ (get_or nodes y 0) (get_or nodes x 0) a))

-- ---- in a list of them

module _ (f : Originated) (good : GoodFunction f.func) (nodes : List ℕ) (readers : List (Option Crossing)) (r : HasReaders f nodes readers) (list : List Crossing) (places : List (Option ℕ)) (h : HasPlaces readers (variable_count f) list places) where
  pub of_place : (k : ℕ) (c : Crossing) → slice_get list k ≡ Some c → (c.reader < variable_count f) × IsCross nodes c.reader (right_of f.func.eqs c.reader) c
  of_place k c s =
      let e = h.each k c s in
      (e.0, cross_is nodes c.reader (right_of f.func.eqs c.reader) c (sym (r.each c.reader e.0) ∙ e.1))

  pub var_below : (k : ℕ) (c : Crossing) → slice_get list k ≡ Some c → c.var < variable_count f
  var_below k c s =
      let o = of_place k c s in
      right_all (λ q. VarsBelow (variable_count f) q.1) f.func.eqs good.rights c.reader (delayed c.first (variable c.var)) o.1.equation

  get_at : (xs : List Crossing) (k : ℕ) (d : Crossing) → k < length xs → slice_get xs k ≡ Some (get_or xs k d)
  get_at [] k d l = absurd (omega arith)
  get_at (x ∷ xs) zero d l = refl
  get_at (x ∷ xs) (suc k) d l = get_at xs k d (omega arith)

  pub at_place : (k : ℕ) (d : Crossing) → k < length list → slice_get list k ≡ Some (get_or list k d)
  at_place k d l = get_at list k d l

  pub vars_below : (list' : List Crossing) (n : ℕ) → list' ≡ list → n ≡ variable_count f → All (λ (c : Crossing). c.var < n) list'
  vars_below list' n e k = subst (λ xs. All (λ (c : Crossing). c.var < n) xs) (sym e) (λ i d l. let b = var_below i (get_or list i d) (at_place i d l) in omega (arith, b, k))

-- ---- the numbers of nodes

listed_below : (n : ℕ) (nodes : List NamedNode) (m : ℕ) (q : List ℕ) → n + length nodes ≤ m → 0 < m → node_listed (listings_from n nodes) q < m
listed_below n [] m q h p = p
listed_below n (node ∷ nodes) m q h p = on node.vars (listed_below (suc n) nodes m q (omega arith) p)
  where
    on : (names : List (List ℕ)) → node_listed (listings_from (suc n) nodes) q < m → node_listed (listings_on n names ++ listings_from (suc n) nodes) q < m
    on [] k = k
    on (x ∷ xs) k = by (bytes_eq q x) (on xs k)
      where
        by : (b : Bool) → node_listed (listings_on n xs ++ listings_from (suc n) nodes) q < m → (if b then n else node_listed (listings_on n xs ++ listings_from (suc n) nodes) q) < m
        by true z = omega arith
        by false z = z

names_long : (nodes : List NamedNode) → length (names_of nodes) ≡ length nodes
names_long [] = refl
names_long (x ∷ xs) = let h = names_long xs in omega (arith, h)

named_below : (p : Placement) (q : List ℕ) → node_named p q < length (node_names p)
named_below OnOne q = omega arith
named_below (OnListed named) q = let l = names_long named.nodes in let i = named.inhabited in listed_below 0 named.nodes (length (names_of named.nodes)) q (omega (arith, l)) (omega (arith, l, i))

map_below : (g : ℕ → ℕ) (m : ℕ) → ((o : ℕ) → g o < m) → 0 < m → (xs : List ℕ) (x : ℕ) → get_or (map g xs) x 0 < m
map_below g m h p [] x = p
map_below g m h p (o ∷ xs) zero = h o
map_below g m h p (o ∷ xs) (suc x) = map_below g m h p xs x

pub node_below : (f : Originated) (p : Placement) (x : ℕ) → node_of f p x < length (node_names p)
node_below f p x =
    let b = named_below p [] in
    map_below (λ o. node_named p (name_of f o)) (length (node_names p)) (λ o. named_below p (name_of f o)) (omega (arith, b)) f.origin x

-- ---- the crossings of a layout

clock_case : (ck : ClockPairs) → (ck ≢ [] → ⊥) → ck ≡ []
clock_case [] h = refl
clock_case (p ∷ ck) h = absurd (h (λ e. cc))

module _ (f : Originated) (good : GoodFunction f.func) (clocked : ClockedFunction [] f.func) (p : Placement) (nodes : List ℕ) (e : nodes ≡ nodes_of f p) (local : IsLocal f nodes) (readers : List (Option Crossing)) (r : HasReaders f nodes readers) (places : List (Option ℕ)) (l : Layout) (h : HasPlaces readers (variable_count f) l.cross places) (long : length l.nodes ≡ length (node_names p)) where
  node_at : (x : ℕ) → get_or nodes x 0 ≡ node_of f p x
  node_at x = ap (λ (ns : List ℕ). get_or ns x 0) e

  of_number : (c : ℕ) → c < length l.cross → ((crossing_of l c).reader < variable_count f) × IsCross nodes (crossing_of l c).reader (right_of f.func.eqs (crossing_of l c).reader) (crossing_of l c)
  unfolding crossing_of
  of_number c b = of_place f good nodes readers r l.cross places h c (crossing_of l c) (at_place f good nodes readers r l.cross places h c no_crossing b)

  base : (c : ℕ) → c < length l.cross → clock_of f.func.decls (crossing_of l c).reader ≡ []
  base c b =
      let o = (of_number c b).1 in
      clock_case (clock_of f.func.decls (crossing_of l c).reader) (λ n.
      o.away (local.slow (crossing_of l c).reader (delayed (crossing_of l c).first (variable (crossing_of l c).var)) (crossing_of l c).var o.equation n (or_left _ _ (same_self (crossing_of l c).var))))

  in_order : (b c : ℕ) → b < c → c < length l.cross → (crossing_of l b).reader < (crossing_of l c).reader
  unfolding crossing_of
  in_order b c lt k =
      h.ordered b c (crossing_of l b) (crossing_of l c) lt (at_place f good nodes readers r l.cross places h b no_crossing (omega arith)) (at_place f good nodes readers r l.cross places h c no_crossing k)

  number_of : (k : ℕ) (c : Crossing) → slice_get l.cross k ≡ Some c → (k < length l.cross) × (crossing_of l k ≡ c)
  unfolding crossing_of
  number_of k c s = go l.cross k s
    where
      go : (xs : List Crossing) (k : ℕ) → slice_get xs k ≡ Some c → (k < length xs) × (get_or xs k no_crossing ≡ c)
      go [] k s = absurd (cc)
      go (x ∷ xs) zero s = (omega arith, cc)
      go (x ∷ xs) (suc k) s = let w = go xs k s in (let b = w.0 in omega (arith, b), w.1)

  pub crossings : HasCrossings f p l
  crossings = record {
    readers = λ c b. (of_number c b).1.equation;
    readers_declared = λ c b. (of_number c b).0;
    readers_on_base = base;
    vars_on_base = λ c b. let o = (of_number c b).1 in (clocked.rights (crossing_of l c).reader (delayed (crossing_of l c).first (variable (crossing_of l c).var)) o.equation).1 ∙ base c b;
    from_node = λ c b. (of_number c b).1.from_is ∙ node_at (crossing_of l c).var;
    to_node = λ c b. (of_number c b).1.to_is ∙ node_at (crossing_of l c).reader;
    apart = λ c b s. let o = (of_number c b).1 in o.away (sym o.from_is ∙ s ∙ o.to_is);
    senders = λ c b. let o = (of_number c b).1 in let n = node_below f p (crossing_of l c).var in let z = o.from_is ∙ node_at (crossing_of l c).var in omega (arith, n, z, long);
    receivers = λ c b. let o = (of_number c b).1 in let n = node_below f p (crossing_of l c).reader in let z = o.to_is ∙ node_at (crossing_of l c).reader in omega (arith, n, z, long);
    all = λ x v y q a.
        let c = is_cross nodes x v y (λ s. a (sym (node_at y) ∙ s ∙ node_at x)) in
        let b = left_below f.func good x (delayed v (variable y)) q in
        let s = h.some x c.0 b (r.each x b ∙ ap (cross_by nodes x) q ∙ c.1) in
        let w = number_of s.0 c.0 s.2 in
        (s.0, w.0, ap (λ (c : Crossing). c.reader) w.1 ∙ (cross_is nodes x (Some (delayed v (variable y))) c.0 c.1).reads);
    ordered = in_order;
  }
