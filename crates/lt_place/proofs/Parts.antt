-- A part that was built for a node.
use Rattle.std.proofs.Common.{◌≡◌, ◌⊎◌, ℕ, zero, suc, ◌<◌, ◌≤◌, Bool, true, false, not, List, [], ◌∷◌, length, map, take, get_or, Option, Some, None, refl, sym, ap, ◌∙◌, subst, arith, ⊎_elim, All, eqb-true}
use Rattle.std.specs.Prelude.{nat_eq, nat_le, nat_lt, ◌&&◌, slice_get, if◌then◌else◌}
use Rattle.std.specs.List.{filter}
use Rattle.std.proofs.lemmas.List.{length-map, length-take-le}
use Rattle.std.proofs.lemmas.List.Elements.{All-map, All-filter, All-from_get_or}
use Rattle.std.proofs.lemmas.Bool.{cases_lt}
use Rattle.std.proofs.lemmas.Bool.Decides.{nat_tests}
use Rattle.lt_base.specs.declared.value.Ty.TheVariants.{Bool as BoolTy}
use Rattle.lt_base.specs.declared.function.Decl.{Decl}
use Rattle.lt_base.specs.Expression.{Expression, parts}
use Rattle.lt_base.specs.Program.{Function, GoodFunction, VarsBelow}
use Rattle.lt_base.specs.Meaning.{clock_of, right_of}
use Rattle.lt_base.specs.Typing.{ty_at, type_of, TypedFunction}
use Rattle.lt_base.specs.Clocking.{Clocked, ClockedFunction, WellFormed}
use Rattle.lt_base.specs.Dependence.{has, Causal}
use Rattle.lt_base.specs.Order.{EachRead, EachClockVar}
use Rattle.lt_base.specs.Equations.{left_count, EquationsIn}
use Rattle.lt_base.specs.Calls.{EachCall}
use Rattle.lt_base.specs.Placed.{StandsIn, renamed, below}
use Rattle.lt_base.proofs.Lookups.{all_found, is_input, left_below, same_self}
use Rattle.lt_base.proofs.Reading.{each_clock_map}
use Rattle.lt_base.proofs.Order.{causal_from_ranks}
use Rattle.lt_base.proofs.Behaviour.{causal_by_ranks}
use Rattle.lt_norm.specs.Flat.{Originated, FlatRight, FlatFunction}
use Rattle.lt_place_reads.specs.Origins.{variable_count}
use Rattle.lt_place_reads.proofs.Decls.{clock_get}
use Rattle.lt_place_reads.proofs.Lefts.{lefts_below}
use Rattle.lt_place.specs.declared.layout.Part.{Part}
use Rattle.lt_place.specs.Spread.{HasMembers, own_of, own_decl, own_equation, stays, built, no_decl, outs_below, feed_of, feed_by}
use Rattle.lt_arch.specs.declared.placement.Placement.{Placement}
use Rattle.lt_place.specs.declared.layout.Feed.{Feed}
use Rattle.lt_place.specs.declared.layout.Layout.{Layout}
use Rattle.lt_place.specs.Nodes.{nodes_of, node_of}
use Rattle.lt_place.specs.Sizes.{IsNoLarger}
use Rattle.lt_place.specs.Layout.{IsPartOf, PartGives, FeedFits, crossing_of}
use Rattle.lt_place.proofs.Lists.{clock_map, ty_map, name_map, ty_get, name_get, clock_beyond, each_of_all, all_below, each_clock_both, was, all_kept, all_take, lefts_kept, lefts_none}
use Rattle.lt_place.proofs.Outs.{outs_in, outs_out, outs_ascend, outs_once}
use Rattle.lt_place.proofs.Sizes.{delays, delays_renamed, parts_renamed, length_below, length_picked, sum_picked, sum_made}
use Rattle.lt_place.proofs.Turns.{var_at}
use Rattle.lt_place.proofs.Vars.{EachVar, each_var_map, flat_callless, flat_renamed, vars_below, renamed_back, below_back, read_back, clock_back, type_renamed, clocked_renamed, well_renamed}

-- what the variables of a function must keep so that it can be split: what is fed is on the base clock, and all else has an equation
-- that reads variables of its own node; and so do the clocks
pub record Splits (f : Originated) (nodes : List ℕ) (fed : List Bool) : Type 0 where
  pub base : (x : ℕ) → x < variable_count f → get_or fed x false ≡ true → clock_of f.func.decls x ≡ []
  pub free : (x : ℕ) → x < variable_count f → get_or fed x false ≡ false → f.func.n_in ≤ x
  pub reads : (x : ℕ) (e : Expression) → right_of f.func.eqs x ≡ Some e → get_or fed x false ≡ false → EachVar (λ y. (y < variable_count f) × (get_or nodes y 0 ≡ get_or nodes x 0)) e
  pub clocks : (x : ℕ) → x < variable_count f → EachClockVar (λ y. (y < variable_count f) × (get_or nodes y 0 ≡ get_or nodes x 0)) (clock_of f.func.decls x)

-- a variable that is given out: an output, or one that crosses
abbrev pub Out : Originated → Layout → ℕ → Type 0
Out f l v = (has v f.func.outs ≡ true) ⊎ ((c : ℕ) × (c < length l.cross) × ((crossing_of l c).var ≡ v))

-- what feeds the variables, and what is given out
pub record Wires (f : Originated) (nodes : List ℕ) (fed : List Bool) (places : List (Option ℕ)) (given : List Bool) (l : Layout) : Type 0 where
  pub input : (x : ℕ) → x < variable_count f → get_or fed x false ≡ true → get_or places x None ≡ None → right_of f.func.eqs x ≡ None
  pub cross : (x k : ℕ) → x < variable_count f → get_or places x None ≡ Some k → ((crossing_of l k).reader ≡ x) × (k < length l.cross) × ((crossing_of l k).to ≡ get_or nodes x 0)
  pub out_given : (v : ℕ) → Out f l v → get_or given v false ≡ true
  pub given_out : (v : ℕ) → get_or given v false ≡ true → Out f l v

eq_index : (f : Function) (qs : List (ℕ × Expression)) → EquationsIn f qs → (i : ℕ) (d : ℕ × Expression) → i < length qs → right_of f.eqs (get_or qs i d).0 ≡ Some (get_or qs i d).1
eq_index f [] t i d l = absurd (omega arith)
eq_index f (q ∷ qs) t zero d l = t.0
eq_index f (q ∷ qs) t (suc i) d l = eq_index f qs t.1 i d (omega arith)

and_both : (a b : Bool) → (a && b) ≡ true → (a ≡ true) × (b ≡ true)
and_both true b h = (refl, h)
and_both false b h = absurd (cc)

of_not : (b : Bool) → not b ≡ true → b ≡ false
of_not true h = absurd (cc)
of_not false h = refl

map_at : (g : ℕ → ℕ) (xs : List ℕ) (k : ℕ) → k < length xs → get_or (map g xs) k 0 ≡ g (get_or xs k 0)
map_at g [] k l = absurd (omega arith)
map_at g (x ∷ xs) zero l = refl
map_at g (x ∷ xs) (suc k) l = map_at g xs k (omega arith)

one_if : (n m k : ℕ) → n ≤ k → k < m → ◌≡◌ {A = ℕ} (if nat_le n k && nat_lt k m then 1 else 0) 1
one_if n m k a b = grind (arith, nat_tests)

zero_low : (n m k : ℕ) → k < n → ◌≡◌ {A = ℕ} (if nat_le n k && nat_lt k m then 1 else 0) 0
zero_low n m k a = grind (arith, nat_tests)

zero_high : (n m k : ℕ) → m ≤ k → ◌≡◌ {A = ℕ} (if nat_le n k && nat_lt k m then 1 else 0) 0
zero_high n m k a = grind (arith, nat_tests)

module _ (f : Originated) (good : GoodFunction f.func) (flat : FlatFunction f.func) (nodes : List ℕ) (size : length nodes ≡ variable_count f) (fed : List Bool) (n : ℕ) (members own : List ℕ) (inputs : ℕ) (h : HasMembers nodes fed n members own inputs) (splits : Splits f nodes fed) (given : List Bool) where
  abbrev pub s : ℕ → ℕ
  s = own_of own

  abbrev pub r : ℕ → ℕ
  r k = get_or members k 0

  abbrev pub decls : List Decl
  decls = map (λ x. own_decl own (get_or f.func.decls x no_decl)) members

  abbrev pub eqs : List (ℕ × Expression)
  eqs = map (own_equation own) (filter (stays nodes fed n) f.func.eqs)

  pub many : length decls ≡ length members
  many = length-map members (λ x. own_decl own (get_or f.func.decls x no_decl))

  -- ---- the numbers

  pub inside : (k : ℕ) → k < length members → (r k < variable_count f) × (get_or nodes (r k) 0 ≡ n)
  inside k l = let i = h.numbered.inside k l in (omega (arith, i.0, size), i.1)

  pub back : (k : ℕ) → k < length members → s (r k) ≡ k
  back k l = h.numbered.back k l

  pub forth : (x : ℕ) → x < variable_count f → get_or nodes x 0 ≡ n → (s x < length members) × (r (s x) ≡ x)
  forth x l e = h.all x (omega (arith, size, l)) e

  -- ---- declarations

  clock_at : (k : ℕ) → k < length members → clock_of decls k ≡ below s (clock_of f.func.decls (r k)) []
  clock_at k l = clock_map (λ x. own_decl own (get_or f.func.decls x no_decl)) members k l ∙ ap (λ ck. below s ck []) (sym (clock_get f.func.decls (r k) no_decl (inside k l).0))

  pub ty_here : (k : ℕ) → k < length members → ty_at decls k ≡ ty_at f.func.decls (r k)
  ty_here k l = ty_map (λ x. own_decl own (get_or f.func.decls x no_decl)) members k l ∙ sym (ty_get f.func.decls (r k) no_decl (inside k l).0)

  -- a variable of the node, in the part
  pub record Home (y : ℕ) : Type 0 where
    pub below_len : s y < length decls
    pub returns : r (s y) ≡ y
    pub type : ty_at decls (s y) ≡ ty_at f.func.decls y
    pub clock : clock_of decls (s y) ≡ below s (clock_of f.func.decls y) []

  home : (y : ℕ) → y < variable_count f → get_or nodes y 0 ≡ n → Home y
  home y l e =
      let w = forth y l e in
      record {
        below_len = (let m = many in let b = w.0 in omega (arith, m, b));
        returns = w.1;
        type = ty_here (s y) w.0 ∙ ap (ty_at f.func.decls) w.1;
        clock = clock_at (s y) w.0 ∙ ap (λ z. below s (clock_of f.func.decls z) []) w.1;
      }

  clock_homes : (k : ℕ) → k < length members → EachClockVar Home (clock_of f.func.decls (r k))
  clock_homes k l =
      let i = inside k l in
      each_clock_map (λ y. (y < variable_count f) × (get_or nodes y 0 ≡ get_or nodes (r k) 0)) Home (λ y p. home y p.0 (p.1 ∙ i.1)) (clock_of f.func.decls (r k)) (splits.clocks (r k) i.0)

  clock_returns : (k : ℕ) → k < length members → below r (below s (clock_of f.func.decls (r k)) []) [] ≡ clock_of f.func.decls (r k)
  clock_returns k l = below_back s r (clock_of f.func.decls (r k)) (each_clock_map Home (λ y. r (s y) ≡ y) (λ y p. p.returns) (clock_of f.func.decls (r k)) (clock_homes k l))

  -- ---- equations

  -- what stays is an equation of the node that is not fed
  staying : (q : ℕ × Expression) → stays nodes fed n q ≡ true → (get_or nodes q.0 0 ≡ n) × (get_or fed q.0 false ≡ false)
  staying q t = let b = and_both (nat_eq (get_or nodes q.0 0) n) (not (get_or fed q.0 false)) t in (eqb-true (get_or nodes q.0 0) n b.0, of_not (get_or fed q.0 false) b.1)

  stay : (q : ℕ × Expression) → get_or nodes q.0 0 ≡ n → get_or fed q.0 false ≡ false → stays nodes fed n q ≡ true
  stay q a b = (λ i. nat_eq (a i) n && not (b i)) ∙ both (nat_eq n n) (same_self n)
    where
      both : (t : Bool) → t ≡ true → (t && true) ≡ true
      both true e = refl
      both false e = absurd (cc)

  -- where an equation of the part comes from
  pub record Comes (k : ℕ) (e : Expression) : Type 0 where
    pub left : ℕ
    pub right : Expression
    pub equation : right_of f.func.eqs left ≡ Some right
    pub inside_len : k < length members
    pub is_left : r k ≡ left
    pub on : get_or nodes left 0 ≡ n
    pub unfed : get_or fed left false ≡ false
    pub is : e ≡ renamed s right
    pub homes : EachVar Home right

  pub comes : (k : ℕ) (e : Expression) → right_of eqs k ≡ Some e → Comes k e
  comes k e q =
      let w = was s (stays nodes fed n) f.func.eqs k e q in
      let at = w.at (0, e) in
      let equation : right_of f.func.eqs w.left ≡ Some w.right = subst (λ (p : ℕ × Expression). right_of f.func.eqs p.0 ≡ Some p.1) at (eq_index f.func f.func.eqs (all_found f.func good) w.index (0, e) w.inside) in
      let st = staying (w.left, w.right) w.keeps in
      let l = left_below f.func good w.left w.right equation in
      let b = forth w.left l st.0 in
      record {
        left = w.left;
        right = w.right;
        equation = equation;
        inside_len = subst (λ z. z < length members) w.own b.0;
        is_left = ap r (sym w.own) ∙ b.1;
        on = st.0;
        unfed = st.1;
        is = w.is;
        homes = each_var_map (λ y. (y < variable_count f) × (get_or nodes y 0 ≡ get_or nodes w.left 0)) Home (λ y p. home y p.0 (p.1 ∙ st.0)) w.right (splits.reads w.left w.right equation st.1);
      }

  pub returned : (k : ℕ) (e : Expression) (c : Comes k e) → renamed r e ≡ c.right
  returned k e c = ap (renamed r) c.is ∙ renamed_back s r c.right (each_var_map Home (λ y. r (s y) ≡ y) (λ y p. p.returns) c.right c.homes)

  -- ---- the function

  abbrev outs : List ℕ
  outs = outs_below nodes given n (length nodes)

  abbrev pub F : Function
  F = record { name = f.func.name; decls = decls; n_in = inputs; outs = map s outs; eqs = eqs }

  pub stands : StandsIn f.func F r []
  stands = record {
    numbers = λ k l. (inside k (let m = many in omega (arith, l, m))).0;
    equations = λ k e p. let c = comes k e p in ap (right_of f.func.eqs) c.is_left ∙ c.equation ∙ ap Some (sym (returned k e c));
    clocks = λ k e p. let c = comes k e p in sym (clock_returns k c.inside_len) ∙ ap (λ ck. below r ck []) (sym (clock_at k c.inside_len));
  }

  pub clocks_back : (k : ℕ) → k < length members → clock_of f.func.decls (r k) ≡ below r (clock_of decls k) []
  clocks_back k l = sym (clock_returns k l) ∙ ap (λ ck. below r ck []) (sym (clock_at k l))

  -- ---- types

  clock_bools : TypedFunction [] f.func → (k : ℕ) → k < length members → EachClockVar (λ c. ty_at decls (s c) ≡ Some BoolTy) (clock_of f.func.decls (r k))
  clock_bools t k l =
      let i = inside k l in
      let bools : EachClockVar (λ c. ty_at f.func.decls c ≡ Some BoolTy) (clock_of f.func.decls (r k)) =
      subst (EachClockVar (λ c. ty_at f.func.decls c ≡ Some BoolTy)) (sym (clock_get f.func.decls (r k) no_decl i.0)) (each_of_all (λ c. ty_at f.func.decls c ≡ Some BoolTy) (get_or f.func.decls (r k) no_decl).clock (t.clocks (r k) no_decl i.0)) in
      each_clock_map (λ c. Home c × (ty_at f.func.decls c ≡ Some BoolTy)) (λ c. ty_at decls (s c) ≡ Some BoolTy) (λ c p. p.0.type ∙ p.1) (clock_of f.func.decls (r k))
      (each_clock_both Home (λ c. ty_at f.func.decls c ≡ Some BoolTy) (clock_of f.func.decls (r k)) (clock_homes k l) bools)

  -- a fact of each variable of each clock
  clock_all : (P : ℕ → Type 0) → ((k : ℕ) → k < length members → EachClockVar (λ c. P (s c)) (clock_of f.func.decls (r k))) → All (λ d. All (λ p. P p.0) d.clock) decls
  clock_all P g =
      All-map (λ (d : Decl). All (λ p. P p.0) d.clock) (λ x. own_decl own (get_or f.func.decls x no_decl)) members
      (All-from_get_or (λ x. All (λ p. P p.0) (own_decl own (get_or f.func.decls x no_decl)).clock) members 0 (λ k l.
      subst (λ ck. All (λ p. P p.0) (below s ck [])) (clock_get f.func.decls (r k) no_decl (inside k l).0) (all_below P s (clock_of f.func.decls (r k)) (g k l))))

  pub typed : TypedFunction [] f.func → TypedFunction [] F
  typed t = record {
    clocks = clock_all (λ c. ty_at decls c ≡ Some BoolTy) (clock_bools t);
    rights = λ k e p.
        let c = comes k e p in
        ap (type_of [] decls) c.is
        ∙ type_renamed s f.func.decls decls c.right (each_var_map Home (λ y. ty_at decls (s y) ≡ ty_at f.func.decls y) (λ y z. z.type) c.right c.homes)
        ∙ t.rights c.left c.right c.equation
        ∙ ap (ty_at f.func.decls) (sym c.is_left)
        ∙ sym (ty_here k c.inside_len);
  }

  -- ---- clocks

  same_clock : (y : ℕ) → Home y → (s y < length decls) × (clock_of decls (s y) ≡ below s (clock_of f.func.decls y) [])
  same_clock y z = (z.below_len, z.clock)

  well : ClockedFunction [] f.func → (k : ℕ) → WellFormed decls (clock_of decls k)
  well c k = ⊎_elim
      (λ (l : k < length members).
      subst (WellFormed decls) (sym (clock_at k l))
      (well_renamed s f.func.decls decls (clock_of f.func.decls (r k))
      (each_clock_map Home (λ y. (s y < length decls) × (clock_of decls (s y) ≡ below s (clock_of f.func.decls y) [])) same_clock (clock_of f.func.decls (r k)) (clock_homes k l))
      (c.clocks (r k))))
      (λ (l : length members ≤ k). subst (WellFormed decls) (sym (clock_beyond decls k (let m = many in omega (arith, m, l)))) tt)
      (cases_lt k (length members))

  pub clocked : ClockedFunction [] f.func → ClockedFunction [] F
  clocked t = record {
    clocks = well t;
    rights = λ k e p.
        let c = comes k e p in
        subst (λ e. Clocked [] decls e (clock_of decls k)) (sym c.is)
        (subst (Clocked [] decls (renamed s c.right)) (sym (clock_at k c.inside_len ∙ ap (λ z. below s (clock_of f.func.decls z) []) c.is_left))
        (clocked_renamed s f.func.decls decls c.right (clock_of f.func.decls c.left)
        (each_var_map Home (λ y. (s y < length decls) × (clock_of decls (s y) ≡ below s (clock_of f.func.decls y) [])) same_clock c.right c.homes)
        (t.rights c.left c.right c.equation)));
  }

  -- ---- causality

  pub causal : Causal f.func → Causal F
  causal z =
      let w = (causal_by_ranks f.func).0 z in
      causal_from_ranks F (λ k. w.0 (r k)) (record {
        reads_before = λ k e p.
            let c = comes k e p in
            subst (EachRead (λ j. w.0 (r j) < w.0 (r k))) (sym c.is)
            (read_back s r (λ y. w.0 y < w.0 (r k)) c.right (each_var_map Home (λ y. r (s y) ≡ y) (λ y z. z.returns) c.right c.homes)
            (subst (λ x. EachRead (λ y. w.0 y < w.0 x) c.right) (sym c.is_left) (w.1.reads_before c.left c.right c.equation)));
        clocks_before = λ k e p.
            let c = comes k e p in
            subst (EachClockVar (λ j. w.0 (r j) < w.0 (r k))) (sym (clock_at k c.inside_len))
            (clock_back s r (λ y. w.0 y < w.0 (r k)) (clock_of f.func.decls (r k))
            (each_clock_map Home (λ y. r (s y) ≡ y) (λ y z. z.returns) (clock_of f.func.decls (r k)) (clock_homes k c.inside_len))
            (subst (λ x. EachClockVar (λ y. w.0 y < w.0 x) (clock_of f.func.decls x)) (sym c.is_left) (w.1.clocks_before c.left c.right c.equation)));
      })

  -- ---- flat

  pub is_flat : FlatFunction F
  is_flat =
      All-map (λ (q : ℕ × Expression). FlatRight q.1) (own_equation own) (filter (stays nodes fed n) f.func.eqs)
      (All-filter (stays nodes fed n) (λ (q : ℕ × Expression). FlatRight (renamed s q.1)) f.func.eqs (λ k d l. flat_renamed s (get_or f.func.eqs k d).1 (flat k d l)))

  -- ---- what every function keeps

  outs_inside : All (λ y. y < length decls) (map s outs)
  outs_inside =
      All-map (λ y. y < length decls) s outs
      (All-from_get_or (λ x. s x < length decls) outs 0 (λ i l.
      let w = outs_in nodes given n (length nodes) i (get_or outs i 0) (var_at outs i l) in
      (home (get_or outs i 0) (let b = w.0 in omega (arith, b, size)) w.1).below_len))

  rights_inside : All (λ q. VarsBelow (length decls) q.1) eqs
  rights_inside =
      all_kept s (stays nodes fed n) (λ q. VarsBelow (length decls) q.1) f.func.eqs (λ i d l t.
      let q = get_or f.func.eqs i d in
      let st = staying q t in
      let homes = each_var_map (λ y. (y < variable_count f) × (get_or nodes y 0 ≡ get_or nodes q.0 0)) Home (λ y p. home y p.0 (p.1 ∙ st.0)) q.1 (splits.reads q.0 q.1 (eq_index f.func f.func.eqs (all_found f.func good) i d l) st.1) in
      vars_below s (length decls) q.1 (each_var_map Home (λ y. s y < length decls) (λ y z. z.below_len) q.1 homes))

  -- what stays under a number is the variable of that number
  stays_at : (k : ℕ) (q : ℕ × Expression) → q.0 < variable_count f → stays nodes fed n q ≡ true → s q.0 ≡ k → (k < length members) × (q.0 ≡ r k) × (get_or fed q.0 false ≡ false)
  stays_at k q l t e =
      let st = staying q t in
      let w = forth q.0 l st.0 in
      (subst (λ z. z < length members) e w.0, sym w.1 ∙ ap r e, st.1)

  one_each : (k : ℕ) → left_count k eqs ≡ (if nat_le inputs k && nat_lt k (length decls) then 1 else 0)
  one_each k = ⊎_elim
      (λ (l : k < length members). ⊎_elim
      (λ (i : k < inputs).
      lefts_none s (stays nodes fed n) (variable_count f) k (λ q b t e.
      let w = stays_at k q b t e in
      let a : get_or fed (r k) false ≡ false = ap (λ z. get_or fed z false) (sym w.1) ∙ w.2 in
      let c = h.first k i in
      absurd (cc)) f.func.eqs (lefts_below f good)
      ∙ sym (zero_low inputs (length decls) k i))
      (λ (i : inputs ≤ k).
      let unfed = h.rest k i l in
      let x = inside k l in
      lefts_kept s (stays nodes fed n) (variable_count f) (r k) k (back k l) (λ q b t e. (stays_at k q b t e).1) f.func.eqs (lefts_below f good)
      (λ q e. stay q (ap (λ z. get_or nodes z 0) e ∙ x.1) (ap (λ z. get_or fed z false) e ∙ unfed))
      ∙ good.lefts (r k)
      ∙ one_if f.func.n_in (length f.func.decls) (r k) (splits.free (r k) x.0 unfed) x.0
      ∙ sym (one_if inputs (length decls) k i (let m = many in omega (arith, l, m))))
      (cases_lt k inputs))
      (λ (l : length members ≤ k).
      lefts_none s (stays nodes fed n) (variable_count f) k (λ q b t e. let w = (stays_at k q b t e).0 in absurd (omega (arith, w, l))) f.func.eqs (lefts_below f good)
      ∙ sym (zero_high inputs (length decls) k (let m = many in omega (arith, l, m))))
      (cases_lt k (length members))

  first_on_base : All (λ d. d.clock ≡ []) (take inputs decls)
  first_on_base =
      all_take (λ (d : Decl). d.clock ≡ []) inputs decls (λ k d i l.
      let b : k < length members = let m = many in omega (arith, l, m) in
      sym (clock_get decls k d l) ∙ clock_at k b ∙ ap (λ ck. below s ck []) (splits.base (r k) (inside k b).0 (h.first k i)))

  pub is_good : GoodFunction F
  is_good = record {
    inputs = (let m = many in let i = h.inputs_le in omega (arith, m, i));
    inputs_on_base = first_on_base;
    clocks = clock_all (λ c. c < length decls) (λ k l. each_clock_map Home (λ c. s c < length decls) (λ c z. z.below_len) (clock_of f.func.decls (r k)) (clock_homes k l));
    outs = outs_inside;
    outs_once = λ y. outs_once nodes given n s r (length nodes) (λ x l e. (forth x (omega (arith, l, size)) e).1) y (length nodes) (omega arith);
    rights = rights_inside;
    lefts = one_each;
  }

  -- ---- sizes

  no_larger : IsNoLarger F f.func
  no_larger = record {
    variables = (let m = many in let l = h.few in omega (arith, m, l, size));
    equations = length_picked (own_equation own) (stays nodes fed n) f.func.eqs;
    delays = sum_picked (own_equation own) (stays nodes fed n) (λ (q : ℕ × Expression). delays q.1) (λ q. delays_renamed s q.1) f.func.eqs;
    parts = sum_picked (own_equation own) (stays nodes fed n) (λ (q : ℕ × Expression). parts q.1) (λ q. parts_renamed s q.1) f.func.eqs;
    pairs = sum_made (λ (d : Decl). length d.clock) f.func.decls no_decl (λ (d : Decl). length d.clock) (λ x. own_decl own (get_or f.func.decls x no_decl)) (λ x. length_below s (get_or f.func.decls x no_decl).clock) members
        (λ i j a b e. sym (back i a) ∙ ap s e ∙ back j b) (λ i l. (inside i l).0);
  }

  -- ---- the function that was made

  pub made : (G : Function) → G.name ≡ f.func.name → G.decls ≡ decls → G.n_in ≡ inputs → G.outs ≡ map s outs → G.eqs ≡ eqs → G ≡ F
  made G a b c d e = λ i. record { name = a i; decls = b i; n_in = c i; outs = d i; eqs = e i }

  pub own_size : length own ≡ variable_count f
  own_size = let z = h.numbered.size in omega (arith, z, size)

  pub outs_own : All (λ x. x < length own) outs
  outs_own = All-from_get_or (λ x. x < length own) outs 0 (λ i l. let w = (outs_in nodes given n (length nodes) i (get_or outs i 0) (var_at outs i l)).0 in let z = h.numbered.size in omega (arith, w, z))

  -- ---- the part

  module _ (p : Placement) (e : nodes ≡ nodes_of f p) (l : Layout) (places : List (Option ℕ)) (wires : Wires f nodes fed places given l) where
    node_at : (x : ℕ) → node_of f p x ≡ get_or nodes x 0
    node_at x = ap (λ (ns : List ℕ). get_or ns x 0) (sym e)

    abbrev part : Part
    part = built f nodes fed places given n members own inputs

    feed_at : (xs : List ℕ) (k : ℕ) → k < length xs → slice_get (map (feed_of places) xs) k ≡ Some (feed_of places (get_or xs k 0))
    feed_at [] k b = absurd (omega arith)
    feed_at (x ∷ xs) zero b = refl
    feed_at (x ∷ xs) (suc k) b = feed_at xs k (omega arith)

    taken : length (take inputs members) ≡ inputs
    taken = length-take-le inputs members h.inputs_le

    take_at : (m : ℕ) (xs : List ℕ) (k : ℕ) → k < m → get_or (take m xs) k 0 ≡ get_or xs k 0
    take_at zero xs k b = absurd (omega arith)
    take_at (suc m) [] k b = refl
    take_at (suc m) (x ∷ xs) zero b = refl
    take_at (suc m) (x ∷ xs) (suc k) b = take_at m xs k (omega arith)

    fits : (k : ℕ) → k < length members → get_or fed (r k) false ≡ true → (o : Option ℕ) → get_or places (r k) None ≡ o → FeedFits f l n part k (feed_by (r k) o)
    fits k b t None q = let i = inside k b in (refl, wires.input (r k) i.0 t q, i.0)
    fits k b t (Some c) q = let i = inside k b in let w = wires.cross (r k) c i.0 q in (sym w.0, w.1, w.2 ∙ i.1)

    feed : (k : ℕ) → k < length decls → right_of eqs k ≡ None → (d : Feed) × (slice_get (map (feed_of places) (take inputs members)) k ≡ Some d) × FeedFits f l n part k d
    feed k b q =
        let i : k < inputs = is_input F is_good k b q in
        let m : k < length members = let z = many in omega (arith, z, b) in (
          feed_of places (r k),
          feed_at (take inputs members) k (let z = taken in omega (arith, z, i)) ∙ ap (λ x. Some (feed_of places x)) (take_at inputs members k i),
          fits k m (h.first k i) (get_or places (r k) None) refl,
        )

    map_get : (g : ℕ → ℕ) (xs : List ℕ) (i x : ℕ) → slice_get xs i ≡ Some x → slice_get (map g xs) i ≡ Some (g x)
    map_get g [] i x q = absurd (cc)
    map_get g (y ∷ xs) zero x q = let z : y ≡ x = cc in ap (λ y. Some (g y)) z
    map_get g (y ∷ xs) (suc i) x q = map_get g xs i x q

    gives : (v : ℕ) → v < variable_count f → node_of f p v ≡ n → Out f l v → (x : ℕ) × PartGives part v x
    gives v b a o =
        let w = outs_out nodes given n (length nodes) v (let z = size in omega (arith, z, b)) (sym (node_at v) ∙ a) (wires.out_given v o) in
        (s v, record { place = w.0; out = w.1; own = map_get s outs w.0 v w.1 })

    given_is : (v x : ℕ) → PartGives part v x → (x < length decls) × (r x ≡ v) × Out f l v
    given_is v x g =
        let w = outs_in nodes given n (length nodes) g.place v g.out in
        let b : v < variable_count f = let z = size in let c = w.0 in omega (arith, z, c) in
        let z = home v b w.1 in
        let same : s v ≡ x = let q : Some (s v) ≡ Some x = sym (map_get s outs g.place v g.out) ∙ g.own in cc in
        (subst (λ x. x < length decls) same z.below_len, ap r (sym same) ∙ z.returns, wires.given_out v w.2)

    pub part_is : TypedFunction [] f.func → ClockedFunction [] f.func → Causal f.func → IsPartOf f p l n part
    part_is t c z = record {
      numbered = sym many;
      on_node = λ x b. let i = inside x (let m = many in omega (arith, m, b)) in (i.0, node_at (r x) ∙ i.1);
      each = λ v b a. let y = home v b (sym (node_at v) ∙ a) in (s v, y.below_len, y.returns);
      once = λ x y a b q. let m = many in sym (back x (omega (arith, m, a))) ∙ ap s q ∙ back y (omega (arith, m, b));
      names = λ x b. let m : x < length members = let z = many in omega (arith, z, b) in name_map (λ x. own_decl own (get_or f.func.decls x no_decl)) members x m ∙ sym (name_get f.func.decls (r x) no_decl (inside x m).0);
      types = λ x b. ty_here x (let m = many in omega (arith, m, b));
      clocks = λ x b. clocks_back x (let m = many in omega (arith, m, b));
      stands = stands;
      feeds = feed;
      fed = length-map (take inputs members) (feed_of places) ∙ taken;
      gives = gives;
      given = given_is;
      outs = length-map outs s;
      ascending = λ i j a b. outs_ascend nodes given n (length nodes) i j (get_or outs i 0) (get_or outs j 0) a (var_at outs i (omega arith)) (var_at outs j b);
      typed = typed t;
      clocked = clocked c;
      causal = causal z;
      good = is_good;
      flat = is_flat;
      no_larger = no_larger;
    }

    -- an equation that is not a crossing is one of the part
    pub part_equation : (x : ℕ) (d : Expression) → right_of f.func.eqs x ≡ Some d → get_or nodes x 0 ≡ n → get_or fed x false ≡ false → (k : ℕ) × (k < length decls) × (r k ≡ x) × (a : Expression) × (right_of eqs k ≡ Some a) × (renamed r a ≡ d)
    part_equation x d q a t =
        let b = left_below f.func good x d q in
        let y = home x b a in
        let k = s x in
        let m : k < length members = (forth x b a).0 in
        let go : (o : Option Expression) → right_of eqs k ≡ o → (a : Expression) × (right_of eqs k ≡ Some a) =
        elim [
          | None ↦ λ g.
              let i : k < inputs = is_input F is_good k y.below_len g in
              let u : get_or fed x false ≡ true = ap (λ z. get_or fed z false) (sym y.returns) ∙ h.first k i in
              absurd (cc)
          | Some a ↦ λ g. (a, g)
        ] in
        let w = go (right_of eqs k) refl in
        let c = comes k w.0 w.1 in
        let same : Some c.right ≡ Some d = sym c.equation ∙ ap (right_of f.func.eqs) (sym c.is_left ∙ y.returns) ∙ q in
        (k, y.below_len, y.returns, w.0, w.1, returned k w.0 c ∙ cc)

pub flat_calls : (f : Originated) → FlatFunction f.func → All (λ q. EachCall (λ g. ⊥) q.1) f.func.eqs
flat_calls f flat k d l = flat_callless (get_or f.func.eqs k d).1 (flat k d l)
