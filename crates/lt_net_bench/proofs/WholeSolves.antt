-- Parts on their own values have the streams of the whole.
use Rattle.std.proofs.Common.{◌≡◌, ℕ, zero, suc, ◌<◌, ◌≤◌, List, [], ◌∷◌, length, map, Some, None, refl, sym, ap, ◌∙◌, subst, arith, true, false}
use Rattle.std.specs.List.{slice_get}
use Rattle.std.specs.Prelude.{slice_index_or}
use Rattle.std.specs.Option.{option_map}
use Rattle.lt_base.specs.declared.value.Value.{Value}
use Rattle.lt_base.specs.declared.value.Value.TheVariants.{Bool as Truth}
use Rattle.lt_base.specs.Expression.{variable}
use Rattle.lt_base.specs.Program.{Function}
use Rattle.lt_base.specs.Meaning.{Environment, Callee, clock_of, right_of, entry, present, value_of, latest}
use Rattle.lt_base.specs.Solution.{Solves, AllSame}
use Rattle.lt_base.specs.Placed.{seen, thinned, Shows}
use Rattle.lt_base.proofs.Solution.{environments_solve, given_none, given_some}
use Rattle.lt_base.proofs.Tells.{placed_means}
use Rattle.lt_base.proofs.Placed.{present_below}
use Rattle.lt_place.specs.declared.layout.Feed.{Feed}
use Rattle.lt_place.specs.declared.layout.Feed.TheVariants.{Input, Cross}
use Rattle.lt_place.specs.declared.layout.Layout.{Layout}
use Rattle.lt_place.specs.Layout.{part_of, crossing_of}
use Rattle.lt_net_node.specs.Layout.{Feeds, IsLaidOut, origin_in}
use Rattle.lt_net_node.specs.Local.{Messages, arrived, fed, fed_row, upto, runs, local_runs, newest}
use Rattle.lt_net_bench.specs.Whole.{CarriesOwn}

-- an entry of a row that is a map over a list
entry_of_map : {A : Type 0} (g : A → Value) (xs : List A) (x : ℕ) (d : A) → slice_get xs x ≡ Some d → entry (map Some (map g xs)) x ≡ Some (g d)
entry_of_map g [] x d h = absurd (cc)
entry_of_map g (y ∷ ys) zero d h = ap (option_map g) h
entry_of_map g (y ∷ ys) (suc x) d h = entry_of_map g ys x d h

-- the entry of a row of values
entry_of_row : (row : List Value) (x : ℕ) → x < length row → entry (map Some row) x ≡ Some (slice_index_or row x (Truth false))
entry_of_row [] x h = absurd (omega arith)
entry_of_row (y ∷ ys) zero h = refl
entry_of_row (y ∷ ys) (suc x) h = entry_of_row ys x (omega arith)

module _ (callee : Callee) (f : Function) (l : Layout) (layout : IsLaidOut f l)
    (got : Messages) (rows : ℕ → List Value) (executed : ℕ → ℕ)
    (total : ℕ) (within : (n : ℕ) → n < length l.nodes → executed n ≤ total)
    (inputs : (k i : ℕ) → k < total → i < length f.decls → right_of f.eqs i ≡ None → i < length (rows k))
    (carries : CarriesOwn callee l got rows executed) where
  whole_solves : (m : ℕ) → Solves callee f (runs callee f rows m) (upto (λ k. map Some (rows k)) m)
  whole_solves m = environments_solve callee f layout.causal (upto (λ k. map Some (rows k)) m)

  -- the environment of the whole at an instant
  abbrev now : ℕ → Environment
  now k = newest (runs callee f rows (suc k))

  input_at : (k i : ℕ) → k < total → i < length f.decls → right_of f.eqs i ≡ None → now k i ≡ Some (slice_index_or (rows k) i (Truth false))
  input_at k i b d h = given_none _ _ h ((whole_solves (suc k)).0 i d) ∙ entry_of_row (rows k) i (inputs k i b d h)

  reader_at : (k c : ℕ) → c < length l.cross → now k (crossing_of l c).reader ≡ latest [] (Some (crossing_of l c).first) (value_of callee (variable (crossing_of l c).var) []) (runs callee f rows k)
  reader_at k c h =
      let r = (crossing_of l c).reader in
      let base = layout.readers_on_base c h in
      given_some _ _ _ (layout.readers c h) ((whole_solves (suc k)).0 r (layout.readers_declared c h)) (ap (present (now k)) base)
      ∙ ap (λ ck. latest ck (Some (crossing_of l c).first) (value_of callee (variable (crossing_of l c).var) ck) (runs callee f rows k)) base

  -- the local environments are those of the whole under the part's numbers
  abbrev Agrees : ℕ → ℕ → Type 0
  Agrees n m = AllSame (part_of l n).flat.func.decls (thinned (origin_in (part_of l n)) [] (runs callee f rows m)) (local_runs callee l got n rows m)

  abbrev Shown : ℕ → ℕ → Type 0
  Shown n m = Shows (part_of l n).flat.func (thinned (origin_in (part_of l n)) [] (runs callee f rows m)) (upto (λ k. map Some (fed_row l got n (rows k) k)) m)

  agrees_from : (n m : ℕ) → n < length l.nodes → Shown n m → Agrees n m
  agrees_from n m b s =
      placed_means callee [] f (part_of l n).flat.func (origin_in (part_of l n)) [] (layout.parts_clocked n b) (layout.parts_causal n b) (layout.parts n b)
      (runs callee f rows m) (upto (λ k. map Some (rows k)) m) (upto (λ k. map Some (fed_row l got n (rows k) k)) m) (whole_solves m) s

  -- the value that a crossing brings
  brings : (m c : ℕ) → c < length l.cross → m < executed (crossing_of l c).to →
      ((k : ℕ) → m ≡ suc k → (n : ℕ) → n < length l.nodes → suc k ≤ executed n → Shown n (suc k)) →
      now m (crossing_of l c).reader ≡ Some (arrived l got m c)
  brings zero c h e ih = reader_at zero c h
  brings (suc k) c h e ih =
      let i = (crossing_of l c).from in
      let b = layout.senders c h in
      let given = layout.gives c h in
      let x = given.0 in
      let p = part_of l i in
      let agrees : Agrees i (suc k) = agrees_from i (suc k) b (ih k refl i b (omega (arith, carries.sent_before c k h e))) in
      let declared = layout.given_declared i (crossing_of l c).var x b given.1 in
      let from_v = layout.given_origin i (crossing_of l c).var x b given.1 in
      let on_base : present (seen (origin_in p) (now k)) (clock_of p.flat.func.decls x) ≡ true =
      sym (present_below (origin_in p) (now k) (clock_of p.flat.func.decls x) [])
      ∙ ap (present (now k)) (sym (layout.clocks i x b declared) ∙ ap (clock_of f.decls) from_v ∙ layout.vars_on_base c h) in
      let here = agrees.0 x declared (on_base) in
      reader_at (suc k) c h
      ∙ ap (now k) (sym (layout.given_origin i (crossing_of l c).var x b given.1))
      ∙ here ∙ carries.own c k x h e given.1

  feed_at : (n m x : ℕ) → n < length l.nodes → m < executed n → x < length (part_of l n).flat.func.decls →
      ((k : ℕ) → m ≡ suc k → (n : ℕ) → n < length l.nodes → suc k ≤ executed n → Shown n (suc k)) →
      (d : Feed) → slice_get (part_of l n).feeds x ≡ Some d → Feeds f l n (part_of l n) x d →
      now m (origin_in (part_of l n) x) ≡ entry (map Some (fed_row l got n (rows m) m)) x
  feed_at n m x b e dx ih (Input i) at fits =
      ap (now m) fits.0 ∙ input_at m i (omega (arith, within n b)) fits.2 fits.1 ∙ sym (entry_of_map (fed l got (rows m) m) (part_of l n).feeds x (Input i) at)
  feed_at n m x b e dx ih (Cross c) at fits =
      ap (now m) fits.0 ∙ brings m c fits.1 (subst (λ j. m < executed j) (sym fits.2) e) ih ∙ sym (entry_of_map (fed l got (rows m) m) (part_of l n).feeds x (Cross c) at)

  pub shown : (m n : ℕ) → n < length l.nodes → m ≤ executed n → Shown n m
  shown zero n b e = tt
  shown (suc m) n b e = (
    λ x dx h.
        let feed = layout.feeds n x b dx h in
        feed_at n m x b (omega arith) dx (earlier (shown m)) feed.0 feed.1 feed.2,
    shown m n b (omega arith),
  )
    where
      earlier : ((i : ℕ) → i < length l.nodes → m ≤ executed i → Shown i m) → (k : ℕ) → m ≡ suc k → (i : ℕ) → i < length l.nodes → suc k ≤ executed i → Shown i (suc k)
      earlier ih k q i bi ei = subst (λ j. Shown i j) q (ih i bi (subst (λ j. j ≤ executed i) (sym q) ei))

  -- what every node computes is what the whole means there
  pub agrees : (n m : ℕ) → n < length l.nodes → m ≤ executed n → Agrees n m
  agrees n m b e = agrees_from n m b (shown m n b e)
