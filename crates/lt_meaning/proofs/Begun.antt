-- How far the plan of a function has come.
use Rattle.std.proofs.Common.{◌≡◌, ◌≢◌, ℕ, suc, ◌+◌, ◌<◌, ◌≤◌, ◌⊎◌, inl, inr, List, [], ◌∷◌, ◌++◌, length, map, Option, Some, refl, sym, ap, subst, ◌∙◌, arith, ⊎_elim}
use Rattle.std.specs.Prelude.{slice_get}
use Rattle.std.proofs.lemmas.List.{length-map, map-append, length-append}
use Rattle.std.proofs.lemmas.Option.{slice_get_within}
use Rattle.lt_base.specs.Expression.{Expression}
use Rattle.lt_base.specs.Program.{Function, GoodFunction}
use Rattle.lt_base.specs.Meaning.{ClockPairs, clock_of}
use Rattle.lt_base.specs.Order.{EachRead, EachClockVar, Ordered}
use Rattle.lt_base.proofs.Reading.{each_map, each_clock_map, each_at, each_from, each_clock_at, each_clock_from}
use Rattle.lt_cause.specs.Orders.{IsOrder, order_place}
use Rattle.lt_meaning.specs.declared.plan.Plan.{Plan}
use Rattle.lt_meaning.specs.Plan.{step_form, DelayForm, delay_form}
use Rattle.lt_meaning.specs.Lift.{call_count, form_of, Wait, delays_in, Source, whole, part, Item, step_of, calls_in}
use Rattle.lt_meaning.specs.Taken.{Taken, taken_after, with_step}
use Rattle.lt_meaning.specs.Fine.{Fine, FunctionPasses}
use Rattle.lt_meaning.specs.Planned.{IsElement, AreElements, StandsFrom, expression_of, PlanOf, inner_delays, Lifted, IfCall, Answering}
use Rattle.lt_meaning.proofs.Standing.{get_left, get_right, in_left, in_right, in_either}
use Rattle.lt_meaning.proofs.Sites.{in_one, Called, Declared, reads_declared, clock_declared, calls_answer, waits_fine, calls_need}
use Rattle.lt_meaning.proofs.Running.{nat_same}
use Rattle.lt_meaning.proofs.Instant.{some_at}
use Rattle.lt_meaning.proofs.Placing.{right_is, left_declared, left_low, place_at, covered, place_most}
use Rattle.lt_meaning.proofs.Known.{Known, Good, good_none, good_push, lifted_good}

-- the equations at the first i places of the order have their steps
pub record Begun (fs : List Function) (height : ℕ → ℕ) (top : ℕ) (f : Function) (order : List ℕ) (i : ℕ) (items : List Item) (x : Taken) : Type 0 where
  pub steps : x.steps ≡ map step_of items
  pub room : length f.decls ≤ x.cells
  pub good : Good (length f.decls) f.n_in (order_place f order) items i x.cells
  pub needs : (y : Item) → IsElement items y → StandsFrom y.delays_before (inner_delays y.source y.clock) x.waits
  pub answering : (y : Item) → IsElement items y → IfCall (Called fs height top f.decls) y.source
  pub fine : (w : Wait) → IsElement x.waits w → Fine fs height top f.decls w.right w.clock
  pub done : (j k : ℕ) (q : ℕ × Expression) → j < i → slice_get order j ≡ Some k → slice_get f.eqs k ≡ Some q
      → (d : ℕ) × (c : ℕ) × IsElement items (record { cell = q.0; clock = clock_of f.decls q.0; delays_before = d; cells_before = c; source = whole q.1 })

stands_more : {A : Type 0} (k : ℕ) (xs ys zs : List A) → StandsFrom k xs ys → StandsFrom k xs (ys ++ zs)
stands_more k xs ys zs s i x h = get_left ys zs (k + i) x (s i x h)

stands_last : {A : Type 0} (xs ys : List A) → StandsFrom (length xs) ys (xs ++ ys)
stands_last xs ys i x h = get_right xs ys i (length xs + i) refl ∙ h

module _ (fs : List Function) (height : ℕ → ℕ) (top : ℕ) (f : Function) (good : GoodFunction f) (order : List ℕ) where
  abbrev K : ℕ → ℕ → ℕ → Type 0
  K = Known (length f.decls) f.n_in (order_place f order)

  pub begun_none : (x : Taken) → x ≡ record { cells = length f.decls; steps = []; waits = [] } → Begun fs height top f order 0 [] x
  begun_none x e = subst (Begun fs height top f order 0 []) (sym e) (record {
    steps = refl;
    room = omega arith;
    good = good_none (length f.decls) f.n_in (order_place f order) 0 (length f.decls);
    needs = λ y m. let h = m.1 in absurd (cc);
    answering = λ y m. let h = m.1 in absurd (cc);
    fine = λ w m. let h = m.1 in absurd (cc);
    done = λ j k q l. absurd (omega arith);
  })

  -- an expression is lifted
  pub begun_lift : (i : ℕ) (items : List Item) (x : Taken) (e : Expression) (ck : ClockPairs) → Begun fs height top f order i items x → Fine fs height top f.decls e ck → EachRead (K i x.cells) e → EachClockVar (K i x.cells) ck
      → Begun fs height top f order i (items ++ calls_in (length x.waits) x.cells e ck) (taken_after x e ck)
  begun_lift i items x e ck b fine reads clocks =
      let k = length x.waits in
      let more = calls_in k x.cells e ck in
      let room = b.room in
      record {
        steps = ap (λ l. l ++ map step_of more) b.steps ∙ sym (map-append step_of items more);
        room = omega (arith, room);
        good = lifted_good (length f.decls) f.n_in (order_place f order) i good.inputs e k x.cells ck items b.room b.good reads clocks;
        needs = λ y m. ⊎_elim
            (λ j. stands_more y.delays_before (inner_delays y.source y.clock) x.waits (delays_in e ck) (b.needs y j))
            (λ j. calls_need e k x.cells ck (x.waits ++ delays_in e ck) (stands_last x.waits (delays_in e ck)) y j)
            (in_either items more y m);
        answering = λ y m. ⊎_elim (b.answering y) (calls_answer fs height top f.decls e k x.cells ck fine.clocked fine.uses y) (in_either items more y m);
        fine = λ w m. ⊎_elim (b.fine w) (waits_fine fs height top f.decls e ck fine.clocked fine.formed fine.uses w) (in_either x.waits (delays_in e ck) w m);
        done = λ j m q l o h. let d = b.done j m q l o h in (d.0, d.1, in_left items more _ d.2);
      }

  -- an equation gets its step
  pub begun_set : (i : ℕ) (items : List Item) (x : Taken) (k d c : ℕ) (q : ℕ × Expression) → Begun fs height top f order i items x → slice_get order i ≡ Some k → slice_get f.eqs k ≡ Some q → order_place f order q.0 ≡ suc i
      → EachRead (K i x.cells) q.1 → EachClockVar (K i x.cells) (clock_of f.decls q.0) → AreElements (calls_in d c q.1 (clock_of f.decls q.0)) items → StandsFrom d (delays_in q.1 (clock_of f.decls q.0)) x.waits → f.n_in ≤ q.0 → q.0 < length f.decls
      → let u : Item = record { cell = q.0; clock = clock_of f.decls q.0; delays_before = d; cells_before = c; source = whole q.1 } in
      Begun fs height top f order (i + 1) (items ++ u ∷ []) (with_step x (step_of u))
  begun_set i items x k d c q b at_i at_k place reads clocks runs waits low declared =
      let u : Item = record { cell = q.0; clock = clock_of f.decls q.0; delays_before = d; cells_before = c; source = whole q.1 } in
      let room = b.room in
      record {
        steps = ap (λ l. l ++ step_of u ∷ []) b.steps ∙ sym (map-append step_of items (u ∷ []));
        room = b.room;
        good = good_push (length f.decls) f.n_in (order_place f order) items u i (i + 1) x.cells x.cells b.good (reads, clocks) runs
            (λ s h e. let p = h.1 (subst (λ n. n < length f.decls) (sym e) declared) in let same = ap (order_place f order) e in absurd (omega (arith, p, same, place)))
            (λ s h. (h.0, λ l. let p = h.1 l in omega (arith, p)))
            (omega (arith, declared, room), λ l. omega (arith, place))
            low;
        needs = λ y m. ⊎_elim (b.needs y) (λ j. subst (λ (y : Item). StandsFrom y.delays_before (inner_delays y.source y.clock) x.waits) (in_one u y j) waits) (in_either items (u ∷ []) y m);
        answering = λ y m. ⊎_elim (b.answering y) (λ j. subst (λ (y : Item). IfCall (Called fs height top f.decls) y.source) (in_one u y j) tt) (in_either items (u ∷ []) y m);
        fine = b.fine;
        done = λ j m p l o h.
            let go : (t : (j ≡ i) ⊎ (j ≢ i)) → (d : ℕ) × (c : ℕ) × IsElement (items ++ u ∷ []) (record { cell = p.0; clock = clock_of f.decls p.0; delays_before = d; cells_before = c; source = whole p.1 }) =
            elim [
              | inl e ↦
                  let number : k ≡ m = cc (at_i, o, ap (slice_get order) e) in
                  let same : q ≡ p = cc (at_k, h, ap (slice_get f.eqs) number) in
                  (d, c, subst (λ (p : ℕ × Expression). IsElement (items ++ u ∷ []) (record { cell = p.0; clock = clock_of f.decls p.0; delays_before = d; cells_before = c; source = whole p.1 })) same (in_right items (u ∷ []) u (0, refl)))
              | inr n ↦ let r = b.done j m p (omega (arith, l, n)) o h in (r.0, r.1, in_left items (u ∷ []) _ r.2)
            ] in
            go (nat_same j i);
      }

-- ---- an equation, and then what waits

each_both : (P Q : ℕ → Type 0) (e : Expression) → EachRead P e → EachRead Q e → EachRead (λ y. P y × Q y) e
each_both P Q e a b = each_from (λ y. P y × Q y) e (λ y m. (each_at P e a y m, each_at Q e b y m))

clock_both : (P Q : ℕ → Type 0) (ck : ClockPairs) → EachClockVar P ck → EachClockVar Q ck → EachClockVar (λ y. P y × Q y) ck
clock_both P Q ck a b = each_clock_from (λ y. P y × Q y) ck (λ y m. (each_clock_at P ck a y m, each_clock_at Q ck b y m))

module _ (fs : List Function) (height : ℕ → ℕ) (top : ℕ) (f : Function) (good : GoodFunction f) (passes : FunctionPasses fs height top f) (order : List ℕ) (is : IsOrder f order) (ordered : Ordered f (order_place f order)) where
  abbrev Taking : ℕ → ℕ → ℕ → Type 0
  Taking = Known (length f.decls) f.n_in (order_place f order)

  -- the equation at a place of the order
  pub equation_next : (i k : ℕ) (q : ℕ × Expression) (items : List Item) (x x' : Taken) → slice_get order i ≡ Some k → slice_get f.eqs k ≡ Some q → Begun fs height top f order i items x
      → x' ≡ with_step (taken_after x q.1 (clock_of f.decls q.0)) (step_of (record { cell = q.0; clock = clock_of f.decls q.0; delays_before = length x.waits; cells_before = x.cells; source = whole q.1 }))
      → (items' : List Item) × Begun fs height top f order (i + 1) items' x'
  equation_next i k q items x x' at_i at_k b made =
      let ck = clock_of f.decls q.0 in
      let right = right_is f good order is ordered k q at_k in
      let place = place_at f good order is ordered i k q at_i at_k in
      let fine : Fine fs height top f.decls q.1 ck = record { clocked = passes.clocked.rights q.0 q.1 right; formed = passes.clocked.clocks q.0; uses = passes.uses q.0 q.1 right } in
      let room = b.room in
      let Earlier : ℕ → Type 0 = λ y. order_place f order y < order_place f order q.0 in
      let known : (cells y : ℕ) → x.cells ≤ cells → (y < length f.decls) × Earlier y → Taking i cells y = λ cells y l h. let a = h.0 in let m = h.1 in (omega (arith, a, room, l), λ _. omega (arith, m, place)) in
      let reads_both = each_both (Declared fs height top f.decls) Earlier q.1 (reads_declared fs height top f.decls q.1 ck fine.clocked) (ordered.ranked.reads_before q.0 q.1 right) in
      let clocks_both = clock_both (Declared fs height top f.decls) Earlier ck (clock_declared fs height top f.decls ck fine.formed) (ordered.ranked.clocks_before q.0 q.1 right) in
      let reads : (cells : ℕ) → x.cells ≤ cells → EachRead (Taking i cells) q.1 = λ cells l. each_map (λ y. (y < length f.decls) × Earlier y) (Taking i cells) (λ y. known cells y l) q.1 reads_both in
      let clocks : (cells : ℕ) → x.cells ≤ cells → EachClockVar (Taking i cells) ck = λ cells l. each_clock_map (λ y. (y < length f.decls) × Earlier y) (Taking i cells) (λ y. known cells y l) ck clocks_both in
      let lifted = begun_lift fs height top f good order i items x q.1 ck b fine (reads x.cells (omega arith)) (clocks x.cells (omega arith)) in
      let more = calls_in (length x.waits) x.cells q.1 ck in
      let u : Item = record { cell = q.0; clock = ck; delays_before = length x.waits; cells_before = x.cells; source = whole q.1 } in
      let pushed = begun_set fs height top f good order i (items ++ more) (taken_after x q.1 ck) k (length x.waits) x.cells q lifted at_i at_k place
      (reads (x.cells + call_count q.1) (omega arith)) (clocks (x.cells + call_count q.1) (omega arith)) (λ y m. in_right items more y m) (stands_last x.waits (delays_in q.1 ck))
      (left_low f good order is ordered k q at_k) (left_declared f good order is ordered k q at_k) in
      ((items ++ more) ++ u ∷ [], subst (Begun fs height top f order (i + 1) ((items ++ more) ++ u ∷ [])) (sym made) pushed)

  -- all equations have their steps, and the first delays are lifted
  pub record Settling (items : List Item) (x : Taken) (ds : List DelayForm) : Type 0 where
    pub begun : Begun fs height top f order (length order + length f.eqs) items x
    pub most : length ds ≤ length x.waits
    pub lifted : (j : ℕ) (w : Wait) → j < length ds → slice_get x.waits j ≡ Some w → Lifted items x.waits w (slice_get ds j)

  pub settling_none : (i : ℕ) (items : List Item) (x : Taken) → length order ≤ i → i ≤ length order → Begun fs height top f order i items x → Settling items x []
  settling_none i items x low high b = record {
    begun = record {
      steps = b.steps;
      room = b.room;
      good = record {
        in_order = b.good.in_order;
        reads = λ y m. let h = b.good.reads y m in (each_map (Taking i x.cells) (Taking (length order + length f.eqs) x.cells) more (expression_of y.source) h.0, each_clock_map (Taking i x.cells) (Taking (length order + length f.eqs) x.cells) more y.clock h.1);
        writes = λ y m. more y.cell (b.good.writes y m);
        apart = b.good.apart;
      };
      needs = b.needs;
      answering = b.answering;
      fine = b.fine;
      done = λ j k q l o h. let m = slice_get_within order j k o in b.done j k q (omega (arith, m, low)) o h;
    };
    most = omega arith;
    lifted = λ j w l. absurd (omega arith);
  }
    where
      more : (s : ℕ) → Taking i x.cells s → Taking (length order + length f.eqs) x.cells s
      more s h = (h.0, λ l. let p = h.1 l in omega (arith, p, high))

  lifted_more : (items more : List Item) (ws vs : List Wait) (w : Wait) (o : Option DelayForm) → Lifted items ws w o → Lifted (items ++ more) (ws ++ vs) w o
  lifted_more items more ws vs w o l = record {
    delays_before = l.delays_before;
    cells_before = l.cells_before;
    is = l.is;
    calls = λ y m. in_left items more y (l.calls y m);
    delays = stands_more l.delays_before (delays_in w.right w.clock) ws vs l.delays;
  }

  pub settling_next : (items : List Item) (x x' : Taken) (ds : List DelayForm) (w : Wait) (d : DelayForm) → Settling items x ds → slice_get x.waits (length ds) ≡ Some w
      → d ≡ record { clock = w.clock; first = w.first; right = form_of (length x.waits) x.cells w.right } → x' ≡ taken_after x w.right w.clock
      → (items' : List Item) × Settling items' x' (ds ++ d ∷ [])
  settling_next items x x' ds w d s at_w is_d made =
      let M = length order + length f.eqs in
      let fine = s.begun.fine w (length ds, at_w) in
      let room = s.begun.room in
      let known : (y : ℕ) → y < length f.decls → Taking M x.cells y = λ y h. let m = place_most f good order is ordered y in (omega (arith, h, room), λ _. omega (arith, m)) in
      let reads = each_map (Declared fs height top f.decls) (Taking M x.cells) known w.right (reads_declared fs height top f.decls w.right w.clock fine.clocked) in
      let clocks = each_clock_map (Declared fs height top f.decls) (Taking M x.cells) known w.clock (clock_declared fs height top f.decls w.clock fine.formed) in
      let more = calls_in (length x.waits) x.cells w.right w.clock in
      let begun = begun_lift fs height top f good order M items x w.right w.clock s.begun fine reads clocks in
      let lifted : (j : ℕ) (v : Wait) → j < length (ds ++ d ∷ []) → slice_get (taken_after x w.right w.clock).waits j ≡ Some v → Lifted (items ++ more) (x.waits ++ delays_in w.right w.clock) v (slice_get (ds ++ d ∷ []) j) =
      λ j v l h.
      let go : (j ≡ length ds) ⊎ (j ≢ length ds) → Lifted (items ++ more) (x.waits ++ delays_in w.right w.clock) v (slice_get (ds ++ d ∷ []) j) =
      elim [
        | inl e ↦
            let same : w ≡ v = cc (get_left x.waits (delays_in w.right w.clock) (length ds) w at_w, h, ap (slice_get (x.waits ++ delays_in w.right w.clock)) e) in
            subst (λ (v : Wait). Lifted (items ++ more) (x.waits ++ delays_in w.right w.clock) v (slice_get (ds ++ d ∷ []) j)) same (record {
              delays_before = length x.waits;
              cells_before = x.cells;
              is = get_right ds (d ∷ []) 0 j (omega (arith, e)) ∙ ap Some is_d;
              calls = λ y m. in_right items more y m;
              delays = stands_last x.waits (delays_in w.right w.clock);
            })
        | inr n ↦
            let t = length-append ds (d ∷ []) in
            let lower : j < length ds = omega (arith, l, n, t) in
            let here = some_at ds j lower in
            let wait = some_at x.waits j (let m = slice_get_within x.waits (length ds) w at_w in omega (arith, m, lower)) in
            let same : wait.0 ≡ v = cc (get_left x.waits (delays_in w.right w.clock) j wait.0 wait.1, h) in
            let old : Lifted items x.waits v (slice_get ds j) = s.lifted j v lower (wait.1 ∙ ap Some same) in
            let there : slice_get ds j ≡ slice_get (ds ++ d ∷ []) j = here.1 ∙ sym (get_left ds (d ∷ []) j here.0 here.1) in
            subst (Lifted (items ++ more) (x.waits ++ delays_in w.right w.clock) v) there (lifted_more items more x.waits (delays_in w.right w.clock) v (slice_get ds j) old)
      ] in
      go (nat_same j (length ds)) in (
        items ++ more,
        subst (λ (y : Taken). Settling (items ++ more) y (ds ++ d ∷ [])) (sym made) (record {
          begun = begun;
          most = let m = slice_get_within x.waits (length ds) w at_w in let t = length-append ds (d ∷ []) in let u = length-append x.waits (delays_in w.right w.clock) in omega (arith, m, t, u);
          lifted = lifted;
        }),
      )

  call_first : (s : Source) → IfCall (Called fs height top f.decls) s → IfCall (Answering fs) s
  call_first (whole e) h = tt
  call_first (part g args) h = h.0

  call_second : (s : Source) → IfCall (Called fs height top f.decls) s → IfCall (λ g n. height g < top) s
  call_second (whole e) h = tt
  call_second (part g args) h = h.1

  -- all is lifted: this is a plan of the function
  pub planned : (items : List Item) (x : Taken) (ds : List DelayForm) (plan : Plan) → Settling items x ds → length x.waits ≤ length ds
      → map step_form plan.steps.items ≡ x.steps → map delay_form plan.delays.items ≡ ds → plan.cells ≡ x.cells → plan.inputs ≡ f.n_in → ((y : ℕ) (ys : List ℕ) → f.outs ≡ y ∷ ys → plan.output ≡ y)
      → PlanOf fs height top f plan
  planned items x ds plan s all steps delays cells inputs output =
      let b = s.begun in
      let most = s.most in
      let number : length plan.delays.items ≡ length ds = sym (length-map plan.delays.items delay_form) ∙ ap length delays in
      record {
        items = items;
        waits = x.waits;
        steps = steps ∙ b.steps;
        delay_number = omega (arith, number, all, most);
        delays = λ k w h. let l = slice_get_within x.waits k w h in subst (Lifted items x.waits w) (ap (λ (l : List DelayForm). slice_get l k) (sym delays)) (s.lifted k w (omega (arith, l, all)) h);
        inputs = inputs;
        output = output;
        variables = subst (λ n. length f.decls ≤ n) (sym cells) b.room;
        cells = λ y m. let w = (b.good.writes y m).0 in (b.good.apart y m, subst (λ n. y.cell < n) (sym cells) w);
        in_order = b.good.in_order;
        needs = b.needs;
        answering = λ y m. call_first y.source (b.answering y m);
        lower = λ y m. call_second y.source (b.answering y m);
        equations = λ y e h.
            let at = covered f good order is ordered y e h in
            let l = slice_get_within order at.0 at.1 at.2 in
            b.done at.0 at.1 (y, e) (omega (arith, l)) at.2 at.3;
      }
