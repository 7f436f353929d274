use Rattle.std.proofs.Common.{◌≡◌, ◌∙◌, ◌<◌, ◌++◌, ◌∷◌, [], ℕ, suc, List, Some, length, map, drop, get_or, sym, ap, subst, refl, arith}
use Rattle.std.specs.Prelude.{slice_get}
use Rattle.std.proofs.lemmas.List.{length-map, length-append}
use Rattle.std.proofs.lemmas.Option.{slice_get-get_or}
use Rattle.lt_base.specs.declared.function.Decl.{Decl}
use Rattle.lt_base.specs.Program.{Function}
use Rattle.lt_base.specs.Meaning.{clock_of}
use Rattle.lt_base.specs.Order.{Ordered}
use Rattle.lt_cause.specs.Orders.{IsOrder, order_place}
use Rattle.lt_meaning.specs.Plan.{step_form, DelayForm, delay_form}
use Rattle.lt_meaning.specs.Lift.{Wait, form_of, whole, step_of, delays_in}
use Rattle.lt_meaning.specs.Taken.{Taken, taken, wait_form, taken_after, with_step}
use Rattle.lt_meaning.proofs.Instant.{some_at, at_index}
use Rattle.lt_meaning.proofs.Placing.{number_inside, left_declared}
use Rattle.lt_meaning.proofs.Begun.{begun_none, equation_next, Settling, settling_none, settling_next, planned}
use Rattle.lt_meaning.proofs.Weights.{weight, weight_falls}
use Rattle.lt_meaning.proofs.planning.plan_of.Goals as goal

pub order_of-requires-clause-causal : goal.order_of-requires-clause-causal
order_of-requires-clause-causal c = c.requires.causal

pub order_of-requires-clause-variables : goal.order_of-requires-clause-variables
order_of-requires-clause-variables c = c.requires.numbers.variables

pub order_of-requires-clause-equations : goal.order_of-requires-clause-equations
order_of-requires-clause-equations c = c.requires.numbers.equations

pub bounds-deref-k : goal.bounds-deref-k
bounds-deref-k c =
    let f = c.args.f.now in
    let items = c.deref-k-items.result.now in
    let is : IsOrder f items = subst (IsOrder f) (sym c.deref-k-items.ensures) c.in_ok-order.ensures.order in
    let ordered : Ordered f (order_place f items) = subst (λ (o : List ℕ). Ordered f (order_place f o)) (sym c.deref-k-items.ensures) c.in_ok-order.ensures.places in
    let at = slice_get-get_or items c.loop-k.k-index 0 c.loop-k-test.true in
    let l = number_inside f c.invariant_holds.ensures items is ordered c.loop-k.k-index (get_or items c.loop-k.k-index 0) at in
    let size = ap length c.deref.ensures ∙ ap (λ (f : Function). length f.eqs) c.f.view_is in
    omega (arith, l, size)

pub set-requires : goal.set-requires
set-requires c =
    let f = c.args.f.now in
    let items = c.deref-k-items.result.now in
    let is : IsOrder f items = subst (IsOrder f) (sym c.deref-k-items.ensures) c.in_ok-order.ensures.order in
    let ordered : Ordered f (order_place f items) = subst (λ (o : List ℕ). Ordered f (order_place f o)) (sym c.deref-k-items.ensures) c.in_ok-order.ensures.places in
    let at = slice_get-get_or items c.loop-k.k-index 0 c.loop-k-test.true in
    let k = get_or items c.loop-k.k-index 0 in
    let l = number_inside f c.invariant_holds.ensures items is ordered c.loop-k.k-index k at in
    let same = c.deref.ensures ∙ ap (λ (f : Function). f.eqs) c.f.view_is in
    let size = ap length same in
    let q = c.index-deref-k.result in
    let at_k : slice_get f.eqs k ≡ Some q = ap (λ l. slice_get l k) (sym same) ∙ at_index c.deref.result.now k q (omega (arith, l, size)) c.index-deref-k.is in
    let inside = left_declared f c.invariant_holds.ensures items is ordered k q at_k in
    let decls = ap (λ (f : Function). length f.decls) c.f.view_is in
    omega (arith, inside, decls)

pub loop-k-init : goal.loop-k-init
loop-k-init c = λ fs height top passes. ([], begun_none fs height top c.args.f.now c.invariant_holds.ensures c.deref-k-items.result.now (taken c.in_ok-to.to) (c.in_ok-to.ensures ∙ ap (λ (ds : List Decl). record { cells = length ds; steps = []; waits = [] }) refl))

pub loop-k-preserved : goal.loop-k-preserved
loop-k-preserved c = λ fs height top passes.
    let f = c.args.f.now in
    let items = c.deref-k-items.result.now in
    let is : IsOrder f items = subst (IsOrder f) (sym c.deref-k-items.ensures) c.in_ok-order.ensures.order in
    let ordered : Ordered f (order_place f items) = subst (λ (o : List ℕ). Ordered f (order_place f o)) (sym c.deref-k-items.ensures) c.in_ok-order.ensures.places in
    let at = slice_get-get_or items c.loop-k.k-index 0 c.loop-k-test.true in
    let k = get_or items c.loop-k.k-index 0 in
    let l = number_inside f c.invariant_holds.ensures items is ordered c.loop-k.k-index k at in
    let same = c.deref.ensures ∙ ap (λ (f : Function). f.eqs) c.f.view_is in
    let size = ap length same in
    let q = c.index-deref-k.result in
    let at_k : slice_get f.eqs k ≡ Some q = ap (λ l. slice_get l k) (sym same) ∙ at_index c.deref.result.now k q (omega (arith, l, size)) c.index-deref-k.is in
    let x = taken c.loop-k.to in
    let decls : c.f.inside.decls ≡ f.decls = ap (λ (f : Function). f.decls) c.f.view_is in
    let made : taken c.set.new.to ≡ with_step (taken_after x q.1 (clock_of f.decls q.0)) (step_of (record { cell = q.0; clock = clock_of f.decls q.0; delays_before = length x.waits; cells_before = x.cells; source = whole q.1 })) =
    c.in_ok-set.ensures ∙ (λ i. with_step (taken_after x q.1 (clock_of (decls i) q.0)) (step_of (record { cell = q.0; clock = clock_of (decls i) q.0; delays_before = length x.waits; cells_before = x.cells; source = whole q.1 }))) in
    let b = c.loop-k.invariant fs height top passes in
    equation_next fs height top f c.invariant_holds.ensures passes items is ordered c.loop-k.k-index k q b.0 x (taken c.set.new.to) at at_k b.1 made

pub loop-to-init : goal.loop-to-init
loop-to-init c = λ fs height top good passes.
    let f = c.args.f.now in
    let items = c.deref-k-items.result.now in
    let is : IsOrder f items = subst (IsOrder f) (sym c.deref-k-items.ensures) c.in_ok-order.ensures.order in
    let ordered : Ordered f (order_place f items) = subst (λ (o : List ℕ). Ordered f (order_place f o)) (sym c.deref-k-items.ensures) c.in_ok-order.ensures.places in
    let b = c.loop-k.invariant fs height top passes in
    (items, is, ordered, b.0, subst (λ (ds : List DelayForm). Settling fs height top f good passes items is ordered b.0 (taken c.loop-k.to) ds) (sym (ap (map delay_form) c.new-delays.ensures.items)) (settling_none fs height top f good passes items is ordered c.loop-k.k-index b.0 (taken c.loop-k.to) c.loop-k-test.false c.loop-k.auto.k-index-end b.1))

pub push_delay-requires : goal.push_delay-requires
push_delay-requires c =
    let waits = length-map c.loop-to.to.waiting.items wait_form in
    let a = c.loop-to.to.waiting.ok.0 in
    let d = c.loop-to.delays.ok.0 in
    let b = c.len.ensures in
    let e = c.len-in-loop-to.ensures in
    omega (arith, waits, a, b, d, e)

pub loop-to-preserved : goal.loop-to-preserved
loop-to-preserved c = λ fs height top good passes.
    let f = c.args.f.now in
    let s = c.loop-to.invariant fs height top good passes in
    let x = taken c.loop-to.to in
    let ds = map delay_form c.loop-to.delays.items in
    let number = length-map c.loop-to.delays.items delay_form in
    let waits = length-map c.loop-to.to.waiting.items wait_form in
    let a = c.loop-to.to.waiting.ok.0 in
    let b = c.loop-to.delays.ok.0 in
    let l = c.len.ensures in
    let m = c.len-in-loop-to.ensures in
    let w = some_at x.waits (length ds) (omega (arith, waits, a, b, l, m, number)) in
    let at : slice_get x.waits (length c.loop-to.delays.items) ≡ Some w.0 = ap (slice_get x.waits) (sym number) ∙ w.1 in
    let d : DelayForm = record { clock = w.0.clock; first = w.0.first; right = form_of (length x.waits) x.cells w.0.right } in
    let next = settling_next fs height top f good passes s.0 s.1 s.2 s.3 x (taken c.push_delay.new.to) ds w.0 d s.4 w.1 refl (c.in_ok-push_delay.ensures.grown w.0 at) in
    (s.0, s.1, s.2, next.0, subst (λ (ds : List DelayForm). Settling fs height top f good passes s.0 s.1 s.2 next.0 (taken c.push_delay.new.to) ds) (sym (c.in_ok-push_delay.ensures.delay w.0 at)) next.1)

pub loop-to-smaller : goal.loop-to-smaller
loop-to-smaller c =
    let x = taken c.loop-to.to in
    let waits = length-map c.loop-to.to.waiting.items wait_form in
    let a = c.loop-to.to.waiting.ok.0 in
    let b = c.loop-to.delays.ok.0 in
    let l = c.len.ensures in
    let m = c.len-in-loop-to.ensures in
    let old = c.loop-to.delays.items in
    let new = c.push_delay.new.delays.items in
    let j = length old in
    let w = some_at x.waits j (omega (arith, waits, a, b, l, m)) in
    let d : DelayForm = record { clock = w.0.clock; first = w.0.first; right = form_of (length x.waits) x.cells w.0.right } in
    let made : (taken c.push_delay.new.to).waits ≡ x.waits ++ delays_in w.0.right w.0.clock = ap (λ (y : Taken). y.waits) (c.in_ok-push_delay.ensures.grown w.0 w.1) in
    let more : length new ≡ suc j =
    let p = ap length (c.in_ok-push_delay.ensures.delay w.0 w.1) in
    let t = length-append (map delay_form old) (d ∷ []) in
    let u = length-map old delay_form in
    let v = length-map new delay_form in
    omega (arith, p, t, u, v) in
    subst (λ (ws : List Wait). weight (drop (length new) ws) < weight (drop j x.waits)) (sym made) (weight_falls x.waits j (length new) w.0 more w.1)

pub returns : goal.returns
returns c = λ fs height top passes.
    let f = c.args.f.now in
    let good = c.invariant_holds.ensures in
    let s = c.loop-to.invariant fs height top good passes in
    let x = taken c.loop-to.to in
    let number = length-map c.loop-to.delays.items delay_form in
    let waits = length-map c.loop-to.to.waiting.items wait_form in
    let a = c.loop-to.to.waiting.ok.0 in
    let b = c.loop-to.delays.ok.0 in
    let l = c.len.ensures in
    let m = c.len-in-loop-to.ensures in
    let made = c.finish_plan.ensures in
    planned fs height top f good passes s.0 s.1 s.2 s.3 x (map delay_form c.loop-to.delays.items) c.finish_plan.result s.4
    (omega (arith, waits, a, b, l, m, number)) (ap (map step_form) made.steps) (ap (map delay_form) made.delays) made.cells made.inputs made.output
