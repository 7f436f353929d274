use Rattle.std.proofs.Common.{◌≡◌, ◌∙◌, sym, ap, subst, get_or, set, length, arith, ◌<◌, ◌-◌, List, ℕ, [], ◌++◌, ◌∷◌}
use Rattle.lt_cause.specs.declared.sorting.Mark.TheVariants.{New, Open, Done}
use Rattle.lt_graph.specs.Tables.{next, Leads}
use Rattle.lt_cause.proofs.Walks.{Along}
use Rattle.lt_cause.proofs.Search.{Sorting, mark, top_inside, rest_read, mark_read, positive, place_inside, leads_at, finish, finish_kept, finish_started, finish_shorter, closes, pass, pass_shorter, along_more, add, done_kept, add_started, add_shorter, sorts}
use Rattle.lt_cause.proofs.sorting.topological_order.Goals as goal

pub index-left-requires : goal.index-left-requires
index-left-requires c =
    let s = c.loop-x.invariant.sorting in
    let l = top_inside c.args.table.now c.loop-x.marks.items c.loop-x.rest.items c.loop-x.path.items c.loop-x.order.items s c.pop.new.self.items c.in-Some.x c.in-Some.ensures.items in
    let n = s.rest_size in
    let k = c.loop-x.rest.ok.0 in
    omega (arith, l, n, k)

pub index_mut-requires-then-left-eq0 : goal.index_mut-requires-then-left-eq0
index_mut-requires-then-left-eq0 c =
    let s = c.loop-x.invariant.sorting in
    let l = top_inside c.args.table.now c.loop-x.marks.items c.loop-x.rest.items c.loop-x.path.items c.loop-x.order.items s c.pop.new.self.items c.in-Some.x c.in-Some.ensures.items in
    let n = s.marks_size in
    let k = c.loop-x.marks.ok.0 in
    omega (arith, l, n, k)

pub loop-x-smaller-in-Continue-branch-5 : goal.loop-x-smaller-in-Continue-branch-5
loop-x-smaller-in-Continue-branch-5 c =
    let s = c.loop-x.invariant.sorting in
    let none = rest_read c.args.table.now c.loop-x.marks.items c.loop-x.rest.items c.loop-x.path.items c.loop-x.order.items s c.pop.new.self.items c.in-Some.x c.in-Some.ensures.items c.index-left.result.now c.index-left.ensures ∙ c.if-left-eq0.true in
    finish_shorter c.args.table.now c.loop-x.marks.items c.loop-x.rest.items c.loop-x.path.items c.loop-x.order.items s c.pop.new.self.items c.in-Some.x c.in-Some.ensures.items none

pub loop-x-preserved-in-Continue-branch-5 : goal.loop-x-preserved-in-Continue-branch-5
loop-x-preserved-in-Continue-branch-5 c =
    let g = c.args.table.now in
    let marks = c.loop-x.marks.items in
    let rest = c.loop-x.rest.items in
    let path = c.loop-x.path.items in
    let order = c.loop-x.order.items in
    let s = c.loop-x.invariant.sorting in
    let p = c.pop.new.self.items in
    let x = c.in-Some.x in
    let top = c.in-Some.ensures.items in
    let none = rest_read g marks rest path order s p x top c.index-left.result.now c.index-left.ensures ∙ c.if-left-eq0.true in
    record {
      sorting = subst (λ (o : List ℕ). Sorting g (set marks x Done) rest p o) (sym c.in_ok-push-2.ensures.items) (finish g marks rest path order s p x top none);
      before = λ z l. finish_kept g marks rest path order s p x top none z (c.loop-x.invariant.before z l);
      started = finish_started g marks rest path order s p x top none c.loop-root.root c.loop-x.invariant.started;
    }

pub leads_to-y-requires : goal.leads_to-y-requires
leads_to-y-requires c =
    let g = c.args.table.now in
    let marks = c.loop-x.marks.items in
    let rest = c.loop-x.rest.items in
    let path = c.loop-x.path.items in
    let order = c.loop-x.order.items in
    let s = c.loop-x.invariant.sorting in
    let p = c.pop.new.self.items in
    let x = c.in-Some.x in
    let top = c.in-Some.ensures.items in
    let is = rest_read g marks rest path order s p x top c.index-left.result.now c.index-left.ensures in
    record { number = top_inside g marks rest path order s p x top; place = place_inside g marks rest path order s p x top c.index-left.result.now is c.if-left-eq0.false }

pub index-requires-else-left-eq0 : goal.index-requires-else-left-eq0
index-requires-else-left-eq0 c =
    let g = c.args.table.now in
    let marks = c.loop-x.marks.items in
    let rest = c.loop-x.rest.items in
    let path = c.loop-x.path.items in
    let order = c.loop-x.order.items in
    let s = c.loop-x.invariant.sorting in
    let p = c.pop.new.self.items in
    let x = c.in-Some.x in
    let top = c.in-Some.ensures.items in
    let left = c.index-left.result.now in
    let is = rest_read g marks rest path order s p x top left c.index-left.ensures in
    let place = place_inside g marks rest path order s p x top left is c.if-left-eq0.false in
    let y = c.leads_to-y.result in
    let leads = leads_at g x (left - 1) y place c.leads_to-y.ensures in
    let y_inside = c.requires.table x y leads in
    let n = s.marks_size in
    let k = c.loop-x.marks.ok.0 in
    omega (arith, y_inside, n, k)

pub index_mut-requires-in-New-index : goal.index_mut-requires-in-New-index
index_mut-requires-in-New-index c =
    let g = c.args.table.now in
    let marks = c.loop-x.marks.items in
    let rest = c.loop-x.rest.items in
    let path = c.loop-x.path.items in
    let order = c.loop-x.order.items in
    let s = c.loop-x.invariant.sorting in
    let p = c.pop.new.self.items in
    let x = c.in-Some.x in
    let top = c.in-Some.ensures.items in
    let left = c.index-left.result.now in
    let is = rest_read g marks rest path order s p x top left c.index-left.ensures in
    let place = place_inside g marks rest path order s p x top left is c.if-left-eq0.false in
    let y = c.leads_to-y.result in
    let leads = leads_at g x (left - 1) y place c.leads_to-y.ensures in
    let y_inside = c.requires.table x y leads in
    let n = s.marks_size in
    let k = c.loop-x.marks.ok.0 in
    omega (arith, y_inside, n, k)

pub loop-x-smaller-in-Continue-branch-7 : goal.loop-x-smaller-in-Continue-branch-7
loop-x-smaller-in-Continue-branch-7 c =
    let g = c.args.table.now in
    let marks = c.loop-x.marks.items in
    let rest = c.loop-x.rest.items in
    let path = c.loop-x.path.items in
    let order = c.loop-x.order.items in
    let s = c.loop-x.invariant.sorting in
    let p = c.pop.new.self.items in
    let x = c.in-Some.x in
    let top = c.in-Some.ensures.items in
    let left = c.index-left.result.now in
    let is = rest_read g marks rest path order s p x top left c.index-left.ensures in
    let place = place_inside g marks rest path order s p x top left is c.if-left-eq0.false in
    let y = c.leads_to-y.result in
    let leads = leads_at g x (left - 1) y place c.leads_to-y.ensures in
    let y_inside = c.requires.table x y leads in
    let y_marked : y < length marks = (let n = s.marks_size in omega (arith, y_inside, n)) in
    let marked : mark marks y ≡ New = mark_read marks y c.index-else-left-eq0.result.now y_marked c.index-else-left-eq0.ensures ∙ c.in-New-index.is in
    add_shorter g marks rest path order s y y_inside marked

pub loop-x-preserved-in-Continue-branch-7 : goal.loop-x-preserved-in-Continue-branch-7
loop-x-preserved-in-Continue-branch-7 c =
    let g = c.args.table.now in
    let marks = c.loop-x.marks.items in
    let rest = c.loop-x.rest.items in
    let path = c.loop-x.path.items in
    let order = c.loop-x.order.items in
    let s = c.loop-x.invariant.sorting in
    let p = c.pop.new.self.items in
    let x = c.in-Some.x in
    let top = c.in-Some.ensures.items in
    let left = c.index-left.result.now in
    let is = rest_read g marks rest path order s p x top left c.index-left.ensures in
    let place = place_inside g marks rest path order s p x top left is c.if-left-eq0.false in
    let y = c.leads_to-y.result in
    let leads = leads_at g x (left - 1) y place c.leads_to-y.ensures in
    let y_inside = c.requires.table x y leads in
    let y_marked : y < length marks = (let n = s.marks_size in omega (arith, y_inside, n)) in
    let marked : mark marks y ≡ New = mark_read marks y c.index-else-left-eq0.result.now y_marked c.index-else-left-eq0.ensures ∙ c.in-New-index.is in
    let back : c.push-in-New-index.new.self.items ≡ p ++ x ∷ [] = c.in_ok-push-in-New-index.ensures.items in
    let pushed : c.push-in-New-index-2.new.self.items ≡ c.push-in-New-index.new.self.items ++ y ∷ [] = c.in_ok-push-in-New-index-2.ensures.items in
    let along = subst (λ (q : List ℕ). Along (Leads g) q y) (sym top) (along_more g marks rest path order s p x top y leads) in
    let now' : path ++ y ∷ [] ≡ c.push-in-New-index-2.new.self.items = ap (λ (q : List ℕ). q ++ y ∷ []) (top ∙ sym back) ∙ sym pushed in
    record {
      sorting = subst (λ (q : List ℕ). Sorting g (set marks y Open) rest q order) now' (add g marks rest path order s y y_inside marked along);
      before = λ z l. done_kept g marks rest path order s y y_inside marked z (c.loop-x.invariant.before z l);
      started = add_started g marks rest path order s y y_inside marked c.loop-root.root c.loop-x.invariant.started;
    }

pub returns-in-Open : goal.returns-in-Open
returns-in-Open c =
    let g = c.args.table.now in
    let marks = c.loop-x.marks.items in
    let rest = c.loop-x.rest.items in
    let path = c.loop-x.path.items in
    let order = c.loop-x.order.items in
    let s = c.loop-x.invariant.sorting in
    let p = c.pop.new.self.items in
    let x = c.in-Some.x in
    let top = c.in-Some.ensures.items in
    let left = c.index-left.result.now in
    let is = rest_read g marks rest path order s p x top left c.index-left.ensures in
    let place = place_inside g marks rest path order s p x top left is c.if-left-eq0.false in
    let y = c.leads_to-y.result in
    let leads = leads_at g x (left - 1) y place c.leads_to-y.ensures in
    let y_inside = c.requires.table x y leads in
    let y_marked : y < length marks = (let n = s.marks_size in omega (arith, y_inside, n)) in
    let marked : mark marks y ≡ Open = mark_read marks y c.index-else-left-eq0.result.now y_marked c.index-else-left-eq0.ensures ∙ c.in-Open.is in
    closes g marks rest path order s p x top y leads marked

pub index_mut-requires-in-Done : goal.index_mut-requires-in-Done
index_mut-requires-in-Done c =
    let g = c.args.table.now in
    let marks = c.loop-x.marks.items in
    let rest = c.loop-x.rest.items in
    let path = c.loop-x.path.items in
    let order = c.loop-x.order.items in
    let s = c.loop-x.invariant.sorting in
    let p = c.pop.new.self.items in
    let x = c.in-Some.x in
    let top = c.in-Some.ensures.items in
    let left = c.index-left.result.now in
    let is = rest_read g marks rest path order s p x top left c.index-left.ensures in
    let place = place_inside g marks rest path order s p x top left is c.if-left-eq0.false in
    let y = c.leads_to-y.result in
    let leads = leads_at g x (left - 1) y place c.leads_to-y.ensures in
    let y_inside = c.requires.table x y leads in
    let l = top_inside g marks rest path order s p x top in
    let n = s.rest_size in
    let k = c.loop-x.rest.ok.0 in
    omega (arith, l, n, k)

pub loop-x-smaller : goal.loop-x-smaller
loop-x-smaller c =
    let g = c.args.table.now in
    let marks = c.loop-x.marks.items in
    let rest = c.loop-x.rest.items in
    let path = c.loop-x.path.items in
    let order = c.loop-x.order.items in
    let s = c.loop-x.invariant.sorting in
    let p = c.pop.new.self.items in
    let x = c.in-Some.x in
    let top = c.in-Some.ensures.items in
    let left = c.index-left.result.now in
    let is = rest_read g marks rest path order s p x top left c.index-left.ensures in
    let place = place_inside g marks rest path order s p x top left is c.if-left-eq0.false in
    let y = c.leads_to-y.result in
    let leads = leads_at g x (left - 1) y place c.leads_to-y.ensures in
    let y_inside = c.requires.table x y leads in
    let y_marked : y < length marks = (let n = s.marks_size in omega (arith, y_inside, n)) in
    let marked : mark marks y ≡ Done = mark_read marks y c.index-else-left-eq0.result.now y_marked c.index-else-left-eq0.ensures ∙ c.in-Done.is in
    let some = positive left c.if-left-eq0.false in
    let there : mark marks (get_or (next g x) (left - 1) 0) ≡ Done = ap (mark marks) (sym c.leads_to-y.ensures) ∙ marked in
    pass_shorter g marks rest path order s p x top left is some there

pub loop-x-preserved : goal.loop-x-preserved
loop-x-preserved c =
    let g = c.args.table.now in
    let marks = c.loop-x.marks.items in
    let rest = c.loop-x.rest.items in
    let path = c.loop-x.path.items in
    let order = c.loop-x.order.items in
    let s = c.loop-x.invariant.sorting in
    let p = c.pop.new.self.items in
    let x = c.in-Some.x in
    let top = c.in-Some.ensures.items in
    let left = c.index-left.result.now in
    let is = rest_read g marks rest path order s p x top left c.index-left.ensures in
    let place = place_inside g marks rest path order s p x top left is c.if-left-eq0.false in
    let y = c.leads_to-y.result in
    let leads = leads_at g x (left - 1) y place c.leads_to-y.ensures in
    let y_inside = c.requires.table x y leads in
    let y_marked : y < length marks = (let n = s.marks_size in omega (arith, y_inside, n)) in
    let marked : mark marks y ≡ Done = mark_read marks y c.index-else-left-eq0.result.now y_marked c.index-else-left-eq0.ensures ∙ c.in-Done.is in
    let some = positive left c.if-left-eq0.false in
    let there : mark marks (get_or (next g x) (left - 1) 0) ≡ Done = ap (mark marks) (sym c.leads_to-y.ensures) ∙ marked in
    let back : c.push-in-Done.new.self.items ≡ p ++ x ∷ [] = c.in_ok-push-in-Done.ensures.items in
    record {
      sorting = subst (λ (q : List ℕ). Sorting g marks (set rest x (left - 1)) q order) (sym back) (pass g marks rest path order s p x top left is some there);
      before = c.loop-x.invariant.before;
      started = c.loop-x.invariant.started;
    }

pub returns : goal.returns
returns c =
    let over = c.loop-root-test.false in
    let size = c.len-size.ensures in
    sorts c.args.table.now c.loop-root.marks.items c.loop-root.rest.items c.loop-root.order.items c.loop-root.invariant.sorting (λ x l. c.loop-root.invariant.before x (omega (arith, over, size, l)))
