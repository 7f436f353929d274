use Rattle.std.proofs.Common.{◌≡◌, ◌∙◌, sym, ap, subst, set, length, arith, ◌<◌, ◌-◌, ◌+◌, List, ℕ, [], ◌++◌, ◌∷◌, true, false}
use Rattle.std.specs.List.{sum_by, sum}
use Rattle.std.proofs.lemmas.List.{length_push, nil_from_length}
use Rattle.std.proofs.lemmas.Option.{MatchOption-at_none}
use Rattle.lt_graph.specs.Tables.{Leads}
use Rattle.lt_cause.specs.Tables.{Circles}
use Rattle.lt_cause.proofs.Search.{leads_at}
use Rattle.lt_cause.proofs.Round.{Circling, known, unseen, x_inside, rest_is, place_in, leave, look, meet, seen_fewer, rest_shorter, closes, known_read, ends}
use Rattle.lt_cause.proofs.circling.circle.Goals as goal

pub index-left-requires : goal.index-left-requires
index-left-requires c =
    let g = c.args.table.now in
    let start = c.args.start in
    let seen = c.loop-x.seen.items in
    let rest = c.loop-x.rest.items in
    let path = c.loop-x.path.items in
    let s = c.loop-x.invariant in
    let p = c.pop.new.self.items in
    let x = c.in-Some.x in
    let top = c.in-Some.ensures.items in
    let l = x_inside g start seen rest path s p x top in
    let n = s.rest_size in
    let k = c.loop-x.rest.ok.0 in
    omega (arith, l, n, k)

pub leads_to-y-requires-clause-number : goal.leads_to-y-requires-clause-number
leads_to-y-requires-clause-number c =
    let g = c.args.table.now in
    let start = c.args.start in
    let seen = c.loop-x.seen.items in
    let rest = c.loop-x.rest.items in
    let path = c.loop-x.path.items in
    let s = c.loop-x.invariant in
    let p = c.pop.new.self.items in
    let x = c.in-Some.x in
    let top = c.in-Some.ensures.items in
    x_inside g start seen rest path s p x top

pub leads_to-y-requires-clause-place : goal.leads_to-y-requires-clause-place
leads_to-y-requires-clause-place c =
    let g = c.args.table.now in
    let start = c.args.start in
    let seen = c.loop-x.seen.items in
    let rest = c.loop-x.rest.items in
    let path = c.loop-x.path.items in
    let s = c.loop-x.invariant in
    let p = c.pop.new.self.items in
    let x = c.in-Some.x in
    let top = c.in-Some.ensures.items in
    let left = c.index-left.result.now in
    let is = rest_is g start seen rest path s p x top left c.index-left.ensures in
    let some = c.if-left-gt0.true in
    let place = place_in g start seen rest path s p x top left is some in
    place

pub index_mut-requires-then-left-gt0 : goal.index_mut-requires-then-left-gt0
index_mut-requires-then-left-gt0 c =
    let g = c.args.table.now in
    let start = c.args.start in
    let seen = c.loop-x.seen.items in
    let rest = c.loop-x.rest.items in
    let path = c.loop-x.path.items in
    let s = c.loop-x.invariant in
    let p = c.pop.new.self.items in
    let x = c.in-Some.x in
    let top = c.in-Some.ensures.items in
    let l = x_inside g start seen rest path s p x top in
    let n = s.rest_size in
    let k = c.loop-x.rest.ok.0 in
    omega (arith, l, n, k)

pub returns-then-y-start : goal.returns-then-y-start
returns-then-y-start c =
    let g = c.args.table.now in
    let start = c.args.start in
    let seen = c.loop-x.seen.items in
    let rest = c.loop-x.rest.items in
    let path = c.loop-x.path.items in
    let s = c.loop-x.invariant in
    let p = c.pop.new.self.items in
    let x = c.in-Some.x in
    let top = c.in-Some.ensures.items in
    let left = c.index-left.result.now in
    let is = rest_is g start seen rest path s p x top left c.index-left.ensures in
    let some = c.if-left-gt0.true in
    let place = place_in g start seen rest path s p x top left is some in
    let y = c.leads_to-y.result in
    let at = c.leads_to-y.ensures in
    let leads = leads_at g x (left - 1) y place at in
    let back : c.push-then-left-gt0.new.self.items ≡ p ++ x ∷ [] = c.in_ok-push-2.ensures.items in
    subst (Circles (Leads g) start) (sym back) (closes g start seen rest path s p x top (subst (Leads g x) c.if-y-start.true leads))

pub index-requires : goal.index-requires
index-requires c =
    let g = c.args.table.now in
    let start = c.args.start in
    let seen = c.loop-x.seen.items in
    let rest = c.loop-x.rest.items in
    let path = c.loop-x.path.items in
    let s = c.loop-x.invariant in
    let p = c.pop.new.self.items in
    let x = c.in-Some.x in
    let top = c.in-Some.ensures.items in
    let left = c.index-left.result.now in
    let is = rest_is g start seen rest path s p x top left c.index-left.ensures in
    let some = c.if-left-gt0.true in
    let place = place_in g start seen rest path s p x top left is some in
    let y = c.leads_to-y.result in
    let at = c.leads_to-y.ensures in
    let leads = leads_at g x (left - 1) y place at in
    let other = c.if-y-start.false in
    let y_in = c.requires.table x y leads in
    let n = s.seen_size in
    let y_known : y < length seen = omega (arith, y_in, n) in
    let k = c.loop-x.seen.ok.0 in
    omega (arith, y_known, k)

pub index_mut-requires-then-not-index : goal.index_mut-requires-then-not-index
index_mut-requires-then-not-index c =
    let g = c.args.table.now in
    let start = c.args.start in
    let seen = c.loop-x.seen.items in
    let rest = c.loop-x.rest.items in
    let path = c.loop-x.path.items in
    let s = c.loop-x.invariant in
    let p = c.pop.new.self.items in
    let x = c.in-Some.x in
    let top = c.in-Some.ensures.items in
    let left = c.index-left.result.now in
    let is = rest_is g start seen rest path s p x top left c.index-left.ensures in
    let some = c.if-left-gt0.true in
    let place = place_in g start seen rest path s p x top left is some in
    let y = c.leads_to-y.result in
    let at = c.leads_to-y.ensures in
    let leads = leads_at g x (left - 1) y place at in
    let other = c.if-y-start.false in
    let y_in = c.requires.table x y leads in
    let n = s.seen_size in
    let y_known : y < length seen = omega (arith, y_in, n) in
    let k = c.loop-x.seen.ok.0 in
    omega (arith, y_known, k)

pub loop-x-smaller-in-Continue-branch-5 : goal.loop-x-smaller-in-Continue-branch-5
loop-x-smaller-in-Continue-branch-5 c =
    let g = c.args.table.now in
    let start = c.args.start in
    let seen = c.loop-x.seen.items in
    let rest = c.loop-x.rest.items in
    let path = c.loop-x.path.items in
    let s = c.loop-x.invariant in
    let p = c.pop.new.self.items in
    let x = c.in-Some.x in
    let top = c.in-Some.ensures.items in
    let left = c.index-left.result.now in
    let is = rest_is g start seen rest path s p x top left c.index-left.ensures in
    let some = c.if-left-gt0.true in
    let place = place_in g start seen rest path s p x top left is some in
    let y = c.leads_to-y.result in
    let at = c.leads_to-y.ensures in
    let leads = leads_at g x (left - 1) y place at in
    let other = c.if-y-start.false in
    let y_in = c.requires.table x y leads in
    let n = s.seen_size in
    let y_known : y < length seen = omega (arith, y_in, n) in
    let back : c.push-then-left-gt0.new.self.items ≡ p ++ x ∷ [] = c.in_ok-push-2.ensures.items in
    let new : known seen y ≡ false = known_read seen y c.index.result.now y_known c.index.ensures ∙ c.if-not-index.true in
    let pushed : c.push-then-not-index.new.self.items ≡ c.push-then-left-gt0.new.self.items ++ y ∷ [] = c.in_ok-push-3.ensures.items in
    let now' : path ++ y ∷ [] ≡ c.push-then-not-index.new.self.items = ap (λ (q : List ℕ). q ++ y ∷ []) (top ∙ sym back) ∙ sym pushed in
    let r : sum (set rest x (left - 1)) + 1 ≡ sum rest = rest_shorter g start seen rest path s p x top left is some in
    let u : sum_by unseen (set seen y true) + 1 ≡ sum_by unseen seen = seen_fewer g start seen rest path s p x top left is some y at other y_in new in
    let longer : length c.push-then-not-index.new.self.items ≡ length path + 1 = ap length (sym now') ∙ length_push path y in
    let shorter : sum (set rest x (left - 1)) + length c.push-then-not-index.new.self.items + sum_by unseen (set seen y true) < sum rest + length path + sum_by unseen seen = omega (arith, r, u, longer) in
    shorter

pub loop-x-preserved-in-Continue-branch-5 : goal.loop-x-preserved-in-Continue-branch-5
loop-x-preserved-in-Continue-branch-5 c =
    let g = c.args.table.now in
    let start = c.args.start in
    let seen = c.loop-x.seen.items in
    let rest = c.loop-x.rest.items in
    let path = c.loop-x.path.items in
    let s = c.loop-x.invariant in
    let p = c.pop.new.self.items in
    let x = c.in-Some.x in
    let top = c.in-Some.ensures.items in
    let left = c.index-left.result.now in
    let is = rest_is g start seen rest path s p x top left c.index-left.ensures in
    let some = c.if-left-gt0.true in
    let place = place_in g start seen rest path s p x top left is some in
    let y = c.leads_to-y.result in
    let at = c.leads_to-y.ensures in
    let leads = leads_at g x (left - 1) y place at in
    let other = c.if-y-start.false in
    let y_in = c.requires.table x y leads in
    let n = s.seen_size in
    let y_known : y < length seen = omega (arith, y_in, n) in
    let back : c.push-then-left-gt0.new.self.items ≡ p ++ x ∷ [] = c.in_ok-push-2.ensures.items in
    let new : known seen y ≡ false = known_read seen y c.index.result.now y_known c.index.ensures ∙ c.if-not-index.true in
    let pushed : c.push-then-not-index.new.self.items ≡ c.push-then-left-gt0.new.self.items ++ y ∷ [] = c.in_ok-push-3.ensures.items in
    let now' : path ++ y ∷ [] ≡ c.push-then-not-index.new.self.items = ap (λ (q : List ℕ). q ++ y ∷ []) (top ∙ sym back) ∙ sym pushed in
    subst (λ (q : List ℕ). Circling g start (set seen y true) (set rest x (left - 1)) q) now' (meet g start seen rest path s p x top left is some y at other y_in new leads)

pub loop-x-smaller-else-not-index : goal.loop-x-smaller-else-not-index
loop-x-smaller-else-not-index c =
    let g = c.args.table.now in
    let start = c.args.start in
    let seen = c.loop-x.seen.items in
    let rest = c.loop-x.rest.items in
    let path = c.loop-x.path.items in
    let s = c.loop-x.invariant in
    let p = c.pop.new.self.items in
    let x = c.in-Some.x in
    let top = c.in-Some.ensures.items in
    let left = c.index-left.result.now in
    let is = rest_is g start seen rest path s p x top left c.index-left.ensures in
    let some = c.if-left-gt0.true in
    let place = place_in g start seen rest path s p x top left is some in
    let y = c.leads_to-y.result in
    let at = c.leads_to-y.ensures in
    let leads = leads_at g x (left - 1) y place at in
    let back : c.push-then-left-gt0.new.self.items ≡ p ++ x ∷ [] = c.in_ok-push-2.ensures.items in
    let r : sum (set rest x (left - 1)) + 1 ≡ sum rest = rest_shorter g start seen rest path s p x top left is some in
    let same : length c.push-then-left-gt0.new.self.items ≡ length path = ap length (back ∙ sym top) in
    let shorter : sum (set rest x (left - 1)) + length c.push-then-left-gt0.new.self.items + sum_by unseen seen < sum rest + length path + sum_by unseen seen = omega (arith, r, same) in
    shorter

pub loop-x-preserved-else-not-index : goal.loop-x-preserved-else-not-index
loop-x-preserved-else-not-index c =
    let g = c.args.table.now in
    let start = c.args.start in
    let seen = c.loop-x.seen.items in
    let rest = c.loop-x.rest.items in
    let path = c.loop-x.path.items in
    let s = c.loop-x.invariant in
    let p = c.pop.new.self.items in
    let x = c.in-Some.x in
    let top = c.in-Some.ensures.items in
    let left = c.index-left.result.now in
    let is = rest_is g start seen rest path s p x top left c.index-left.ensures in
    let some = c.if-left-gt0.true in
    let place = place_in g start seen rest path s p x top left is some in
    let y = c.leads_to-y.result in
    let at = c.leads_to-y.ensures in
    let leads = leads_at g x (left - 1) y place at in
    let other = c.if-y-start.false in
    let y_in = c.requires.table x y leads in
    let n = s.seen_size in
    let y_known : y < length seen = omega (arith, y_in, n) in
    let back : c.push-then-left-gt0.new.self.items ≡ p ++ x ∷ [] = c.in_ok-push-2.ensures.items in
    let old : known seen y ≡ true = known_read seen y c.index.result.now y_known c.index.ensures ∙ c.if-not-index.false in
    subst (λ (q : List ℕ). Circling g start seen (set rest x (left - 1)) q) (top ∙ sym back) (look g start seen rest path s p x top left is some y at other old)

pub loop-x-preserved : goal.loop-x-preserved
loop-x-preserved c =
    let g = c.args.table.now in
    let start = c.args.start in
    let seen = c.loop-x.seen.items in
    let rest = c.loop-x.rest.items in
    let path = c.loop-x.path.items in
    let s = c.loop-x.invariant in
    let p = c.pop.new.self.items in
    let x = c.in-Some.x in
    let top = c.in-Some.ensures.items in
    let left = c.index-left.result.now in
    let is = rest_is g start seen rest path s p x top left c.index-left.ensures in
    let zero = c.if-left-gt0.false in
    leave g start seen rest path s p x top (omega (arith, is, zero))

pub returns : goal.returns
returns c =
    let size = (MatchOption-at_none _ _ c.in_default.is c.pop.ensures.cases).0 in
    let none : c.loop-x.path.items ≡ [] = nil_from_length c.loop-x.path.items (sym c.loop-x.path.ok.0 ∙ size) in
    ends c.args.table.now c.args.start c.loop-x.seen.items c.loop-x.rest.items (subst (λ (q : List ℕ). Circling c.args.table.now c.args.start c.loop-x.seen.items c.loop-x.rest.items q) none c.loop-x.invariant)
