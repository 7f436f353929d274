use Rattle.std.proofs.Common.{◌≡◌, ◌<◌, ◌∙◌, [], length, get_or, sym, ap, subst, arith, below_more}
use Rattle.std.proofs.lemmas.List.{get_or_default}
use Rattle.lt_graph.specs.Tables.{next, Leads}
use Rattle.lt_graph.proofs.Reaches.{place_has}
use Rattle.lt_cause.proofs.Turns.{turns, turns_not}
use Rattle.lt_cause.proofs.circling.returns.Goals as goal

pub index-requires : goal.index-requires
index-requires c =
    let g = c.args.table.now in
    let x = c.args.number in
    let names = c.args.names.now.items in
    let items = c.deref-next-items.result.now in
    let row : items ≡ next g x = c.deref-next-items.ensures ∙ c.index-deref-number.is ∙ ap (λ t. get_or t x c.index-deref-number.result) c.deref.ensures ∙ get_or_default g x c.index-deref-number.result [] c.requires.number in
    let i = c.loop-next.next-index in
    let long : i < length (next g x) = let l = c.loop-next-test.true in let n = ap length row in omega (arith, l, n) in
    let y = get_or items i 0 in
    let same : y ≡ get_or (next g x) i 0 = ap (λ t. get_or t i 0) row in
    let leads : Leads g x y = subst (Leads g x) (sym same) (place_has (next g x) i long) in
    let y_in : y < length g = c.requires.table x y leads in
    let size : length names ≡ length g = c.requires.names.size in
    let counted = c.args.names.now.ok.0 in
    omega (arith, y_in, size, counted)

pub returns-then-index : goal.returns-then-index
returns-then-index c =
    let g = c.args.table.now in
    let x = c.args.number in
    let names = c.args.names.now.items in
    let items = c.deref-next-items.result.now in
    let row : items ≡ next g x = c.deref-next-items.ensures ∙ c.index-deref-number.is ∙ ap (λ t. get_or t x c.index-deref-number.result) c.deref.ensures ∙ get_or_default g x c.index-deref-number.result [] c.requires.number in
    let i = c.loop-next.next-index in
    let long : i < length (next g x) = let l = c.loop-next-test.true in let n = ap length row in omega (arith, l, n) in
    let y = get_or items i 0 in
    let same : y ≡ get_or (next g x) i 0 = ap (λ t. get_or t i 0) row in
    let leads : Leads g x y = subst (Leads g x) (sym same) (place_has (next g x) i long) in
    let y_in : y < length g = c.requires.table x y leads in
    let size : length names ≡ length g = c.requires.names.size in
    let counted = c.args.names.now.ok.0 in
    let read : c.index.result.now ≡ get_or names y 0 = c.index.ensures ∙ get_or_default names y c.index.result.now 0 (omega (arith, y_in, size)) in
    let own : c.index-in-loop-next.result.now ≡ get_or names x 0 = c.index-in-loop-next.ensures ∙ get_or_default names x c.index-in-loop-next.result.now 0 (let l = c.requires.number in omega (arith, l, size)) in
    turns g names c.requires.names c.requires.table x c.requires.number i long (ap (λ z. get_or names z 0) (sym same) ∙ sym read ∙ c.if-index.true ∙ own)

pub loop-next-preserved : goal.loop-next-preserved
loop-next-preserved c =
    let g = c.args.table.now in
    let x = c.args.number in
    let names = c.args.names.now.items in
    let items = c.deref-next-items.result.now in
    let row : items ≡ next g x = c.deref-next-items.ensures ∙ c.index-deref-number.is ∙ ap (λ t. get_or t x c.index-deref-number.result) c.deref.ensures ∙ get_or_default g x c.index-deref-number.result [] c.requires.number in
    let i = c.loop-next.next-index in
    let long : i < length (next g x) = let l = c.loop-next-test.true in let n = ap length row in omega (arith, l, n) in
    let y = get_or items i 0 in
    let same : y ≡ get_or (next g x) i 0 = ap (λ t. get_or t i 0) row in
    let leads : Leads g x y = subst (Leads g x) (sym same) (place_has (next g x) i long) in
    let y_in : y < length g = c.requires.table x y leads in
    let size : length names ≡ length g = c.requires.names.size in
    let counted = c.args.names.now.ok.0 in
    let read : c.index.result.now ≡ get_or names y 0 = c.index.ensures ∙ get_or_default names y c.index.result.now 0 (omega (arith, y_in, size)) in
    let own : c.index-in-loop-next.result.now ≡ get_or names x 0 = c.index-in-loop-next.ensures ∙ get_or_default names x c.index-in-loop-next.result.now 0 (let l = c.requires.number in omega (arith, l, size)) in
    below_more (λ k. get_or names (get_or items k 0) 0 ≡ get_or names x 0 → ⊥) i c.loop-next.invariant (λ e. c.if-index.false (read ∙ e ∙ sym own))

pub returns : goal.returns
returns c =
    let g = c.args.table.now in
    let x = c.args.number in
    let names = c.args.names.now.items in
    let items = c.deref-next-items.result.now in
    let row : items ≡ next g x = c.deref-next-items.ensures ∙ c.index-deref-number.is ∙ ap (λ t. get_or t x c.index-deref-number.result) c.deref.ensures ∙ get_or_default g x c.index-deref-number.result [] c.requires.number in
    turns_not g names c.requires.names c.requires.table x c.requires.number (λ k l e.
    let over = c.loop-next-test.false in
    let n = ap length row in
    c.loop-next.invariant k (omega (arith, l, over, n)) (ap (λ t. get_or names (get_or t k 0) 0) row ∙ e))
