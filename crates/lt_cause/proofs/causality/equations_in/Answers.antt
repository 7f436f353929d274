use Rattle.std.proofs.Common.{◌+◌, ◌++◌, ◌∷◌, [], List, ℕ, sym, subst, arith, length, get_or}
use Rattle.std.proofs.lemmas.List.{get_or_default}
use Rattle.std.proofs.lemmas.Option.{MatchOption-at_some, MatchOption-at_none}
use Rattle.lt_base.specs.Dependence.{Depends}
use Rattle.lt_cause.specs.Tables.{Sorts}
use Rattle.lt_cause.proofs.Picked.{Picked, x_inside, picks, all_picked}
use Rattle.lt_cause.proofs.causality.equations_in.Goals as goal

pub index-requires : goal.index-requires
index-requires c =
    let f = c.args.f.now in
    let order = c.deref-x-items.result.now in
    let i = c.loop-x.x-index in
    let x = get_or order i 0 in
    let sorts = subst (λ (o : List ℕ). Sorts (Depends f) (length f.decls) o) (sym c.deref-x-items.ensures.value) c.requires.sorts in
    let l = x_inside f c.invariant_holds.ensures order sorts i x c.loop-x-test.true (get_or_default order i 0 x c.loop-x-test.true) c.loop-x.eqs c.loop-x.invariant in
    let n = c.in_ok-numbers.ensures.size in
    let k = c.in_ok-numbers.numbers.ok.0 in
    omega (arith, l, n, k)

pub loop-x-preserved-in_default : goal.loop-x-preserved-in_default
loop-x-preserved-in_default c =
    let f = c.args.f.now in
    let order = c.deref-x-items.result.now in
    let i = c.loop-x.x-index in
    let x = get_or order i 0 in
    let sorts = subst (λ (o : List ℕ). Sorts (Depends f) (length f.decls) o) (sym c.deref-x-items.ensures.value) c.requires.sorts in
    MatchOption-at_none (Picked f order (i + 1) c.loop-x.eqs) (λ m. Picked f order (i + 1) (c.loop-x.eqs ++ m ∷ [])) c.in_default.is
    (picks f c.invariant_holds.ensures order sorts i x c.loop-x-test.true (get_or_default order i 0 x c.loop-x-test.true) c.loop-x.eqs c.loop-x.invariant c.in_ok-numbers.numbers.items c.in_ok-numbers.ensures c.index.result.now c.index.ensures)

pub loop-x-preserved : goal.loop-x-preserved
loop-x-preserved c =
    let f = c.args.f.now in
    let order = c.deref-x-items.result.now in
    let i = c.loop-x.x-index in
    let x = get_or order i 0 in
    let sorts = subst (λ (o : List ℕ). Sorts (Depends f) (length f.decls) o) (sym c.deref-x-items.ensures.value) c.requires.sorts in
    subst (Picked f order (i + 1)) (sym c.in_ok-push.ensures.ok)
    (MatchOption-at_some (Picked f order (i + 1) c.loop-x.eqs) (λ m. Picked f order (i + 1) (c.loop-x.eqs ++ m ∷ [])) c.in-Some.number c.in-Some.is
    (picks f c.invariant_holds.ensures order sorts i x c.loop-x-test.true (get_or_default order i 0 x c.loop-x-test.true) c.loop-x.eqs c.loop-x.invariant c.in_ok-numbers.numbers.items c.in_ok-numbers.ensures c.index.result.now c.index.ensures))

pub returns : goal.returns
returns c =
    let f = c.args.f.now in
    let order = c.deref-x-items.result.now in
    let sorts = subst (λ (o : List ℕ). Sorts (Depends f) (length f.decls) o) (sym c.deref-x-items.ensures.value) c.requires.sorts in
    all_picked f c.invariant_holds.ensures order c.loop-x.eqs c.loop-x.x-index sorts c.loop-x-test.false c.loop-x.invariant
