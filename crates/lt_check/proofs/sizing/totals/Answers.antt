use Rattle.std.proofs.Common.{◌≡◌, length, map, sym, ap, ◌∙◌, arith, add-one}
use Rattle.lt_base.specs.Sizes.{cut, in_table, nested}
use Rattle.lt_check.specs.Shares.{share_measure}
use Rattle.lt_check.proofs.Shares.{same_tables, one_round, settled_rounds}
use Rattle.lt_check.proofs.sizing.totals.Goals as goal

pub returns-then-eq : goal.returns-then-eq
returns-then-eq c =
    let shares = c.args.shares.now in
    let table = c.rounds.table.items in
    let again : c.in_ok-next.next.items ≡ table =
    same_tables _ _ (sym c.eq.ensures ∙ c.if-eq.true) in
    let next : table ≡ map (λ s. cut (share_measure c.args.measure (in_table table) s.function.now)) shares =
    sym again ∙ c.in_ok-next.ensures ∙ ap (λ l. map (λ s. cut (share_measure c.args.measure (in_table l) s.function.now)) shares) c.deref.ensures.value in
    settled_rounds c.args.measure shares c.rounds._round table c.rounds.invariant next (length shares) (omega arith)

pub rounds-preserved : goal.rounds-preserved
rounds-preserved c =
    let shares = c.args.shares.now in
    let table = c.rounds.table.items in
    let next : c.in_ok-next.next.items ≡ map (λ s. cut (share_measure c.args.measure (in_table table) s.function.now)) shares =
    c.in_ok-next.ensures ∙ ap (λ l. map (λ s. cut (share_measure c.args.measure (in_table l) s.function.now)) shares) c.deref.ensures.value in
    λ g.
    one_round c.args.measure shares c.rounds._round table c.in_ok-next.next.items c.rounds.invariant next g
    ∙ ap (λ k. cut (nested (share_measure c.args.measure) (map (λ s. s.function.now) shares) k g)) (sym (add-one c.rounds._round))
