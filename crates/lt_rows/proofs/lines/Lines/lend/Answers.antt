use Rattle.std.proofs.Common.{◌≤◌, ◌-◌, length, drop, ap, sym, arith}
use Rattle.std.proofs.lemmas.List.{length-take, take-take}
use Rattle.lt_rows.proofs.Moving.{held_less, lent_state}
use Rattle.lt_rows.proofs.lines.Lines.lend.Goals as goal

pub returns-clause-lent : goal.returns-clause-lent
returns-clause-lent c =
    let s = c.self.inside in
    let held = ap length (ap (λ l. l.held) c.self.view_is) in
    let some : c.args.count ≤ s.end - s.start = omega (arith, c.requires.some, held, length-take (s.end - s.start) (drop s.start s.piece.items)) in
    lent_state _ _ _ _ c.args.count c.self.view_is (held_less s.start s.end c.args.count s.piece.items some)
    (sym (take-take c.args.count (s.end - s.start) (drop s.start s.piece.items) some))
