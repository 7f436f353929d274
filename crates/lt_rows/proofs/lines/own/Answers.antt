use Rattle.std.proofs.Common.{◌≤◌, arith}
use Rattle.lt_rows.proofs.Moving.{owned_front}
use Rattle.lt_rows.proofs.lines.own.Goals as goal

pub returns-then-lent-clause-owned : goal.returns-then-lent-clause-owned
returns-then-lent-clause-owned c =
    let line = c.args.line.now in
    let most : c.args.count ≤ line.len = omega (arith, c.requires.line, line.ok.0) in
    rw c.if-lent.true (owned_front c.copy_from_slice.new.self _ _ c.args.piece.now line.len c.args.from c.args.count c.copy_from_slice.ensures.after (c.requires.piece c.if-lent.true) most)
