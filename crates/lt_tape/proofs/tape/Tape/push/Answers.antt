use Rattle.lt_tape.proofs.Tailing.{on_ok}
use Rattle.lt_tape.proofs.Taping.{tape_push}
use Rattle.lt_tape.proofs.tape.Tape.push.Goals as goal

pub returns : goal.returns
returns c =
    on_ok c.note_latest.result (λ noted. tape_push c.args.self.now c.args.stroke c.take.new.self c.take-2.new.self c.note_latest.new.marks c.in_ok-take.ensures c.in_ok-take-2.ensures.takes c.in_ok-take-2.ensures.most noted) c.note_latest.ensures
