use Rattle.std.proofs.lemmas.Result.{on_ok_weaker}
use Rattle.lt_net.specs.Event.{given_row}
use Rattle.lt_net.proofs.Halting.{on_err_any}
use Rattle.lt_net_lossy.proofs.ActByCode.{can_act, room_now, act_halted, act_taken}
use Rattle.lt_net_lossy.proofs.bench.LossyBench.act.Goals as goal

pub deed-requires-clause-can : goal.deed-requires-clause-can
deed-requires-clause-can g c =
    can_act g.C.Controller g.M.Machine c.args.self.now c.requires.kept c.args.node c.args.at c.requires.node c.requires.time c.requires.passes (given_row c.args.row) c.requires.row _ c.requires.held

pub resend-requires-clause-space : goal.resend-requires-clause-space
resend-requires-clause-space g c =
    room_now g.C.Controller g.M.Machine c.args.self.now c.requires.kept c.args.node c.args.at c.requires.node c.requires.time c.requires.passes (given_row c.args.row) c.requires.row
    c.deed.new.self c.deed.ensures.does c.deed.ensures.fixed c.deed.ensures.watch _ c.requires.held

pub returns-clause-taken : goal.returns-clause-taken
returns-clause-taken g c =
    on_ok_weaker c.resend.result (λ again. act_taken g.C.Controller g.M.Machine c.args.self.now c.requires.kept c.args.node c.args.at c.requires.node c.requires.time c.requires.passes (given_row c.args.row) c.requires.row
    c.deed.new.self c.deed.ensures.does c.deed.ensures.fixed c.deed.ensures.watch c.resend.new.self c.resend.ensures.is _ _ again c.resend.ensures.kept c.resend.ensures.limit) c.resend.ensures.again

pub returns-clause-halted : goal.returns-clause-halted
returns-clause-halted g c =
    on_err_any c.resend.result (act_halted g.C.Controller g.M.Machine c.args.self.now c.requires.kept c.args.node c.args.at c.requires.node c.requires.time c.requires.passes (given_row c.args.row) c.requires.row
    c.deed.new.self c.deed.ensures.does c.deed.ensures.fixed c.deed.ensures.watch c.resend.new.self c.resend.ensures.is)
