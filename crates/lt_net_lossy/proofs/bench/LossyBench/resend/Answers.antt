use Rattle.std.proofs.Common.{sym, ◌∙◌, true}
use Rattle.lt_net.proofs.ExecuteByCode.{err_is}
use Rattle.lt_net_lossy.proofs.SentTwice.{ports_here, behind_here, space_first, space_second, behind_then, again_here}
use Rattle.lt_net_lossy.proofs.bench.LossyBench.resend.Goals as goal

pub send_number-requires-clause-ports : goal.send_number-requires-clause-ports
send_number-requires-clause-ports g c =
    ports_here _ _ _ _ _ _ c.args.self.now c.bench.view_is c.self.view_is c.requires.kept c.args.node c.requires.node _ c.deref-channels.ensures

pub send_number-requires-clause-space : goal.send_number-requires-clause-space
send_number-requires-clause-space g c =
    space_first _ _ _ _ _ _ c.args.self.now c.bench.view_is c.self.view_is c.requires.kept c.args.node c.requires.node _ c.deref-channels.ensures _ _ c.index-sent.ensures c.index-executed.ensures c.requires.space

pub returns-in_err-send_number-clause-prompt : goal.returns-in_err-send_number-clause-prompt
returns-in_err-send_number-clause-prompt g c = λ quick e.
    behind_here _ _ _ _ _ _ c.args.self.now c.bench.view_is c.self.view_is c.requires.kept c.args.node c.requires.node _ c.deref-channels.ensures true (g.W.Fabric.state c.args.fabric.now) (c.in_err-send_number.ensures.prompt quick (sym (err_is _ _ c.from_residual.ensures.1) ∙ e))

pub send_number-requires-2-clause-ports : goal.send_number-requires-2-clause-ports
send_number-requires-2-clause-ports g c =
    ports_here _ _ _ _ _ _ c.args.self.now c.bench.view_is c.self.view_is c.requires.kept c.args.node c.requires.node _ c.deref-channels.ensures

pub send_number-requires-2-clause-space : goal.send_number-requires-2-clause-space
send_number-requires-2-clause-space g c =
    space_second _ _ _ _ _ _ c.args.self.now c.bench.view_is c.self.view_is c.requires.kept c.args.node c.requires.node _ c.deref-channels.ensures _ _ c.index-sent.ensures c.index-executed.ensures _ c.deref.ensures.value c.args.at _ _ c.send_number.new.watch c.in_ok-send_number.ensures.sent c.requires.space

pub returns-in_err-send_number-2-clause-prompt : goal.returns-in_err-send_number-2-clause-prompt
returns-in_err-send_number-2-clause-prompt g c = λ quick e.
    behind_then _ _ _ _ _ _ c.args.self.now c.bench.view_is c.self.view_is c.requires.kept c.args.node c.requires.node _ c.deref-channels.ensures _ _ c.index-sent.ensures c.index-executed.ensures _ c.deref.ensures.value c.args.at (g.W.Fabric.state c.args.fabric.now) (g.W.Fabric.state c.send_number.new.fabric) c.send_number.new.watch c.in_ok-send_number.ensures.sent
    (c.in_err-send_number-2.ensures.prompt (c.send_number.ensures.keeps.prompt quick) (sym (err_is _ _ c.from_residual-in_err-send_number-2.ensures.1) ∙ e))

pub returns-clause-again : goal.returns-clause-again
returns-clause-again g c =
    again_here _ _ _ _ _ _ c.args.self.now c.bench.view_is c.self.view_is c.requires.kept c.args.node c.requires.node _ c.deref-channels.ensures _ _ c.index-sent.ensures c.index-executed.ensures _ c.deref.ensures.value c.args.at _ _ c.send_number.new.watch c.in_ok-send_number.ensures.sent _ c.deref-2.ensures.value _ c.send_number-2.new.watch c.in_ok-send_number-2.ensures.sent c.acted.new.self c.acted.ensures.times
