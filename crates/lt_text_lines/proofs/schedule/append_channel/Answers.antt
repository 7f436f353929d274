use Rattle.std.proofs.Common.{List, ◌≤◌, length, subst}
use Rattle.lt_arch.specs.declared.chan.Chan.{Chan}
use Rattle.lt_text_lines.proofs.Unnamed.{no_channel}
use Rattle.lt_text_lines.proofs.schedule.append_channel.Goals as goal

pub returns-in-None : goal.returns-in-None
returns-in-None c = no_channel _ c.args.shape.now c.args.channel (subst (λ (xs : List Chan). length xs ≤ c.args.channel) c.deref.ensures c.in-None.ensures.lookup.3)
