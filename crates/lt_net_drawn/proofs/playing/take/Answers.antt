use Rattle.lt_net_replay.specs.Playing.{rules_for}
use Rattle.lt_net_drawn.proofs.Takes.{no_row, no_offence}
use Rattle.lt_net_drawn.proofs.playing.take.Goals as goal

pub unreachable-requires : goal.unreachable-requires
unreachable-requires g c = no_row (rules_for c.args.playback.now) c.requires.free.0 c.args.e c.in-Err-Row.field-0 c.in-Err-Row.field-0-0 c.in-Err-Row.field-0-is (c.in-Err-Row.ensures.takes c.requires.free.0 c.requires.free.1)

pub unreachable-requires-in-Err-Offence : goal.unreachable-requires-in-Err-Offence
unreachable-requires-in-Err-Offence g c =
    no_offence (rules_for c.args.playback.now) c.requires.free.0 c.args.e c.in-Err-Offence.field-0 c.in-Err-Offence.field-0-0 c.in-Err-Offence.field-0-is c.requires.free.2 (c.in-Err-Offence.ensures.takes c.requires.free.0 c.requires.free.1)
