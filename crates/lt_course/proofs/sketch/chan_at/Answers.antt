use Rattle.std.proofs.Common.{List, ap, slice_index_or}
use Rattle.lt_arch.specs.declared.chan.Chan.{Chan}
use Rattle.lt_arch.specs.Readers.{chan_of, no_chan}
use Rattle.lt_course.proofs.sketch.chan_at.Goals as goal

pub returns-clause-chan : goal.returns-clause-chan
unfolding chan_of
returns-clause-chan c = ap (λ (xs : List Chan). slice_index_or xs c.args.channel no_chan) c.deref.ensures
