use Rattle.std.proofs.Common.{map, string_bytes}
use Rattle.lt_words.specs.Lttac.{lttac_app, lttac_said, lttac_said_of, HasLttacRanges}
use Rattle.lt_words.proofs.Telling.{is_said, is_refused, in_ranges}
use Rattle.lt_words.proofs.lttac_reading.read_lttac_words.Goals as goal

pub returns-clause-said : goal.returns-clause-said
returns-clause-said c = is_said lttac_app lttac_said_of lttac_said HasLttacRanges (map string_bytes c.args.words.now) c.read.result c.read.ensures

pub returns-clause-refused : goal.returns-clause-refused
returns-clause-refused c = is_refused lttac_app lttac_said_of lttac_said HasLttacRanges (map string_bytes c.args.words.now) c.read.result c.read.ensures

pub returns-clause-ranges : goal.returns-clause-ranges
returns-clause-ranges c = in_ranges lttac_app lttac_said_of lttac_said HasLttacRanges (map string_bytes c.args.words.now) c.read.result c.read.ensures
