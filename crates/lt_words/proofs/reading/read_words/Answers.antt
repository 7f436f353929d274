use Rattle.std.proofs.Common.{map, string_bytes}
use Rattle.lt_words.specs.Commands.{program_app}
use Rattle.lt_words.specs.Reading.{said, said_of}
use Rattle.lt_words.specs.Ranges.{HasRanges}
use Rattle.lt_words.proofs.Telling.{is_said, is_refused, in_ranges}
use Rattle.lt_words.proofs.reading.read_words.Goals as goal

pub returns-clause-said : goal.returns-clause-said
returns-clause-said c = is_said program_app said_of said HasRanges (map string_bytes c.args.words.now) c.read.result c.read.ensures

pub returns-clause-ranges : goal.returns-clause-ranges
returns-clause-ranges c = in_ranges program_app said_of said HasRanges (map string_bytes c.args.words.now) c.read.result c.read.ensures

pub returns-clause-refused : goal.returns-clause-refused
returns-clause-refused c = is_refused program_app said_of said HasRanges (map string_bytes c.args.words.now) c.read.result c.read.ensures
