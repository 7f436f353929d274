use Rattle.std.proofs.Common.{◌∙◌, ap}
use Rattle.std.specs.Prelude.{option_and_then}
use Rattle.clap.specs.Words.{found_of}
use Rattle.clap.proofs.WalkLemmas.{raw_values-rows}
use Rattle.lt_words.specs.Reading.{both_of}
use Rattle.lt_words.proofs.reading.both_at.Goals as goal

pub returns-in-Some : goal.returns-in-Some
returns-in-Some c = c.both_of.ensures ∙ ap (option_and_then both_of) (c.in-Some.ensures ∙ raw_values-rows (found_of c.args.matches.now) c.args.id.now)

pub returns-in-None : goal.returns-in-None
returns-in-None c = ap (option_and_then both_of) (c.in-None.ensures ∙ raw_values-rows (found_of c.args.matches.now) c.args.id.now)
