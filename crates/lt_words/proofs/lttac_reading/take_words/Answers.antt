use Rattle.std.proofs.Common.{◌∙◌, map, string_bytes}
use Rattle.clap.specs.Words.{app_of}
use Rattle.lt_words.specs.Lttac.{lttac_app, lttac_said_by, lttac_said_of, HasLttacRanges}
use Rattle.lt_words.proofs.Simple.{lttac_is_plain, met_one, refused_words, told_none, told_some}
use Rattle.lt_words.proofs.lttac_reading.take_words.Goals as goal

pub returns-in-Err : goal.returns-in-Err
returns-in-Err c =
    let h = c.in-Err.ensures in
    let error = c.in-Err.error in
    let words = map string_bytes c.args.words.now in
    told_none lttac_app lttac_is_plain lttac_said_of lttac_said_by HasLttacRanges words c.refuse_words.result error c.refuse_words.ensures.none c.refuse_words.ensures.refused
    (refused_words lttac_app lttac_is_plain (app_of c.args.command) error words c.requires.app h.passes h.kinds)

pub returns-in-Ok : goal.returns-in-Ok
returns-in-Ok c =
    let h = c.in-Ok.ensures in
    let m = c.in-Ok.matches in
    let words = map string_bytes c.args.words.now in
    told_some lttac_app lttac_is_plain lttac_said_of lttac_said_by HasLttacRanges words (app_of c.args.command) m c.found_command.result c.requires.app h.matches h.kinds
    (c.found_command.ensures.variant ∙ met_one lttac_app lttac_is_plain c.args.command m c.requires.app c.requires.local h.parsed)
    c.found_command.ensures.said c.found_command.ensures.ranges
