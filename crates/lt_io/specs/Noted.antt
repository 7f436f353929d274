-- What a call on files makes of the visits.
use Rattle.std.specs.Prelude.{List}
use Rattle.lt_io.specs.declared.history.Note.{Note}
use Rattle.lt_io.specs.declared.history.Note.TheVariants as note
use Rattle.lt_io.specs.Visits.{Visit, opened, took}

abbrev pub noted : List Visit → Note → List Visit
noted visits (note.Open name) = opened name.now visits
noted visits (note.Read count) = took count visits
