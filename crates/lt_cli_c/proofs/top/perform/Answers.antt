use Rattle.std.proofs.Common.{map}
use Rattle.std.specs.Prelude.{string_bytes}
use Rattle.lt_cli_c.proofs.LttacAsking.{some_asked, none_asked, not_read}
use Rattle.lt_cli_c.proofs.top.perform.Goals as goal

pub returns-in-Ok-Some : goal.returns-in-Ok-Some
returns-in-Ok-Some g c =
    some_asked (map string_bytes c.args.words.now) c.in-Ok-Some.field-0 c.in-Ok-Some.command c.in-Ok-Some.ensures.said c.in-Ok-Some.field-0-is _ _ _ c.obey.ensures

pub returns-in-Ok-None : goal.returns-in-Ok-None
returns-in-Ok-None g c =
    none_asked (map string_bytes c.args.words.now) c.in-Ok-None.field-0 c.in-Ok-None.ensures.said c.in-Ok-None.field-0-is (g.F.Files.state c.args.files.now) _ _ _ _ c.refuse.ensures.written

pub returns-in-Err : goal.returns-in-Err
returns-in-Err g c = not_read (map string_bytes c.args.words.now) (g.F.Files.state c.args.files.now) _ _
