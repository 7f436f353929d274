use Rattle.lt_answer.specs.Rules.{Shown}
use Rattle.lt_load.specs.Loaded.{program_verdict}
use Rattle.lt_text_answers.specs.declared.refusal.Refusal.TheVariants.{Command}
use Rattle.lt_text_answers.specs.Replies.{checked_text}
use Rattle.lt_cli.proofs.Texts.{is_text_of, text_of_text}
use Rattle.lt_cli.proofs.commands.check.check_alone.Goals as goal

pub returns : goal.returns
returns g c =
    let V = program_verdict ((g.F.Files.state c.args.files.now).named c.args.program.now) in
    text_of_text (λ fault. Command fault) checked_text V _ _ c.check_text.result
    (is_text_of (λ text. text) (Shown checked_text V) _ _ c.load_text-printed.result c.check_text.result c.check_text.ensures c.load_text-printed.ensures)
