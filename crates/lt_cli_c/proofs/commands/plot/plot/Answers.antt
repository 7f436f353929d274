use Rattle.lt_watch.specs.Blamed.{watch_blame}
use Rattle.lt_text_answers.specs.Replies.{watch_refusal}
use Rattle.lt_cli.proofs.Texts.{answer_text, watch_raise}
use Rattle.lt_cli_c.proofs.commands.plot.plot.Goals as goal

pub returns : goal.returns
returns g c = (answer_text watch_refusal watch_blame watch_raise (λ text. text) _ _ _ c.plot-picture.result c.observed_text.result c.observed_text.ensures c.plot-picture.ensures).answered
