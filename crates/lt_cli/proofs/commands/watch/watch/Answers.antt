use Rattle.lt_watch.specs.Blamed.{watch_blame}
use Rattle.lt_text_answers.specs.Texts.{watched_text}
use Rattle.lt_text_answers.specs.Replies.{watch_refusal}
use Rattle.lt_cli.proofs.Texts.{answer_text, opens_shown, watch_raise}
use Rattle.lt_cli.proofs.commands.watch.watch.Goals as goal

pub returns-clause-answers : goal.returns-clause-answers
returns-clause-answers g c = answer_text watch_refusal watch_blame watch_raise watched_text _ _ _ c.watch-watched.result c.watch_text.result c.watch_text.ensures c.watch-watched.ensures.answered

pub returns-clause-opens : goal.returns-clause-opens
returns-clause-opens g c = opens_shown watch_refusal watched_text _ _ c.watch-watched.result c.watch_text.result c.watch_text.ensures c.watch-watched.ensures.opens
