use Rattle.lt_answer.specs.World.{world}
use Rattle.lt_text_answers.specs.declared.refusal.Refusal.TheVariants.{Command}
use Rattle.lt_text_answers.specs.Replies.{summarized_text}
use Rattle.lt_cli.proofs.Texts.{is_text_of, opens_shown}
use Rattle.lt_cli.proofs.commands.big.big.Goals as goal

pub returns-clause-answers : goal.returns-clause-answers
returns-clause-answers g c = λ files.
    is_text_of (summarized_text c.args.instants) _ (world files (g.W.Fabric.state c.args.fabric.now)) (world files (g.W.Fabric.state c.big-found.new.fabric)) c.big-found.result c.big_text.result c.big_text.ensures (c.big-found.ensures.answered files)

pub returns-clause-opens : goal.returns-clause-opens
returns-clause-opens g c = opens_shown (λ fault. Command fault) (summarized_text c.args.instants) _ _ c.big-found.result c.big_text.result c.big_text.ensures c.big-found.ensures.opens
