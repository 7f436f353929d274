use Rattle.std.proofs.Common.{◌∙◌, ap}
use Rattle.lt_text_answers.specs.Replies.{checked_text}
use Rattle.lt_text_answers.proofs.replies.setup_check_text.Goals as goal

pub returns-in_ok-text-in-Ok : goal.returns-in_ok-text-in-Ok
returns-in_ok-text-in-Ok c = rw c.in-Ok.is (c.in_ok-text-in-Ok.ensures.text ∙ ap checked_text c.checked.view_is)
