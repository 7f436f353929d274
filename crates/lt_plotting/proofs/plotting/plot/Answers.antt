use Rattle.std.proofs.Common.{◌≡◌, ◌∙◌, ℕ, List, Some, None, ap, subst}
use Rattle.lt_answer.proofs.Stages.{runs_short_by}
use Rattle.lt_answer.specs.Alone.{given_word}
use Rattle.lt_plotting.specs.Plotted.{wish_of}
use Rattle.lt_plotting.specs.Stage.{PlotsWish}
use Rattle.lt_plotting.specs.Words.{given_words, plot_title}
use Rattle.lt_plotting.proofs.plotting.plot.Goals as goal

pub returns-in_err-title : goal.returns-in_err-title
returns-in_err-title g c = runs_short_by _ _ c.from_residual.ensures.1

pub returns-in-Some : goal.returns-in-Some
returns-in-Some g c =
    let p = c.args.program.now in
    let i = c.args.inputs.now in
    let schedule = c.in-Some.schedule.now in
    let config = c.in-Some.config.now in
    let title : c.in_ok-title.title ≡ plot_title p i (Some (schedule, config)) = c.in_ok-title.ensures ∙ ap (λ words. plot_title p i (given_words words)) c.in-Some.is in
    rw c.in-Some.is
    (subst (λ (t : List ℕ). PlotsWish p i (Some config) (wish_of (Some schedule) (given_word c.args.observer) t c.args.view) (g.F.Files.state c.args.files.now) (g.F.Files.state c.plot_wish.new.files) c.plot_wish.result) title c.plot_wish.ensures)

pub returns-in-None : goal.returns-in-None
returns-in-None g c =
    let p = c.args.program.now in
    let i = c.args.inputs.now in
    let title : c.in_ok-title.title ≡ plot_title p i None = c.in_ok-title.ensures ∙ ap (λ words. plot_title p i (given_words words)) c.in-None.is in
    rw c.in-None.is
    (subst (λ (t : List ℕ). PlotsWish p i None (wish_of None (given_word c.args.observer) t c.args.view) (g.F.Files.state c.args.files.now) (g.F.Files.state c.plot_wish-in-None.new.files) c.plot_wish-in-None.result) title c.plot_wish-in-None.ensures)
