use Rattle.std.proofs.Common.{◌≡◌, ◌∙◌, ◌<◌, List, length, sym, ap, subst}
use Rattle.std.specs.List.{All}
use Rattle.lt_base.specs.Program.{Function}
use Rattle.lt_base.specs.declared.value.Cell.{Cell}
use Rattle.std.proofs.lemmas.Result.{IfOk-weaker}
use Rattle.lt_base.specs.Main.{HasOutputStreams}
use Rattle.lt_meaning.specs.Streams.{HasStreamsOf}
use Rattle.lt_meaning.proofs.Tables.{of_main, output_streams_of}
use Rattle.lt_meaning.proofs.program.output_streams.Goals as goal

pub chosen_streams-requires-clause-checked : goal.chosen_streams-requires-clause-checked
chosen_streams-requires-clause-checked c = c.requires.checked

pub chosen_streams-requires-clause-fit : goal.chosen_streams-requires-clause-fit
chosen_streams-requires-clause-fit c = c.requires.fit

pub chosen_streams-requires-clause-room : goal.chosen_streams-requires-clause-room
chosen_streams-requires-clause-room c = c.requires.room

pub chosen_streams-requires-clause-variables : goal.chosen_streams-requires-clause-variables
chosen_streams-requires-clause-variables c =
    let f = c.main_function-main.result.now in
    let outs : c.deref.result.now ≡ f.outs = c.deref.ensures ∙ ap (λ (f : Function). f.outs) c.main.view_is in
    of_main c.args.p.now c.deref.result.now f c.main_function-main.ensures (subst (All (λ x. x < length f.decls)) (sym outs) c.invariant_holds.ensures.outs)

pub returns-clause-value : goal.returns-clause-value
returns-clause-value c =
    let p = c.args.p.now in
    let rows = c.args.inputs.now.rows in
    let xs = c.deref.result.now in
    let f = c.main_function-main.result.now in
    let outs : xs ≡ f.outs = c.deref.ensures ∙ ap (λ (f : Function). f.outs) c.main.view_is in
    IfOk-weaker c.chosen_streams.result (λ (s : List (List Cell)). HasStreamsOf p rows xs s) (λ (s : List (List Cell)). HasOutputStreams p rows s)
    (λ s has. output_streams_of p rows xs s f c.main_function-main.ensures outs has) c.chosen_streams.ensures.value
