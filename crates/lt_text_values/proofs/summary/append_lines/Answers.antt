use Rattle.std.proofs.Common.{◌++◌, ℕ, List, take, get_or, ap, sym, ◌∙◌, append_assoc, arith}
use Rattle.std.proofs.lemmas.List.{take_all}
use Rattle.lt_base.specs.declared.value.Cell.{Cell}
use Rattle.lt_text_values.specs.OutputLines.{summary_line, summary_lines}
use Rattle.lt_text_values.proofs.OutputLines.{summary_lines-more}
use Rattle.lt_text_values.proofs.summary.append_lines.Goals as goal

pub loop-output-preserved : goal.loop-output-preserved
loop-output-preserved c =
    let name = c.index-names-output.result in
    let cells = c.index-cells-output.result in
    let size = c.requires in
    let before = summary_lines (take c.loop-output.output c.args.names.now) c.args.cells.now in
    c.in_ok-append_line.ensures
    ∙ ap (λ (l : List ℕ). l ++ summary_line name cells) c.loop-output.invariant
    ∙ append_assoc c.args.text.now before (summary_line name cells)
    ∙ ap (λ (l : List ℕ). c.args.text.now ++ l)
    (ap (λ (n : List ℕ). before ++ summary_line n cells) c.index-names-output.is
    ∙ ap (λ (cs : List Cell). before ++ summary_line (get_or c.args.names.now c.loop-output.output name) cs) c.index-cells-output.is
    ∙ sym (summary_lines-more c.args.names.now c.args.cells.now c.loop-output.output name cells (omega arith) (omega (arith, size))))

pub returns : goal.returns
returns c = c.loop-output.invariant ∙ ap (λ names. c.args.text.now ++ summary_lines names c.args.cells.now) (take_all _ _ (omega arith))
