use Rattle.std.proofs.Common.{◌≡◌, ◌++◌, ◌<◌, ℕ, List, [], take, length, get_or, ap, sym, ◌∙◌, append_assoc, arith, length-set}
use Rattle.std.proofs.lemmas.List.{get_or_default, get_or-set_other}
use Rattle.lt_base.specs.declared.value.Cell.{Cell}
use Rattle.lt_text_values.specs.OutputLines.{output_line, outputs_text}
use Rattle.lt_text_values.proofs.OutputLines.{outputs_text-more}
use Rattle.lt_text_values.proofs.outputs.append_outputs.Goals as goal

pub loop-output-preserved : goal.loop-output-preserved
loop-output-preserved c =
    let names = c.args.names.now in
    let cells = c.args.columns.items in
    let columns = c.loop-output.columns.items in
    let o = c.loop-output.output in
    let name = c.index-names-output.result in
    let column = c.index_mut.result.now in
    let before = outputs_text (take o names) cells in
    let named : o < length names = c.loop-output-test.true in
    let held : o < length cells = omega (arith, named, c.requires) in
    let there : o < length columns = omega (arith, held, c.loop-output.invariant.size) in
    let is : column ≡ get_or cells o [] = c.index_mut.ensures.value ∙ get_or_default columns o column [] there ∙ c.loop-output.invariant.rest o (omega arith) in
    record {
      text =
          c.in_ok-append_column.ensures
          ∙ ap (λ (l : List ℕ). l ++ output_line name column) c.loop-output.invariant.text
          ∙ append_assoc c.args.text.now before (output_line name column)
          ∙ ap (λ (l : List ℕ). c.args.text.now ++ l)
          (ap (λ (n : List ℕ). before ++ output_line n column) c.index-names-output.is
          ∙ ap (λ (cs : List Cell). before ++ output_line (get_or names o name) cs) is
          ∙ sym (outputs_text-more names cells o name [] named held));
      size = length-set columns o c.append_column.new.column ∙ c.loop-output.invariant.size;
      rest = λ i le. get_or-set_other columns o i c.append_column.new.column [] (λ same. omega (arith, same, le)) ∙ c.loop-output.invariant.rest i (omega (arith, le));
    }
