use Rattle.std.proofs.Common.{◌≡◌, map, take, length}
use Rattle.lt_base.specs.Meaning.{entry}
use Rattle.lt_meaning.specs.Form.{node_form, value_in}
use Rattle.lt_meaning.proofs.state.fill.Given as goal

abbrev pub invariant-loop-i : goal.invariant-loop-i
invariant-loop-i l = record {
  size : length l.to.items ≡ length l.fn.to.items;
  filled : take l.i l.to.items ≡ map (value_in (entry l.cells) (entry l.kept)) (map node_form (take l.i l.args.items));
}
