use Rattle.std.proofs.Common.{◌≡◌, ◌≤◌, ◌+◌, ◌*◌, length, take}
use Rattle.lt_evaluate.specs.Columns.{HasColumns}
use Rattle.lt_evaluate.proofs.streaming.take_rows.Given as goal

abbrev pub invariant-loop-k : goal.invariant-loop-k
invariant-loop-k g l = record {
  stands : g.M.Machine.stands l.machine l.function (take l.k l.inputs.rows);
  left : length l.inputs.rows ≤ g.M.Machine.left l.machine + l.k;
  values : length l.values.items ≡ l.function.n_in;
  outs : length l.outs.items ≡ length l.function.outs;
  columns : HasColumns l.function (take l.k l.inputs.rows) l.columns.items;
  made : g.M.Machine.made l.machine ≡ l.k;
  size : g.M.Machine.size l.machine ≡ g.M.Machine.size l.fn.machine;
  ticks : l.steps ≤ l.fn.steps + g.M.Machine.size l.fn.machine * l.k;
}
