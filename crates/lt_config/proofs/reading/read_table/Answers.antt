use Rattle.std.proofs.Common.{sym, ◌∙◌}
use Rattle.std.proofs.lemmas.Bool.{false≢true}
use Rattle.toml.specs.View.{table_view}
use Rattle.lt_config.proofs.Told.{table_is, no_table, told_fault, told_no_table}
use Rattle.lt_config.proofs.reading.read_table.Goals as goal

pub returns-in-Ok-judge : goal.returns-in-Ok-judge
returns-in-Ok-judge c =
    let (u, e) = c.in-Ok.ensures.ok in
    (table_is c.args.bytes.now (table_view c.in-Ok.table) u e, c.in-Ok-judge.ensures)

pub returns-in-Err-judge : goal.returns-in-Err-judge
returns-in-Err-judge c =
    let (u, e) = c.in-Ok.ensures.ok in
    told_fault c.args.bytes.now (table_view c.in-Ok.table) c.in-Err-judge.e (table_is c.args.bytes.now (table_view c.in-Ok.table) u e) c.in-Err-judge.ensures

pub returns-else-is_memory : goal.returns-else-is_memory
returns-else-is_memory c =
    let h = c.in-Err.ensures.refused in let g = c.is_memory.ensures in let f = c.if-is_memory.false in
    told_no_table c.args.bytes.now c.fault.result (no_table c.args.bytes.now (h (λ k. false≢true (sym f ∙ g.1 k)))) c.fault.ensures
