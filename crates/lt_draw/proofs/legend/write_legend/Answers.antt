use Rattle.std.proofs.Common.{◌+◌, ◌++◌, ◌∙◌}
use Rattle.lt_draw.specs.declared.legend.Entry.TheVariants.{Executes}
use Rattle.lt_draw.specs.Legend.{entries_from, drawn_legend}
use Rattle.lt_draw.proofs.Further.{entries_on, entries_end}
use Rattle.lt_draw.proofs.legend.write_legend.Goals as goal

pub entries-preserved : goal.entries-preserved
entries-preserved c = entries_on c.columns-beside.result _ c.args.entries.now c.entries.k Executes c.entries.out c.write_entry.new.out _ c.entries-test.true c.entries.invariant c.in_ok-write_entry.ensures

pub returns : goal.returns
unfolding drawn_legend
returns c =
    entries_end c.columns-beside.result (c.bottom-top.result + 46) c.args.entries.now c.entries.k c.entries.out _ c.entries-test.false c.entries.invariant
    ∙ (λ j. c.args.out.now ++ entries_from (c.columns-beside.ensures.value j) (c.bottom-top.ensures.value j + 46) 0 c.args.entries.now)
