use Rattle.std.proofs.Common.{◌<◌, sym, refl, ◌∙◌, arith}
use Rattle.toml.specs.View.{table_view}
use Rattle.lt_config.specs.Keys.{keys}
use Rattle.lt_config.specs.Faults.{is_outside}
use Rattle.lt_config.specs.declared.keys.Key.TheVariants.{Protocol}
use Rattle.lt_config.proofs.Finds.{find-skip}
use Rattle.lt_config.proofs.judge.first_outside.Goals as goal

pub loop-key-preserved : goal.loop-key-preserved
loop-key-preserved c =
    let there : c.loop-key.key-index < 12 = omega (arith, c.loop-key-test.true) in
    (c.loop-key.invariant.0 ∙ find-skip (is_outside (table_view c.args.table.now)) keys c.loop-key.key-index Protocol there (sym c.is_outside.ensures ∙ c.if-is_outside.false), refl)
