use Rattle.std.proofs.Common.{◌<◌, sym, refl, ap, drop, ◌+◌, ◌∙◌, arith}
use Rattle.toml.specs.View.{table_view}
use Rattle.lt_config.specs.Keys.{tables}
use Rattle.lt_config.specs.Faults.{first_stray, or_else}
use Rattle.lt_config.specs.declared.keys.Key.TheVariants.{Protocol}
use Rattle.lt_config.proofs.Strays.{stray-step}
use Rattle.lt_config.proofs.names.first_stray.Goals as goal

pub returns-in-Some : goal.returns-in-Some
returns-in-Some c =
    let t = table_view c.args.table.now in let i = c.loop-key.key-index in
    let there : i < 4 = omega (arith, c.loop-key-test.true) in
    let rest = first_stray t (drop (i + 1) tables) in
    sym (c.loop-key.invariant.0 ∙ stray-step t tables i Protocol there ∙ ap (λ o. or_else o rest) (sym c.in-Some.ensures))

pub loop-key-preserved : goal.loop-key-preserved
loop-key-preserved c =
    let t = table_view c.args.table.now in let i = c.loop-key.key-index in
    let there : i < 4 = omega (arith, c.loop-key-test.true) in
    let rest = first_stray t (drop (i + 1) tables) in
    (c.loop-key.invariant.0 ∙ stray-step t tables i Protocol there ∙ ap (λ o. or_else o rest) (sym c.in_default.ensures), refl)
