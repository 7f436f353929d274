use Rattle.std.proofs.Common.{◌<◌, sym, ap, refl, ◌∙◌, arith}
use Rattle.std.specs.Str.{bytes_eq}
use Rattle.lt_config.specs.Keys.{keys, key_text}
use Rattle.lt_config.specs.declared.keys.Key.TheVariants.{Protocol}
use Rattle.lt_config.proofs.Finds.{any-skip}
use Rattle.lt_config.proofs.names.is_key.Goals as goal

pub loop-key-preserved : goal.loop-key-preserved
loop-key-preserved c =
    let name = c.args.name.now in
    let there : c.loop-key.key-index < 12 = omega (arith, c.loop-key-test.true) in (
      c.loop-key.invariant.0 ∙ any-skip (λ k. bytes_eq name (key_text k)) keys c.loop-key.key-index Protocol there (sym (c.eq.ensures ∙ ap (bytes_eq name) c.key_text.ensures) ∙ c.if-eq.false),
      refl,
    )
