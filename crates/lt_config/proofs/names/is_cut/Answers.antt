use Rattle.std.proofs.Common.{◌<◌, get_or, arith}
use Rattle.std.proofs.lemmas.Str.{IsCharBoundary-after_ascii}
use Rattle.lt_config.proofs.names.is_cut.Goals as goal

pub range_from-to-requires : goal.range_from-to-requires
range_from-to-requires c =
    let here = rw c.as_bytes.ensures.value at c.if-as_bytes-place-ne62.false in
    let low : get_or c.args.name.now c.args.place 0 < 128 = omega (arith, here) in
    λ _. IsCharBoundary-after_ascii c.args.name.now c.args.place c.utf8.name c.requires low
