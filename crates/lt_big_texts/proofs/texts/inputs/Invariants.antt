use Rattle.std.proofs.Common.{◌≡◌}
use Rattle.lt_big_texts.specs.Texts.{inputs_text}
use Rattle.lt_big_texts.proofs.texts.inputs.Given as goal

abbrev pub invariant-loop-instant : goal.invariant-loop-instant
invariant-loop-instant l = l.text ≡ inputs_text l.instant
