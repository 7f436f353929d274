use Rattle.std.proofs.Common.{[], ◌∷◌, refl, arith, length-append}
use Rattle.std.proofs.lemmas.List.{length-map}
use Rattle.lt_base.specs.Expression.{shape}
use Rattle.lt_expand.proofs.Turns.{inputs_turn}
use Rattle.lt_expand.proofs.paste.append_inputs.Goals as goal

pub loop-input-preserved : goal.loop-input-preserved
loop-input-preserved c =
    let l = length-append c.loop-input.yielded (c.in-Some.input ∷ []) in
    let k = c.loop-input.invariant.number in
    record {
      number = omega (arith, l, k);
      eqs = inputs_turn c.args.first c.loop-input.number _ _ _ c.loop-input.yielded _ c.in-Some.input c.new.result k c.new.ensures c.loop-input.invariant.eqs c.in_ok-push.ensures.items refl (length-map c.loop-input.yielded shape);
    }
