use Rattle.std.proofs.Common.{arith, refl}
use Rattle.lt_base.proofs.Columns.{filling_starts, filling_goes_on, filling_fails, filling_ends}
use Rattle.lt_base.proofs.inputs.put_row.Goals as goal

pub loop-input-init : goal.loop-input-init
loop-input-init c = filling_starts _ _ _ c.requires.filled

pub loop-input-preserved : goal.loop-input-preserved
loop-input-preserved c =
    filling_goes_on _ _ _ _ _ c.index_mut.result.now _ _ _ c.loop-input.invariant (omega (arith, c.requires.width, c.loop-input.invariant.width)) (omega arith) c.index_mut.ensures.value refl c.in_ok-put.ensures.ok

pub returns-in_err-put-clause-filled : goal.returns-in_err-put-clause-filled
returns-in_err-put-clause-filled c =
    (filling_fails _ _ _ _ _ c.index_mut.result.now _ c.loop-input.invariant (omega (arith, c.requires.width, c.loop-input.invariant.width)) c.index_mut.ensures.value c.in_err-put.ensures.err).0

pub returns-in_err-put-clause-kept : goal.returns-in_err-put-clause-kept
returns-in_err-put-clause-kept c =
    (filling_fails _ _ _ _ _ c.index_mut.result.now _ c.loop-input.invariant (omega (arith, c.requires.width, c.loop-input.invariant.width)) c.index_mut.ensures.value c.in_err-put.ensures.err).1

pub returns-clause-more : goal.returns-clause-more
returns-clause-more c = (filling_ends _ _ _ _ _ c.loop-input.invariant (omega arith) c.requires.width).0

pub returns-clause-row : goal.returns-clause-row
returns-clause-row c = (filling_ends _ _ _ _ _ c.loop-input.invariant (omega arith) c.requires.width).1
