use Rattle.std.proofs.Common.{◌∙◌, ap}
use Rattle.std.specs.Option.{is_some}
use Rattle.lt_place.specs.Seats.{at_name}
use Rattle.lt_place.proofs.Assigned.{out_here, in_more}
use Rattle.lt_place.proofs.assign.first_out.Goals as goal

pub returns-then-not-contains_key : goal.returns-then-not-contains_key
returns-then-not-contains_key c = λ n.
    out_here c.args.known.now n c.args.names.now c.loop-name.name-index c.name-item.result c.contains_key.result (c.loop-name.invariant n) c.loop-name-test.true c.name-item.is (c.contains_key.ensures ∙ ap (λ n. is_some (at_name c.args.known.now n)) c.as_str.ensures) c.if-not-contains_key.true

pub loop-name-preserved : goal.loop-name-preserved
loop-name-preserved c = λ n.
    in_more c.args.known.now n c.args.names.now c.loop-name.name-index c.name-item.result c.contains_key.result (c.loop-name.invariant n) c.loop-name-test.true c.name-item.is (c.contains_key.ensures ∙ ap (λ n. is_some (at_name c.args.known.now n)) c.as_str.ensures) c.if-not-contains_key.false
