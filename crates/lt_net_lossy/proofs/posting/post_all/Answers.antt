use Rattle.std.proofs.Common.{◌≡◌, ◌<◌, [], length, ap, ◌∙◌, sym, true, arith, get_or, set}
use Rattle.std.specs.Prelude.{slice_index_or}
use Rattle.std.proofs.lemmas.List.{get_or_default}
use Rattle.lt_link.specs.Ports.{is_from}
use Rattle.lt_net_lossy.proofs.PostLoop.{posts_begin, posts_more}
use Rattle.lt_net_lossy.proofs.posting.post_all.Goals as goal

pub loop-i-init : goal.loop-i-init
loop-i-init c = posts_begin (is_from c.args.channels.now c.args.node true) (length c.args.channels.now) c.outgoing-numbers.result.now c.outgoing-numbers.ensures.are c.args.buffers.now c.args.posted.now.items

pub loop-i-preserved : goal.loop-i-preserved
loop-i-preserved c =
    let x = slice_index_or c.outgoing-numbers.result.now c.loop-i.i 0 in
    let w = c.outgoing-numbers.ensures.within c.loop-i.i c.loop-i-test.true in
    let below : x < length c.args.buffers.now = omega (arith, w, c.requires.buffers) in
    let payload : c.as_slice.result.now ≡ get_or c.args.buffers.now x [] = c.as_slice.ensures ∙ c.index-buffers-c.is ∙ get_or_default c.args.buffers.now x c.index-buffers-c.result [] below in
    posts_more (is_from c.args.channels.now c.args.node true) (length c.args.channels.now) c.outgoing-numbers.result.now c.outgoing-numbers.ensures.are c.args.buffers.now c.args.posted.now.items
    c.loop-i.i c.loop-i-test.true c.loop-i.posted.items _ (sym c.requires.posted) c.loop-i.invariant
    (ap (λ b. set c.loop-i.posted.items x b) (c.replace.ensures ∙ payload))
