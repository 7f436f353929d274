use Rattle.std.proofs.Common.{◌≡◌, ◌∙◌, ap, get_or, set}
use Rattle.lt_place.proofs.Numbering.{skipped_is, not_picked, pushed_is}
use Rattle.lt_place.proofs.members.add.Goals as goal
use Rattle.lt_place.proofs.members.add.Goals.{then-node-n+then-picked-x+in_ok-push, else-node-n, else-node-n-via-then-node-n+else-picked-x, else-node-n-via-else-node-n}

pub loop-x-preserved : goal.loop-x-preserved
loop-x-preserved c = elim c.if-node-n.branch [
  | then-node-n+then-picked-x+in_ok-push w ↦
      pushed_is c.args.nodes.now c.args.picked.now c.args.n c.args.members.now.items c.args.own.now.items c.requires.picked c.requires.others c.loop-x.x c.loop-x-test.true c.loop-x.members.items c.loop-x.own.items c.loop-x.invariant w.if-node-n.true w.if-picked-x.true c.if-node-n.members.items c.if-node-n.own.items
      (ap (λ v. v.items) w.members-is ∙ w.in_ok-push.ensures.items)
      (ap (λ v. v.items) w.own-is ∙ ap (λ n. set c.loop-x.own.items c.loop-x.x n) (w.len.ensures ∙ c.loop-x.members.ok.0))
  | else-node-n w ↦
      skipped_is c.args.nodes.now c.args.picked.now c.args.n c.args.members.now.items c.args.own.now.items c.requires.picked c.requires.others c.loop-x.x c.loop-x-test.true c.loop-x.members.items c.loop-x.own.items c.loop-x.invariant
      (elim w.else-node-n.branch [
        | else-node-n-via-then-node-n+else-picked-x w' ↦ λ e t. not_picked c.args.nodes.now c.args.picked.now c.args.n c.args.members.now.items c.args.own.now.items c.requires.picked c.requires.others c.loop-x.x c.loop-x-test.true c.loop-x.members.items c.loop-x.own.items c.loop-x.invariant (get_or c.args.nodes.now c.loop-x.x 0 ≡ c.args.n) w'.if-picked-x.false e t
        | else-node-n-via-else-node-n w' ↦ λ e t. w'.if-node-n.false e
      ])
      c.if-node-n.members.items c.if-node-n.own.items (ap (λ v. v.items) w.members-is) (ap (λ v. v.items) w.own-is)
]
