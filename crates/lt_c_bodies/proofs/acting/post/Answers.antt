use Rattle.lt_c_bodies.specs.Acts.{post_of}
use Rattle.lt_c_heads.proofs.Growing.{made_grows}
use Rattle.lt_c_bodies.proofs.acting.post.Goals as goal

pub values-preserved : goal.values-preserved
values-preserved c = made_grows (post_of c.args.j) c.args.posts.now c.values.posts c.push.new.self c.args.values.now c.values.k c.index-values-k.result c.post_of.result c.values-test.true c.index-values-k.is c.values.invariant c.post_of.ensures c.in_ok-push.ensures.ok
