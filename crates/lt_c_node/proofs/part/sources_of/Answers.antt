use Rattle.lt_place.specs.declared.layout.Feed.TheVariants.{Input}
use Rattle.lt_c_node.specs.NodeOf.{source_of}
use Rattle.lt_c_heads.proofs.Growing.{made_there}
use Rattle.lt_c_node.proofs.part.sources_of.Goals as goal

pub source_of-requires-clause-feed : goal.source_of-requires-clause-feed
source_of-requires-clause-feed c = c.requires.feeds c.feeds.x (Input 0) c.feeds-test.true

pub feeds-preserved : goal.feeds-preserved
feeds-preserved c = made_there (source_of c.args.layout.now) c.feeds.all c.push.new.self c.args.feeds.now c.feeds.x (Input 0) c.source_of.result c.feeds-test.true c.feeds.invariant c.source_of.ensures c.in_ok-push.ensures.ok
