-- `Search::leaf_at` meets its contract: what a type permits, as a kind and as a number.
use Rattle.plan.proofs.Runnable.{runnable_of}
use Rattle.fewest.proofs.Search.leaf_at.Goals as goal

pub leaf_type-kind-requires : goal.leaf_type-kind-requires
leaf_type-kind-requires c = ((runnable_of c.args.self.now.process.runnable).nodes_hold.keep, c.requires.0)
