-- What a search keeps: a plan, and a set of its first so many actions.
use Rattle.plan.proofs.Runnable.{runnable_of}
use Rattle.fewest.specs.declared.Search.{Search}
use Rattle.fewest.specs.Leaving.{Searchable}

pub searchable : (s : Search) → Searchable s.actions s.process.types.now s.process.nodes.now s.set
searchable s = record { plan = runnable_of s.process.runnable; few = s.few; within = s.within }
