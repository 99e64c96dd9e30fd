-- `summary::leaf` meets its contract.
use Rattle.family.proofs.Words.{none_empty}
use Rattle.summary.proofs.Leaves.{leaf_summary}
use Rattle.summary.proofs.leaf.Goals as goal

pub returns : goal.returns
returns c = rw c.empty.ensures (leaf_summary c.args.set c.args.finishes c.args.fails _ _ _ c.only-finished.ensures c.only-failed.ensures none_empty)
