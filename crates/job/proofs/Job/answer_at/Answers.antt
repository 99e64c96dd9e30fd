-- `Job::answer_at` meets its contract: the nodes of an accepted file lie inside it.
use mathlib.Core.Path.{sym, ◌∙◌}
use lib.ListN.{take}
use Rattle.plan.proofs.Inside.{nodes_inside}
use Rattle.job.proofs.Job.answer_at.Goals as goal

pub part_of-nodes-requires : goal.part_of-nodes-requires
part_of-nodes-requires c = nodes_inside (take c.args.self.now.file_len c.args.self.now.file) c.in-Ok.layout (sym c.read.ensures ∙ c.in-Ok.is)
