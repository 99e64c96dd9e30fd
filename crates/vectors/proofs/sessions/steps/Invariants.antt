-- `vectors::sessions::steps` meets its contract: the steps passed agree, and left the job.
use Rattle.vectors.proofs.Steps.{Along}
use Rattle.vectors.proofs.sessions.steps.Given as goal

abbrev pub invariant-loop-i : goal.invariant-loop-i
invariant-loop-i l = Along l.s l.at l.n l.fn.job l.job l.i
