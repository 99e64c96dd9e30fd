-- `vectors::sessions::made_up` meets its contract: the steps go to the job made up.
use borrow.Author.Tests.{le-leb}
use Rattle.vectors.specs.Runs.{made_up_outcome}
use Rattle.vectors.proofs.sessions.made_up.Goals as goal

pub returns : goal.returns
unfolding made_up_outcome
returns c = rw (le-leb _ _ c.if-s-lt-STEPS_AT.false, ← c.job_at.ensures) c.continued.ensures
