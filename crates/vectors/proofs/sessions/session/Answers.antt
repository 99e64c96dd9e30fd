-- `vectors::sessions::session` meets its contract: the plan file is what its length says.
use mathlib.Core.Path.{◌≡◌, ◌∙◌}
use borrow.Author.Tests.{le-leb}
use Rattle.blocks.specs.Block.{le16}
use Rattle.vectors.specs.Runs.{session_outcome}
use Rattle.vectors.proofs.Rest.{span}
use Rattle.vectors.proofs.sessions.session.Goals as goal

pub returns : goal.returns
unfolding session_outcome
returns c =
    let s = c.args.s.now in
    let n : c.from-end.result ≡ le16 s 1 = c.from-end.ensures ∙ c.two_at.ensures in
    rw (← n, le-leb _ _ c.if-s-end.false, ← span 3 c.from-end.result s, ← c.start.ensures) c.started.ensures
