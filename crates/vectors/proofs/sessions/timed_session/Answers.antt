-- `vectors::sessions::timed_session` meets its contract: the plan file and the window file are what their lengths say.
use mathlib.Core.Path.{◌≡◌, ◌∙◌}
use Prim.Native.Nat.{◌+◌}
use borrow.Author.Tests.{le-leb}
use Rattle.blocks.specs.Block.{le16}
use Rattle.vectors.specs.Runs.{timed_outcome}
use Rattle.vectors.proofs.Rest.{span}
use Rattle.vectors.proofs.sessions.timed_session.Goals as goal

pub returns : goal.returns
unfolding timed_outcome
returns c =
    let s = c.args.s.now in
    let m = c.from-middle.result in
    let n : m ≡ le16 s 1 = c.from-middle.ensures ∙ c.two_at.ensures in
    let k : c.from.result ≡ le16 s 3 = c.from.ensures ∙ c.two_at-2.ensures in
    rw (← n, ← k, le-leb _ _ c.if-s-end.false, ← span 5 m s, ← span (5 + m) c.from.result s, ← c.start_timed.ensures) c.started.ensures
