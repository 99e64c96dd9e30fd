-- `summary::Summary::live` meets its contract: code after code is marked where it has sets (`LiveBelow`).
use Rattle.summary.proofs.Marking.{live_more, live_skip}
use native.Mathlib.Omega.{arith}
use Rattle.summary.proofs.Summary.live.Goals as goal

pub loop-code-preserved : goal.loop-code-preserved
loop-code-preserved c =
    let l = c.loop-code in
    elim c.if-not-is_empty.branch [
      | goal.then-not-is_empty w ↦ rw w.m-is (live_more c.args.self l.code l.m l.invariant (omega arith))
      | goal.else-not-is_empty w ↦ rw w.m-is (live_skip c.args.self l.code l.m l.invariant (rw c.family_of.ensures at (c.is_empty.ensures.sound w.if-not-is_empty.false)))
    ]
