-- `summary::Summary::live` meets its contract: code after code is marked where it has sets (`LiveBelow`).
use Rattle.summary.proofs.Marking.{LiveBelow}
use Rattle.summary.proofs.Summary.live.Given as goal

abbrev pub invariant-loop-code : goal.invariant-loop-code
invariant-loop-code l = LiveBelow l.self l.code l.m
