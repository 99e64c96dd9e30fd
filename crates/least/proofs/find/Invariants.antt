-- `least::find` meets its contract: the sets of the words passed satisfy the rule.
use Rattle.std.proofs.Common.{◌*◌}
use Rattle.undos.specs.Masks.{Masks}
use Rattle.least.proofs.Scan.{Passed}
use Rattle.least.proofs.find.Given as goal

abbrev pub invariant-loop-w : goal.invariant-loop-w
invariant-loop-w l = Masks l.pairs l.masks × Passed l.rule l.pairs l.f (l.w * 64)
