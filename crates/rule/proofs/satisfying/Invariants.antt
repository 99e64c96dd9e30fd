-- `rule::satisfying` meets its contract: the places hold stacks from which the bytes that are left give what the whole rule gives.
use Rattle.std.proofs.Common.{List, ℕ}
use Rattle.undos.specs.Masks.{Masks}
use Rattle.rule.proofs.Scan.{Scanned}
use Rattle.rule.proofs.satisfying.Given as goal

abbrev pub invariant-loop-t : goal.invariant-loop-t
invariant-loop-t l = (pairs : List ℕ) → Masks pairs l.masks → Scanned l.rule pairs l.w l.stack l.t-index
