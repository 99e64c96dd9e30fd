-- `rule::satisfying` meets its contract: the places hold stacks from which the bytes that are left give what the whole rule gives.
use Rattle.std.proofs.Common.{arith}
use Rattle.rule.proofs.Scan.{scanned_none, scanned_more, scanned_all}
use Rattle.rule.proofs.satisfying.Goals as goal

pub loop-t-init : goal.loop-t-init
loop-t-init c = λ pairs m. scanned_none c.args.rule.now pairs c.args.w _ c.new-stack.ensures.0

pub loop-t-preserved : goal.loop-t-preserved
loop-t-preserved c = λ pairs m. scanned_more c.args.rule.now pairs c.args.w (c.loop-t.invariant pairs m) (omega arith) m c.step.ensures

pub returns : goal.returns
returns c = λ pairs m. rw c.pop.ensures.value (scanned_all c.args.rule.now pairs c.args.w (c.loop-t.invariant pairs m) (omega arith))
