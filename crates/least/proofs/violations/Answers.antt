-- `least::violations` meets its contract: nothing of a word without sets, and else its sets without those that satisfy the rule.
use borrow.Author.Rules.{rules}
use Rattle.least.proofs.Scan.{no_violations, taken_out}
use Rattle.least.proofs.violations.Goals as goal

pub returns-then-sets-eq0 : goal.returns-then-sets-eq0
returns-then-sets-eq0 c = λ pairs m.
    let a = c.args in
    no_violations a.rule.now pairs a.w a.sets c.if-sets-eq0.true

pub returns : goal.returns
returns c = λ pairs m.
    let a = c.args in
    taken_out a.rule.now pairs a.w a.sets c.satisfying.result (search rules) (c.satisfying.ensures pairs m)
