-- `rule::rule_ok` meets its contract: what is left of the rule, from the values so far, is what the whole rule is from none.
use Rattle.std.proofs.Common.{arith, sym, ◌∙◌}
use borrow.Author.Tests.{le-leb, lt-leb}
use Rattle.bodies.proofs.Scan.{rule_step, rule_end}
use Rattle.bodies.proofs.rule.rule_ok.Goals as goal

pub returns-in_default : goal.returns-in_default
returns-in_default c =
    let l = c.loop-t in
    sym (l.invariant.1 ∙ (rw (sym c.taken_by.ensures ∙ c.in_default.is) at (rule_step c.args.actions l.depth c.args.b.now l.t-index (omega arith))))

pub returns-then-depth-k : goal.returns-then-depth-k
returns-then-depth-k c =
    let l = c.loop-t in
    sym (l.invariant.1 ∙ (rw (sym c.taken_by.ensures ∙ c.in-Some.is, lt-leb _ _ c.if-depth-k.true) at (rule_step c.args.actions l.depth c.args.b.now l.t-index (omega arith))))

pub loop-t-preserved : goal.loop-t-preserved
loop-t-preserved c =
    let l = c.loop-t in
    (omega arith, l.invariant.1 ∙ (rw (sym c.taken_by.ensures ∙ c.in-Some.is, le-leb _ _ c.if-depth-k.false) at (rule_step c.args.actions l.depth c.args.b.now l.t-index (omega arith))))

pub returns : goal.returns
returns c =
    let l = c.loop-t in
    sym (l.invariant.1 ∙ rule_end c.args.actions l.depth c.args.b.now l.t-index (omega arith))
