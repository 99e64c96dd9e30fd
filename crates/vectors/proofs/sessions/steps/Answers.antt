-- `vectors::sessions::steps` meets its contract: those passed are all, or all before the first that does not agree.
use mathlib.Core.Path.{sym, ◌∙◌}
use native.Mathlib.Omega.{arith}
use Rattle.vectors.proofs.Steps.{along_none, along_more, along_stop, along_all}
use Rattle.vectors.proofs.sessions.steps.Goals as goal

pub loop-i-init : goal.loop-i-init
loop-i-init c = let a = c.args in along_none a.s.now a.at a.n a.job

pub loop-i-preserved : goal.loop-i-preserved
loop-i-preserved c =
    let a = c.args in
    along_more a.s.now a.at a.n a.job c.loop-i.job c.in-Some.next c.loop-i.i (omega arith) (sym c.step.ensures ∙ c.in-Some.is) c.loop-i.invariant

pub returns-in_default : goal.returns-in_default
returns-in_default c =
    let a = c.args in
    (along_stop a.s.now a.at a.n a.job c.loop-i.job c.loop-i.i (omega arith) (sym c.step.ensures ∙ c.in_default.is) c.loop-i.invariant, omega arith)

pub returns : goal.returns
returns c = let a = c.args in (along_all a.s.now a.at a.n a.job c.loop-i.job c.loop-i.i (omega arith) c.loop-i.invariant, omega arith)
