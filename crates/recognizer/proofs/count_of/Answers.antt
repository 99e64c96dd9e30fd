-- `recognizer::count_of` meets its contract.
use mathlib.Core.Path.{◌∙◌}
use Rattle.recognizer.proofs.Along as along
use Rattle.recognizer.proofs.count_of.Goals as goal

pub loop-pass-init : goal.loop-pass-init
loop-pass-init c = along.start _

pub returns-in-Wrong : goal.returns-in-Wrong
returns-in-Wrong c = c.ended.ensures ∙ along.ends_here c.loop-pass.invariant c.next_token-next.ensures c.in-Wrong.is

pub returns-in_err-pass-in_default : goal.returns-in_err-pass-in_default
returns-in_err-pass-in_default c =
    let d = c.in_default in
    c.from_residual.ensures ∙ along.stops_here c.loop-pass.invariant c.next_token-next.ensures d.not-Wrong d.not-End c.step.ensures c.in_err-pass-in_default.was

pub loop-pass-smaller : goal.loop-pass-smaller
loop-pass-smaller c = along.less_left c.loop-pass.invariant c.next_token-next.ensures c.in_default.not-Wrong c.in_default.not-End

pub loop-pass-preserved : goal.loop-pass-preserved
loop-pass-preserved c =
    let d = c.in_default in
    along.goes_on c.loop-pass.invariant c.next_token-next.ensures d.not-Wrong d.not-End c.step.ensures c.in_ok-pass-in_default.was
