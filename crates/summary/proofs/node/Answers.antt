-- `summary::node` meets its contract: each code's family, since each left code that has a part in it is marked for it.
use Rattle.outcomes.specs.Rows.{cell_in3}
use Rattle.summary.specs.Node.{Under}
use Rattle.summary.proofs.Codes.{each_code}
use Rattle.summary.proofs.Marking.{marks_among}
use Rattle.summary.proofs.node.Goals as goal

pub invariant_of-sides : goal.invariant_of-sides
invariant_of-sides c =
    let a = c.args in
    record { among = marks_among a.table.now a.form _ _ a.a a.b c.marks-marks.result c.live.ensures c.live-2.ensures c.marks-marks.ensures }

pub returns : goal.returns
returns c =
    let a = c.args in
    each_code (λ code u. Under (cell_in3 a.table.now a.form) code a.a a.b u) _
    c.under.ensures
    c.under-2.ensures
    c.under-3.ensures
    c.under-4.ensures
    c.under-5.ensures
    c.under-6.ensures
    c.under-7.ensures
    c.under-8.ensures
    c.under-9.ensures
    c.under-10.ensures
    c.under-11.ensures
