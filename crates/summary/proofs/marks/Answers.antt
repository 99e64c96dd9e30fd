-- `summary::marks` meets its contract: the left codes passed are marked (`Marks`).
use Rattle.summary.proofs.Marking.{marks_more, marks_skip}
use Rattle.summary.proofs.marks.Goals as goal

pub loop-left-preserved : goal.loop-left-preserved
loop-left-preserved c =
    let l = c.loop-left in
    let a = c.args in
    elim c.if-lefts-left-eq1.branch [
      | goal.then-lefts-left-eq1 w ↦ rw w.m-is (marks_more a.table.now a.form a.lefts a.rights l.left w.row_in.result l.m w.mark.new.marks (λ on. w.row_in.ensures) l.invariant w.mark.ensures)
      | goal.else-lefts-left-eq1 w ↦ rw w.m-is (marks_skip a.table.now a.form a.lefts a.rights l.left l.m w.if-lefts-left-eq1.false l.invariant)
    ]
