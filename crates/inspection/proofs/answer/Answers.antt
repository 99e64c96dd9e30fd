-- `inspection::answer` meets its contract: the line of each reading has room in a text.
use native.Mathlib.Omega.{arith}
use Rattle.text.specs.Lines.{refused}
use Rattle.text.proofs.Ends.{numbered_short, put_alone}
use Rattle.inspection.proofs.answer.Goals as goal

pub returns-in-Ok : goal.returns-in-Ok
returns-in-Ok c = rw (← c.in-Ok.ensures) (put_alone _ c.put_line.ensures c.new-line.ensures (omega arith))

pub returns-in-Err : goal.returns-in-Err
returns-in-Err c =
    rw (← c.in-Err.ensures, ← c.number.ensures, ← c.from.ensures)
    (put_alone _ c.put_numbered.ensures c.new-line.ensures (omega (arith, numbered_short refused c.from.result (omega arith))))
