-- A refusal's line has room in a text.
use Rattle.std.proofs.Common.{arith, sym}
use Rattle.text.specs.Lines.{refused}
use Rattle.text.proofs.Ends.{put_alone, numbered_short}
use Rattle.answers.proofs.lines.Goals as goal

pub returns-in-Err : goal.returns-in-Err
returns-in-Err c =
    rw (c.in-Err.is, sym c.from.ensures) (put_alone _ c.put_numbered.ensures c.new-t.ensures (omega (arith, numbered_short refused c.from.result (omega arith))))
