-- `reply::line_of` meets its contract: each line has room in a text.
use mathlib.Core.List.{[]}
use Rattle.std.proofs.Common.{Err}
use Rattle.text.proofs.Ends.{put_alone}
use Rattle.reply.specs.Line.{line_with}
use Rattle.reply.proofs.Lines.{line_put, line_short}
use Rattle.reply.proofs.line_of.Goals as goal

pub returns-in-Ok : goal.returns-in-Ok
returns-in-Ok c = line_put c.args.turned c.in-Ok.is c.new-line.ensures c.put_items.ensures c.push.ensures

pub returns-in-Err : goal.returns-in-Err
returns-in-Err c =
    rw (c.in-Err.is)
    (put_alone (line_with [] (Err c.in-Err.why)) (rw (c.from.ensures, c.number.ensures) at c.put_numbered.ensures) c.new-line.ensures (line_short [] (Err c.in-Err.why)))
