-- The tables, one after the other, have room in a text.
use Rattle.std.proofs.Common.{arith}
use Rattle.chart.specs.Lines.{chart_lines}
use Rattle.chart.proofs.Texts.{chart_room, five}
use Rattle.chart.proofs.lines.Goals as goal

pub returns : goal.returns
unfolding chart_lines
returns c =
    rw (c.put_table-5.ensures, c.put_table-4.ensures, c.put_table-3.ensures, c.put_table-2.ensures, c.put_table.ensures, c.new-t.ensures)
    (five _ _ _ _ _ (omega (arith, chart_room)))
