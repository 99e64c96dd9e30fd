-- The examples, computed.
use mathlib.Core.Path.{refl}
use Rattle.text.specs.Decimal.{digits}
use Rattle.judge.specs.Shown.{shown_entries}
use Rattle.report.specs.Lines.{entry_lines}
use Rattle.sheet.specs.Row.{cells}
use Rattle.sheet.specs.Examples.{Examples}

pub examples : Examples
unfolding digits shown_entries entry_lines cells
examples = record {
  violated_lines = refl;
  consistent_lines = refl;
  refused_lines = refl;
  violated_row = refl;
  large_row = refl;
  consistent_row = refl;
  refused_row = refl;
  name = refl;
  table = refl;
  rows = refl;
  plain = refl;
}
