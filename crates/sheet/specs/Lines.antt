-- The lines of a plan's place among others: its number, from 0, and then the lines of its verdict.
use Rattle.std.specs.Prelude.{List, ◌++◌, ℕ}
use Rattle.text.specs.Text.{ascii}
use Rattle.text.specs.Lines.{numbered}
use Rattle.report.specs.Lines.{told_lines}
use Rattle.sheet.specs.Said.{judgement_in, run_in}

abbrev pub plan_line : ℕ → List ℕ
plan_line i = numbered (ascii "plan") i

abbrev pub plan_lines : ℕ → List ℕ → List ℕ
plan_lines i p = plan_line i ++ told_lines (judgement_in p) (run_in p)
