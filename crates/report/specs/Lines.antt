-- The lines of a verdict, as bytes, in document 01's words.
use Rattle.std.specs.Prelude.{List, [], ◌∷◌, ◌++◌, ℕ, Result, Ok, Err}
use Rattle.text.specs.Decimal.{decimal}
use Rattle.text.specs.Lines.{line, numbered, refused}
use Rattle.text.specs.Text.{ascii}
use Rattle.state.specs.declared.Entry.{Entry}
use Rattle.judge.specs.Verdict.{Answer, told}
use Rattle.judge.specs.Shown.{shown_entries}
use Rattle.judge.specs.declared.Judgement.{Judgement}
use Rattle.judge.specs.declared.Judgement.TheVariants.{Consistent, Violated}

abbrev pub consistent : List ℕ
consistent = ascii "consistent"

abbrev pub violated : List ℕ
violated = ascii "violated"

-- "leaf and outcome"
abbrev pub entry_line : Entry → List ℕ
entry_line e = numbered (decimal e.leaf) e.outcome

-- A line for each entry of the run that is shown.
unfoldable pub entry_lines : List Entry → List ℕ
entry_lines [] = []
entry_lines (e ∷ es) = entry_line e ++ entry_lines es

abbrev pub run_lines : List ℕ → List ℕ
run_lines bytes = entry_lines (shown_entries bytes)

-- The verdict program "writes four lines, `violated 2`, `0 2`, `1 1`, `3 1`: the set, then leaf and outcome. Otherwise it writes the one line
-- `consistent`, or `refused` and the number."
abbrev pub told_lines : Result Judgement ℕ → List ℕ → List ℕ
told_lines (Ok Consistent) bytes = line consistent
told_lines (Ok (Violated set)) bytes = numbered violated set ++ run_lines bytes
told_lines (Err n) bytes = numbered refused n

abbrev pub verdict_lines : Answer → List ℕ → List ℕ
verdict_lines v bytes = told_lines (told v) bytes
