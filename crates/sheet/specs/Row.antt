-- A table for a spreadsheet, with a row for each plan: its name, the verdict, the number of the set or of the refusal, and the run that is shown,
-- leaf and outcome of each entry. A tab (9) stands between two columns, and a newline (10) after the last.
use Rattle.std.specs.Prelude.{cond, List, [], ◌∷◌, ◌++◌, map, ℕ, ◌+◌, eqb, Result, Ok, Err}
use Rattle.text.specs.Decimal.{decimal}
use Rattle.text.specs.Lines.{line, refused}
use Rattle.text.specs.Text.{ascii}
use Rattle.state.specs.declared.Entry.{Entry}
use Rattle.judge.specs.Shown.{shown_entries}
use Rattle.judge.specs.declared.Judgement.{Judgement}
use Rattle.judge.specs.declared.Judgement.TheVariants.{Consistent, Violated}
use Rattle.report.specs.Lines.{consistent, violated}
use Rattle.sheet.specs.Said.{judgement_in, run_in}

abbrev pub heading_line : List ℕ
heading_line = ascii "name\tverdict\tnumber\trun\n"

abbrev pub word : Result Judgement ℕ → List ℕ
word (Ok Consistent) = consistent
word (Ok (Violated set)) = violated
word (Err n) = refused

-- Empty where there is none.
abbrev pub number : Result Judgement ℕ → List ℕ
number (Ok Consistent) = []
number (Ok (Violated set)) = decimal set
number (Err n) = decimal n

-- `leaf:outcome`, and a blank (32) before each but the first.
abbrev pub gap : ℕ → List ℕ
gap i = cond (eqb i 0) [] (32 ∷ [])

abbrev pub cell : ℕ → ℕ → ℕ → List ℕ
cell i leaf outcome = gap i ++ (decimal leaf ++ (58 ∷ decimal outcome))

unfoldable pub cells : ℕ → List Entry → List ℕ
cells i [] = []
cells i (e ∷ es) = cell i e.leaf e.outcome ++ cells (i + 1) es

abbrev pub entries : Result Judgement ℕ → List ℕ → List ℕ
entries (Ok Consistent) run = []
entries (Ok (Violated set)) run = cells 0 (shown_entries run)
entries (Err n) run = []

-- A word and a number with a tab after it; the word has its own tabs.
abbrev pub columns : List ℕ → ℕ → List ℕ
columns word n = word ++ (decimal n ++ (9 ∷ []))

-- What stands after the name, by the verdict and the record bytes, and by a place.
abbrev pub row_of : Result Judgement ℕ → List ℕ → List ℕ
row_of v run = 9 ∷ (word v ++ (9 ∷ (number v ++ (9 ∷ line (entries v run)))))

abbrev pub row_after_name : List ℕ → List ℕ
row_after_name p = row_of (judgement_in p) (run_in p)

-- A name goes out as it came in, but for tabs and newlines, which would begin another column or row: they become blanks.
abbrev pub clean_byte : ℕ → ℕ
clean_byte b = cond (eqb b 9) 32 (cond (eqb b 10) 32 b)

abbrev pub clean_name : List ℕ → List ℕ
clean_name name = map clean_byte name
