-- The outcome chart as lines: a table for each form, under its name, with a row for each left code and a number for each right code.
use Rattle.std.specs.Prelude.{cond, List, [], ◌∷◌, ◌++◌, ℕ, ◌/◌, ◌%◌, ltb}
use Rattle.text.specs.Decimal.{decimal}
use Rattle.text.specs.Lines.{line, each}
use Rattle.text.specs.Text.{ascii}
use Rattle.outcomes.specs.Cells.{cell}

-- the cell at a place of a form's table, the right code changing fastest, and a blank; at the end of a row a newline
unfoldable pub cell_text : ℕ → ℕ → List ℕ
cell_text form place = decimal (cell form (place / 7) (place % 7)) ++ (cond (ltb (place % 7) 6) 32 10 ∷ [])

-- a form's name and its 49 cells
unfoldable pub table_text : List ℕ → ℕ → List ℕ
table_text name form = line name ++ each (cell_text form) 0 49

-- the tables, with an empty line between two
unfoldable pub chart_lines : List ℕ
chart_lines =
    table_text (ascii "sequence") 3
    ++ (table_text (ascii "\nparallel") 4
    ++ (table_text (ascii "\nchoice") 5
    ++ (table_text (ascii "\ncompensation") 6
    ++ table_text (ascii "\nhandler") 7)))
