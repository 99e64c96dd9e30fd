-- The form in which the plans of a class are told, by a program's first argument: `--table`, `--rows`, or any other, which asks for lines.
use Rattle.std.specs.Prelude.{cond, List, ℕ, bytes_eq}
use Rattle.text.specs.Text.{ascii}
use Rattle.sheet.specs.declared.form.Form.{Form}
use Rattle.sheet.specs.declared.form.Form.TheVariants.{Lines, Table, Rows}

abbrev pub form_asked : List ℕ → Form
form_asked word = cond (bytes_eq word (ascii "--table")) Table (cond (bytes_eq word (ascii "--rows")) Rows Lines)

-- The files stand after the word that asks for a form.
abbrev pub first_file : Form → ℕ
first_file Lines = 1
first_file Table = 2
first_file Rows = 2
