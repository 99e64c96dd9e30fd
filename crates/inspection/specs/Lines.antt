-- The line that is written of a plan file that is read and not judged, as bytes.
use Rattle.std.specs.Prelude.{List, ℕ, Result, Ok, Err}
use Rattle.text.specs.Lines.{line, numbered, refused}
use Rattle.text.specs.Text.{ascii}
use Rattle.plan.specs.Fault.{number}
use Rattle.plan.specs.declared.Fault.{Fault}
use Rattle.plan.specs.declared.Layout.{Layout}

abbrev pub accepted : List ℕ
accepted = ascii "accepted"

abbrev pub inspect_line : Result Layout Fault → List ℕ
inspect_line (Ok l) = line accepted
inspect_line (Err f) = numbered refused (number f)
