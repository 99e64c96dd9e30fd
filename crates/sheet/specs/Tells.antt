-- What is told of a plan handed in with others is what it is told alone: the lines of the program `verdict`, after the plan's number.
use Rattle.std.specs.Prelude.{◌≡◌, List, ◌∷◌, ◌++◌, ℕ, length, take, Ok}
use Rattle.text.specs.declared.Text.{Text}
use Rattle.judge.specs.Verdict.{told}
use Rattle.judge.specs.declared.Finding.{Finding}
use Rattle.report.specs.Tells.{Finds, Tells}
use Rattle.handed.specs.Files.{handed}
use Rattle.place.specs.Place.{Placed}
use Rattle.class.specs.Outcome.{Outcome}
use Rattle.class.specs.Promises.{place_in}
use Rattle.sheet.specs.Said.{said_by, PlaceSays}
use Rattle.sheet.specs.Lines.{plan_line, plan_lines}
use Rattle.sheet.specs.Row.{row_of, row_after_name}

-- "The text is the first `len` bytes."
abbrev pub bytes_in : Text → List ℕ
bytes_in t = take t.len t.bytes

-- One file of a class that was handed in, and a text that the program `verdict` writes to it: the lines of its place are these, whatever the others are.
abbrev pub EachTold : Type 0
EachTold = (before after : List (List ℕ)) (f work work' old new : List ℕ) (n : ℕ) → Outcome (handed (before ++ f ∷ after)) work work' old new (Ok n) → (t : Text) → Tells f t
    → plan_lines (length before) (place_in new (length before)) ≡ plan_line (length before) ++ bytes_in t

-- The proof is `class_tells`.
pub record ClassTells : Type 0 where
  pub says : PlaceSays
  -- a plan's place has all its bytes
  pub whole : (f p : List ℕ) → Placed f p → (text : List ℕ → List ℕ) → said_by text p ≡ text p
  -- after the line `plan I` come the lines that the program `verdict` writes to the file
  pub lines : (f p : List ℕ) → Placed f p → (i : ℕ) (t : Text) → Tells f t → plan_lines i p ≡ plan_line i ++ bytes_in t
  -- and the row is that of the one finding on it
  pub row : (f p : List ℕ) → Placed f p → (found : Finding) → Finds f found → row_after_name p ≡ row_of (told found.judgement) found.run
  pub each : EachTold
