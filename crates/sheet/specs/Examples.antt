-- Places, and what is said of them; names, and words that ask for a form. The proof is `examples`.
use Rattle.std.specs.Prelude.{◌≡◌, List, ◌∷◌, ℕ, replicate}
use Rattle.text.specs.Text.{ascii}
use Rattle.sheet.specs.Lines.{plan_lines}
use Rattle.sheet.specs.Row.{row_after_name, clean_name}
use Rattle.sheet.specs.Form.{form_asked}
use Rattle.sheet.specs.declared.form.Form.TheVariants.{Lines, Table, Rows}

-- the set 13, of the actions 0, 2 and 3, and a run of two entries
abbrev pub violated : List ℕ
violated = 1 ∷ 13 ∷ 0 ∷ 2 ∷ 0 ∷ 1 ∷ 12 ∷ 2 ∷ replicate 122 0

-- the set 513, which has two bytes, and no entry
abbrev pub violated_large : List ℕ
violated_large = 1 ∷ 1 ∷ 2 ∷ 0 ∷ replicate 126 0

abbrev pub consistent : List ℕ
consistent = replicate 130 0

abbrev pub refused : List ℕ
refused = 2 ∷ 8 ∷ replicate 128 0

pub record Examples : Type 0 where
  pub violated_lines : plan_lines 3 violated ≡ ascii "plan 3\nviolated 13\n0 1\n12 2\n"
  pub consistent_lines : plan_lines 15 consistent ≡ ascii "plan 15\nconsistent\n"
  pub refused_lines : plan_lines 0 refused ≡ ascii "plan 0\nrefused 8\n"
  pub violated_row : row_after_name violated ≡ ascii "\tviolated\t13\t0:1 12:2\n"
  pub large_row : row_after_name violated_large ≡ ascii "\tviolated\t513\t\n"
  pub consistent_row : row_after_name consistent ≡ ascii "\tconsistent\t\t\n"
  pub refused_row : row_after_name refused ≡ ascii "\trefused\t8\t\n"
  pub name : clean_name (ascii "a\tb\nc d") ≡ ascii "a b c d"
  pub table : form_asked (ascii "--table") ≡ Table
  pub rows : form_asked (ascii "--rows") ≡ Rows
  pub plain : form_asked (ascii "--tables") ≡ Lines
