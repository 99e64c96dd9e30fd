-- The text that a verdict comes to, for every file. `Judged` says what the finding is, and there is one.
use Rattle.std.specs.Prelude.{◌≡◌, List, ◌++◌, ℕ, replicate}
use Rattle.text.specs.Text.{empty, appended, text_of}
use Rattle.text.specs.declared.Text.{Text}
use Rattle.judge.specs.Verdict.{work_size, record_size}
use Rattle.judge.specs.Judged.{Judged}
use Rattle.judge.specs.declared.Finding.{Finding}
use Rattle.text.specs.Lines.{line}
use Rattle.report.specs.Lines.{verdict_lines}

-- The verdict on the file, in areas of zeros.
pub record Finds (s : List ℕ) (f : Finding) : Type 0 where
  pub work : List ℕ
  pub judged : Judged s (replicate work_size 0) work (replicate record_size 0) f.run f.judgement

-- The text is that of the verdict's lines.
pub record Tells (s : List ℕ) (t : Text) : Type 0 where
  pub finding : Finding
  pub finds : Finds s finding
  pub is : t ≡ text_of (verdict_lines finding.judgement finding.run)

-- The same after a name on a line of its own, as far as there is room.
pub record TellsNamed (name s : List ℕ) (t : Text) : Type 0 where
  pub finding : Finding
  pub finds : Finds s finding
  pub is : t ≡ appended empty (line name ++ verdict_lines finding.judgement finding.run)

-- So there is one text for a file, and one for a name and a file. The proofs are `one_text` and `one_named_text`.
abbrev pub OneText : Type 0
OneText = (s : List ℕ) (t t' : Text) → Tells s t → Tells s t' → t ≡ t'

abbrev pub OneNamedText : Type 0
OneNamedText = (name s : List ℕ) (t t' : Text) → TellsNamed name s t → TellsNamed name s t' → t ≡ t'
