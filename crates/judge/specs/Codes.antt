-- The codes of answers, for callers that have no enum: a code stands for one answer. The proof is `codes_apart`.
use Rattle.std.specs.Prelude.{◌≡◌, List, ℕ}
use Rattle.judge.specs.Verdict.{Answer, code_of}
use Rattle.judge.specs.Judged.{Judged}

-- The verdict on some input.
pub record IsVerdict (v : Answer) : Type 0 where
  pub file : List ℕ
  pub work : List ℕ
  pub after : List ℕ
  pub old : List ℕ
  pub new : List ℕ
  pub judged : Judged file work after old new v

-- Two verdicts with one code are one.
abbrev pub CodesApart : Type 0
CodesApart = (v w : Answer) → IsVerdict v → IsVerdict w → code_of v ≡ code_of w → v ≡ w
