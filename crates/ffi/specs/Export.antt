-- The verdict and the call for a whole class, for callers in C: the same contracts, with the answer as one number.
use Rattle.std.specs.Prelude.{◌≡◌, List, ℕ}
use Rattle.judge.specs.Verdict.{Answer, code_of}
use Rattle.judge.specs.Judged.{Judged}
use Rattle.class.specs.Outcome.{Outcome}
use Rattle.class.specs.Outcome as class

pub record Exported (s work work' old new : List ℕ) (r : ℕ) : Type 0 where
  pub judgement : Answer
  pub judged : Judged s work work' old new judgement
  pub is : r ≡ code_of judgement

pub record ExportedClass (s work work' old new : List ℕ) (r : ℕ) : Type 0 where
  pub answer : class.Answer
  pub outcome : Outcome s work work' old new answer
  pub is : r ≡ class.code_of answer
