-- What `verdict` makes of its answer and of the two lent areas, on every input. Nothing is left free (`OneAnswer`).
use Rattle.std.specs.Prelude.{◌≡◌, List, ◌++◌, ℕ, length, drop, replicate, Ok, Err}
use Rattle.plan.specs.Reading.{read_of}
use Rattle.plan.specs.declared.Layout.{Layout}
use Rattle.judge.specs.Verdict.{Answer, work_size, record_size, verdict_of}
use Rattle.judge.specs.Shown.{ShowsRun}
use Rattle.judge.specs.declared.Judgement.TheVariants.{Consistent, Violated}

-- "After a verdict the first 65,536 work bytes are 0. .. Later bytes are untouched."
abbrev pub cleared_work : List ℕ → List ℕ
cleared_work work = replicate work_size 0 ++ drop work_size work

-- The first 126 bytes of the record area are these; later bytes are untouched.
abbrev pub with_record : List ℕ → List ℕ → List ℕ
with_record bytes old = bytes ++ drop record_size old

-- "The first 126 record bytes hold the run, then zeros".
pub record Recorded (s : List ℕ) (set : ℕ) (old new : List ℕ) : Type 0 where
  pub layout : Layout
  pub accepted : read_of s ≡ Ok layout
  pub bytes : List ℕ
  pub shows : ShowsRun s layout set bytes
  pub is : new ≡ with_record bytes old

-- The record area after an answer. "A refusal gives its number only; lent bytes and job are unchanged." "All zeros if consistent."
abbrev pub RecordAfter : List ℕ → Answer → List ℕ → List ℕ → Type 0
RecordAfter s (Ok Consistent) old new = new ≡ with_record (replicate record_size 0) old
RecordAfter s (Ok (Violated set)) old new = Recorded s set old new
RecordAfter s (Err r) old new = new ≡ old

-- The work area after an answer.
abbrev pub work_after : Answer → List ℕ → List ℕ
work_after (Ok j) work = cleared_work work
work_after (Err r) work = work

pub record Judged (s work work' old new : List ℕ) (v : Answer) : Type 0 where
  pub answer : v ≡ verdict_of s (length work) (length old)
  pub area_after : work' ≡ work_after v work
  pub record_after : RecordAfter s v old new

-- On one input there is one answer, and one thing that it leaves in each area. The proof is `one_answer`.
pub record Same (v v' : Answer) (work work' shown shown' : List ℕ) : Type 0 where
  pub answers : v ≡ v'
  pub works : work ≡ work'
  pub records : shown ≡ shown'

abbrev pub OneAnswer : Type 0
OneAnswer = (s work work' work'' old new new' : List ℕ) (v v' : Answer) → Judged s work work' old new v → Judged s work work'' old new' v' → Same v v' work' work'' new new'
