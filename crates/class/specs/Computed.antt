-- The outcome of a call as it is computed, for callers that hold it against bytes of their own.
use Rattle.std.specs.Prelude.{cond, List, ◌++◌, map, ℕ, ◌*◌, ltb, length, drop, Result, Ok, Err}
use Rattle.std.proofs.Math.Option.{Option, none, some}
use Rattle.judge.specs.Verdict.{work_size}
use Rattle.judge.specs.Judged.{cleared_work}
use Rattle.handed.specs.Files.{most_files}
use Rattle.handed.specs.Reading.{files_of}
use Rattle.place.specs.Place.{place_size, place_for, joined}
use Rattle.class.specs.Outcome.{Answer, Outcome}
use Rattle.class.specs.declared.Refusal.{Refusal}
use Rattle.class.specs.declared.Refusal.TheVariants.{WorkArea, Files, AnswerArea}

-- The files whose places are filled, or why the call is refused: the checks in their order.
abbrev pub with_room : ℕ → Option (List (List ℕ)) → Result (List (List ℕ)) Refusal
with_room room none = Err Files
with_room room (some files) = cond (ltb room (place_size * length files)) (Err AnswerArea) (Ok files)

abbrev pub call_of : List ℕ → ℕ → ℕ → Result (List (List ℕ)) Refusal
call_of s work room = cond (ltb work work_size) (Err WorkArea) (with_room room (files_of most_files s))

-- The answer, and the two areas after it.
abbrev pub answer_of : Result (List (List ℕ)) Refusal → Answer
answer_of (Err r) = Err r
answer_of (Ok files) = Ok (length files)

abbrev pub work_of : Result (List (List ℕ)) Refusal → List ℕ → List ℕ
work_of (Err r) work = work
work_of (Ok files) work = cleared_work work

abbrev pub area_of : Result (List (List ℕ)) Refusal → List ℕ → List ℕ
area_of (Err r) old = old
area_of (Ok files) old = joined (map place_for files) ++ drop (place_size * length files) old

-- On every input this is an outcome, so that there is one; by `OneOutcome` there is no other. The proof is `some_outcome`.
abbrev pub SomeOutcome : Type 0
SomeOutcome = (s work old : List ℕ) → Outcome s work (work_of (call_of s (length work) (length old)) work) old (area_of (call_of s (length work) (length old)) old) (answer_of (call_of s (length work) (length old)))
