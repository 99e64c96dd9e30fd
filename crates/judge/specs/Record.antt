-- The record area after a verdict as it is computed, for callers that hold it against bytes of their own.
use Rattle.std.specs.Prelude.{◌≡◌, List, [], ℕ, length, replicate, Result, Ok, Err}
use Rattle.plan.specs.Reading.{bytes_of, read_of}
use Rattle.plan.specs.declared.Layout.{Layout}
use Rattle.plan.specs.declared.Fault.{Fault}
use Rattle.plainest.specs.Shown.{plainest_bytes}
use Rattle.judge.specs.Verdict.{Answer, record_size, verdict_of}
use Rattle.judge.specs.Judged.{with_record, work_after, Judged}
use Rattle.judge.specs.declared.Judgement.TheVariants.{Consistent, Violated}

-- The bytes of the run that is shown beside the set.
abbrev pub shown_on : List ℕ → Result Layout Fault → ℕ → List ℕ
shown_on s (Ok l) set = plainest_bytes (bytes_of s l.types) (bytes_of s l.nodes) set
shown_on s (Err f) set = []

abbrev pub record_for : List ℕ → Answer → List ℕ → List ℕ
record_for s (Ok Consistent) old = with_record (replicate record_size 0) old
record_for s (Ok (Violated set)) old = with_record (shown_on s (read_of s) set) old
record_for s (Err r) old = old

-- It is what the contract of `verdict` says. The proof is `record_is`.
abbrev pub RecordIs : Type 0
RecordIs = (s work work' old new : List ℕ) (v : Answer) → Judged s work work' old new v → new ≡ record_for s v old

-- And on every input it meets that contract, with the answer and the work area that are computed: so some answer does. The proof is `some_answer`.
abbrev pub SomeAnswer : Type 0
SomeAnswer = (s work old : List ℕ) → Judged s work (work_after (verdict_of s (length work) (length old)) work) old (record_for s (verdict_of s (length work) (length old)) old) (verdict_of s (length work) (length old))
