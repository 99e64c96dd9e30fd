-- What a vector of the group `verdicts` comes to: the number that it expects is held against that of the verdict on its file, with lent
-- areas of the size due or, where it says so, a byte shorter; and where it is that number, the bytes that it expects in the record area, which was
-- lent full of zeros, against those that are there.
use Rattle.std.specs.Prelude.{cond, List, ◌++◌, ℕ, ◌-◌, ◌/◌, ◌%◌, ltb, length, get_or, take, drop, replicate}
use Rattle.judge.specs.Verdict.{Answer, work_size, record_size, verdict_of, code_of}
use Rattle.judge.specs.Record.{record_for}
use Rattle.fields.specs.Number.{four_at}
use Rattle.vectors.specs.Outcome.{answer_held}
use Rattle.vectors.specs.declared.outcome.Outcome.{Outcome}
use Rattle.vectors.specs.declared.outcome.Outcome.TheVariants.{Damaged}

-- bit 0 of `short` for a work area that lacks a byte, bit 1 for a record area that does
abbrev pub work_lent : ℕ → ℕ
work_lent short = work_size - short % 2

abbrev pub record_lent : ℕ → ℕ
record_lent short = record_size - short / 2 % 2

abbrev pub verdict_with : ℕ → List ℕ → Answer
verdict_with short file = verdict_of file (work_lent short) (record_lent short)

-- the 126 bytes of which the record area is all or all but the last
abbrev pub record_with : ℕ → List ℕ → List ℕ
record_with short file = record_for file (verdict_with short file) (take (record_lent short) (replicate record_size 0)) ++ drop (record_lent short) (replicate record_size 0)

-- The body's first four bytes are the number expected, the fifth says which areas are short, the next 126 are the bytes expected in the record area, the others are the file.
abbrev pub verdicts_outcome : List ℕ → Outcome
verdicts_outcome body = cond (ltb (length body) 131) Damaged (answer_held (four_at body 0) (code_of (verdict_with (get_or body 4 0) (drop 131 body))) record_size (record_with (get_or body 4 0) (drop 131 body)) body 5)
