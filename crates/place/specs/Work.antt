-- The work area after the verdicts of a class: cleared where one of them has cleared it.
use Rattle.std.specs.Prelude.{Bool, true, false, List, ℕ, is_ok}
use Rattle.judge.specs.Verdict.{Answer}
use Rattle.judge.specs.Judged.{cleared_work}

-- Whether a verdict has cleared the work area, and what it is then.
abbrev pub clears_work : Answer → Bool
clears_work v = is_ok v

abbrev pub work_left : Bool → List ℕ → List ℕ
work_left true work = cleared_work work
work_left false work = work
