-- `judge::verdict` meets its contract: each refusal in its order changes nothing, and an accepted file is judged.
use native.Mathlib.Omega.{arith}
use mathlib.Core.Path.{refl, sym}
use lib.ListN.{length}
use Rattle.judge.proofs.Demand3.{short_work, short_record, refused_file}
use Rattle.judge.proofs.verdict.Goals as goal

pub returns-then-work-lt-WORK : goal.returns-then-work-lt-WORK
returns-then-work-lt-WORK c =
    let a = c.args in
    record { answer = sym (short_work a.file.now (length a.work.now) (length a.«record».now) (omega arith)); area_after = refl; record_after = refl }

pub returns-then-record-lt-RECORD : goal.returns-then-record-lt-RECORD
returns-then-record-lt-RECORD c =
    let a = c.args in
    record { answer = sym (short_record a.file.now (length a.work.now) (length a.«record».now) (omega arith) (omega arith)); area_after = refl; record_after = refl }
