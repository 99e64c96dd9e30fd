-- `judge::judge_file` meets its contract: the bodies lie inside the file, the plan is judged, the areas are written; `File` joins these.
use mathlib.Core.Path.{sym}
use native.Mathlib.Omega.{arith}
use lib.Seq.{length-take-le}
use Rattle.plan.proofs.Inside.{pairs_inside, rule_inside}
use Rattle.judge.proofs.Areas.{all_zeros}
use Rattle.judge.proofs.File.{judged_file}
use Rattle.judge.proofs.judge_file.Goals as goal

pub part_of-pairs-requires : goal.part_of-pairs-requires
part_of-pairs-requires c = pairs_inside c.args.file.now c.args.l c.requires.0

pub part_of-rule-requires : goal.part_of-rule-requires
part_of-rule-requires c = rule_inside c.args.file.now c.args.l c.requires.0

pub slice_bounds-fill-end-2 : goal.slice_bounds-fill-end-2
slice_bounds-fill-end-2 c = sym (length-take-le 65536 c.judge-judgement.new.work (omega (arith, c.judge-judgement.ensures.long)))

pub copy_from_slice-requires : goal.copy_from_slice-requires
copy_from_slice-requires c = omega (arith, length-take-le 126 c.args.shown.now c.requires.2)

pub returns : goal.returns
returns c =
    let a = c.args in
    let j = c.judge-judgement in
    let zeros = all_zeros 65536 j.new.work c.fill.new.self (omega (arith, j.ensures.long)) (c.fill.ensures.after (λ y k. k)) in
    rw c.copy_from_slice.ensures.after
    (judged_file a.file.now a.l c.requires.0 a.work.now j.new.work a.shown.now _ _ c.requires.1 c.requires.2 zeros _
    (rw (← c.process-process.ensures.types, ← c.process-process.ensures.nodes, ← c.part_of-pairs.ensures, ← c.part_of-rule.ensures) j.ensures))
