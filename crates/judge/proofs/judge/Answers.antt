-- `judge::judge` meets its contract: the summaries are put into the work area, up to that of the whole process, and the smallest set that
-- breaks the rule is sought among its final ones. `Judging` has what follows, for each answer.
use mathlib.Core.Path.{refl}
use Rattle.std.specs.Prelude.{Some, None}
use Rattle.plan.proofs.Runnable.{runnable_of}
use Rattle.judge.proofs.Plain.{left_small}
use Rattle.judge.proofs.Judging.{found_left, judged_plan}
use Rattle.judge.proofs.judge.Goals as goal

pub show-requires : goal.show-requires
show-requires c =
    let a = c.args in
    let r = runnable_of a.process.now.runnable in
    let left = found_left a.process.now.types.now a.pairs.now a.process.now.nodes.now a.rule.now a.work.now _ r _ c.fill-root.ensures _ c.finals.ensures
    _ _ refl c.in-Some.ensures in
    (left_small a.process.now.types.now a.process.now.nodes.now r _ left, left)

pub returns-in-None : goal.returns-in-None
returns-in-None c =
    let a = c.args in
    judged_plan a.process.now.types.now a.pairs.now a.process.now.nodes.now a.rule.now a.work.now _ (runnable_of a.process.now.runnable) _ c.fill-root.ensures _ c.finals.ensures
    _ None _ refl c.in-None.ensures refl

pub returns-in-Some : goal.returns-in-Some
returns-in-Some c =
    let a = c.args in
    let r = runnable_of a.process.now.runnable in
    let left = found_left a.process.now.types.now a.pairs.now a.process.now.nodes.now a.rule.now a.work.now _ r _ c.fill-root.ensures _ c.finals.ensures
    _ _ refl c.in-Some.ensures in
    judged_plan a.process.now.types.now a.pairs.now a.process.now.nodes.now a.rule.now a.work.now _ r _ c.fill-root.ensures _ c.finals.ensures
    _ (Some _) _ refl c.in-Some.ensures (record { left = left; shown = c.show.ensures })
