-- `sets::step` meets its contract: a leaf is passed over, a composite's summary is stored at its place.
use mathlib.Core.Path.{◌∙◌}
use native.Mathlib.Omega.{arith}
use Rattle.plan.proofs.Runnable.{runnable_of}
use Rattle.sets.proofs.Places.{places_grow, few_places}
use Rattle.sets.proofs.Filling.{stepped_leaf, stepped_node}
use Rattle.sets.proofs.step.Goals as goal

pub returns-then-process-i-lt3 : goal.returns-then-process-i-lt3
returns-then-process-i-lt3 c =
    let p = c.args.process.now in
    stepped_leaf p.types.now p.nodes.now c.args.work.now c.args.i c.args.k c.if-process-i-lt3.true c.requires.1

pub overflow_add-result : goal.overflow_add-result
overflow_add-result c =
    let p = c.args.process.now in
    omega (arith, c.requires.1, places_grow p.nodes.now c.args.i, few_places p.types.now p.nodes.now (runnable_of p.runnable) c.args.i c.requires.0)

pub returns : goal.returns
returns c =
    let p = c.args.process.now in
    let e = c.from.ensures ∙ c.requires.1 in
    rw c.requires.1
    (stepped_node p.types.now p.nodes.now c.args.work.now (runnable_of p.runnable) c.args.i c.requires.0 c.if-process-i-lt3.false c.requires.2 _ c.summary_of-s.result _ c.summary_of-s.ensures
    (rw e at c.store.ensures))
