-- `sets::fill` meets its contract: the composites passed have their summaries at their places, each part of a node before it.
use mathlib.Core.Path.{◌≡◌, refl}
use native.Mathlib.Omega.{arith}
use Rattle.nodes.specs.Nodes.{count}
use Rattle.plan.proofs.Runnable.{runnable_of}
use Rattle.sets.proofs.Filling.{filling_none, filling_more}
use Rattle.sets.proofs.fill.Goals as goal

pub loop-i-init : goal.loop-i-init
loop-i-init c = filling_none _ _ _ _ refl

pub loop-i-preserved : goal.loop-i-preserved
loop-i-preserved c =
    let p = c.args.process.now in
    filling_more p.types.now p.nodes.now c.args.work.now c.loop-i.i c.loop-i.k _ c.loop-i.places c.loop-i.work _ (omega arith) (omega (arith, (runnable_of p.runnable).nodes_few)) c.loop-i.invariant c.step-k.ensures

pub returns : goal.returns
returns c =
    let f = c.loop-i.invariant in
    let e : c.loop-i.i ≡ count c.args.process.now.nodes.now = omega (arith, f.most) in
    record { long = f.long; holds = λ i h. f.holds i (omega arith); kept = λ k h. f.kept k (rw e h); whole = c.part.ensures }
