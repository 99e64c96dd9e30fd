-- `sets::fill` meets its contract: the composites passed have their summaries at their places, each part of a node before it.
use Rattle.sets.proofs.Filling.{Filling}
use Rattle.sets.proofs.fill.Given as goal

abbrev pub invariant-loop-i : goal.invariant-loop-i
invariant-loop-i l = Filling l.process.types.now l.process.nodes.now l.initial.work l.i l.k l.places l.work
