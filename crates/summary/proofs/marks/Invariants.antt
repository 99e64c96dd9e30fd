-- `summary::marks` meets its contract: the left codes passed are marked (`Marks`).
use Rattle.summary.specs.Marks.{Marks}
use Rattle.summary.proofs.marks.Given as goal

abbrev pub invariant-loop-left : goal.invariant-loop-left
invariant-loop-left l = Marks l.table l.form l.lefts l.rights l.left l.m
