-- `product::picked` meets its contract: the words at the bits passed are joined.
use Rattle.product.specs.Steps.{Picked}
use Rattle.product.proofs.picked.Given as goal

abbrev pub invariant-loop-x : goal.invariant-loop-x
invariant-loop-x l = Picked l.u l.s l.x l.r
