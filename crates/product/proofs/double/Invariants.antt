-- `product::double` meets its contract: the words passed stand in the upper half too, with action k (`Doubling`).
use Rattle.product.proofs.Tables.{Doubling}
use Rattle.product.proofs.double.Given as goal

abbrev pub invariant-loop-j : goal.invariant-loop-j
invariant-loop-j l = Doubling l.initial.s l.k l.n l.j l.s
