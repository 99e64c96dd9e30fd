-- `product::grow` meets its contract: the words of a passed are done (`Growing`).
use Rattle.product.proofs.Products.{Growing}
use Rattle.product.proofs.grow.Given as goal

abbrev pub invariant-loop-h : goal.invariant-loop-h
invariant-loop-h l = Growing l.a l.w l.i l.initial.r l.h l.r
