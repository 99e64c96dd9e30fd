-- `product::product` meets its contract: the words of b passed are done (`Building`); a word that is 0 needs nothing.
use Rattle.product.proofs.Products.{Building}
use Rattle.product.proofs.product.Given as goal

abbrev pub invariant-loop-i : goal.invariant-loop-i
invariant-loop-i l = Building l.a l.fn.b l.i l.r
