-- `product::double` meets its contract: the words passed stand in the upper half too, with action k (`Doubling`).
use Rattle.std.proofs.lemmas.Nat.{one_shl}
use Rattle.product.proofs.Tables.{doubling_none, doubling_more}
use borrow.Author.Rules.{rules}
use native.Mathlib.Omega.{arith}
use Rattle.product.proofs.double.Goals as goal

pub loop-j-init : goal.loop-j-init
loop-j-init c = doubling_none c.args.s.now c.args.k _ (search rules) (omega arith) (one_shl c.args.k 64 (omega arith))

pub loop-j-preserved : goal.loop-j-preserved
loop-j-preserved c =
    let l = c.loop-j in
    doubling_more c.args.s.now c.args.k _ l.j l.s c.with_action.result (omega arith) l.invariant c.with_action.ensures
