-- `Costs::add_sum` meets its contract.
use Prim.Native.Nat.{◌+◌, ◌-◌, min}
use mathlib.Core.Path.{◌≡◌}
use lib.ListN.{get_or}
use borrow.Author.Tests.{lt-ltb, ne_eqb}
use native.Mathlib.Omega.{arith}
use Rattle.fewest.specs.Costs.{with_sum}
use Rattle.fewest.proofs.Costs.add_sum.Goals as goal

pub returns-then-digit-ne0 : goal.returns-then-digit-ne0
unfolding with_sum
returns-then-digit-ne0 c =
    let d = c.args.digit in
    let e : c.min.result ≡ min (c.args.left + c.args.right) (get_or c.args.self.now.by (d - 1) 0) = rw (← c.from-at.ensures) (omega arith) in
    rw (ne_eqb d 0 c.if-digit-ne0.true, lt-ltb (d - 1) 15 (omega (arith, c.requires)), c.from-at.ensures, e)

pub returns-else-digit-ne0 : goal.returns-else-digit-ne0
unfolding with_sum
returns-else-digit-ne0 c = rw c.if-digit-ne0.false
