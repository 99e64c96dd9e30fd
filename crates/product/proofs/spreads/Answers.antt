-- `product::spreads` meets its contract: after k turns the table is right below 2 ^ k.
use lib.Pow.{pow_mono}
use Rattle.product.proofs.Tables.{spreads_doubled}
use native.Mathlib.Omega.{arith}
use Rattle.product.proofs.spreads.Goals as goal

pub loop-k-preserved : goal.loop-k-preserved
loop-k-preserved c =
    let l = c.loop-k in
    spreads_doubled c.args.w l.k l.s c.double.new.s (pow_mono {i = l.k} {j = 6} (omega arith)) l.invariant c.double.ensures
