-- `product::spreads` meets its contract: after k turns the table is right below 2 ^ k.
use Prim.Native.Nat.{◌^◌}
use Rattle.product.specs.Steps.{Spreads}
use Rattle.product.proofs.spreads.Given as goal

abbrev pub invariant-loop-k : goal.invariant-loop-k
invariant-loop-k l = Spreads l.w (2 ^ l.k) l.s
