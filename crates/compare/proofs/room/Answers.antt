-- `compare::room` meets its contract: so many zeros, by a law of the list and not by counting them.
use mathlib.Core.Path.{refl, sym}
use Prim.Native.Nat.{ℕ}
use lib.ListN.{length-replicate}
use Rattle.compare.proofs.room.Goals as goal

pub returns : goal.returns
returns c = record { long = sym (length-replicate {A = ℕ} 1048576 0); zeros = refl }
