-- `handed::count_files` meets its contract. The invariant: the files of the input are n, and then those from the cursor on (`Counting`).
use Prim.Native.Nat.{◌-◌}
use lib.ListN.{length}
use Rattle.handed.proofs.Files.{Counting}
use Rattle.handed.proofs.count_files.Given as goal

abbrev pub invariant-loop-at : goal.invariant-loop-at
invariant-loop-at l = Counting l.input l.at l.n

abbrev pub decreases-loop-at : goal.decreases-loop-at
decreases-loop-at l = length l.input - l.at
