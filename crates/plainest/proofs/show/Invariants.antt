-- `plainest::show` meets its contract: the entries so far are written, and the table is the one after them.
use mathlib.Core.Path.{◌≡◌}
use lib.ListN.{length}
use Rattle.plainest.proofs.Written.{Written}
use Rattle.plainest.proofs.show.Given as goal

abbrev pub invariant-loop-i : goal.invariant-loop-i
invariant-loop-i l = (length l.table ≡ 63) × Written l.process.types.now l.process.nodes.now l.set l.sought.fewest l.i l.table l.run
