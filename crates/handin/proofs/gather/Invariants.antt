-- The files so far end inside their area.
use Rattle.std.proofs.Common.{◌≤◌, length}
use Rattle.handin.proofs.gather.Given as goal

abbrev pub invariant-loop-i : goal.invariant-loop-i
invariant-loop-i l = l.len ≤ length l.files
