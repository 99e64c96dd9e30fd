-- `class::fill_all` meets its contract. The invariant: the files before the cursor have their places, and the work area is cleared where a verdict has cleared it (`Sofar`).
use mathlib.Core.Path.{◌≡◌}
use Prim.Native.Nat.{◌-◌}
use lib.ListN.{length}
use Rattle.place.specs.Work.{work_left}
use Rattle.class.proofs.Filling.{Sofar}
use Rattle.class.proofs.fill_all.Given as goal

abbrev pub invariant-loop-at : goal.invariant-loop-at
invariant-loop-at l = (l.work ≡ work_left l.cleared l.initial.work) × Sofar l.input l.initial.answers l.at l.to l.answers

abbrev pub decreases-loop-at : goal.decreases-loop-at
decreases-loop-at l = length l.input - l.at
