-- `entries::soonest` meets its contract: the minute so far is that of the entries passed. It fits, since an entry adds at most a week and
-- the minute of the week at which its window opens.
use Rattle.std.proofs.Common.{◌≡◌, ◌*◌, ◌≤◌}
use Rattle.hours.specs.Kept.{soonest}
use Rattle.hours.proofs.entries.soonest.Given as goal

abbrev pub invariant-loop-i : goal.invariant-loop-i
invariant-loop-i l = (l.t ≤ 80000 * l.i) × (l.t ≡ soonest l.w l.nodes l.entries l.i)
