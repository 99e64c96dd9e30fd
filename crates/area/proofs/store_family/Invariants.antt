-- `area::store_family` meets its contract: the words passed are written (`Writing`).
use Rattle.area.proofs.Areas.{Writing}
use Rattle.area.proofs.store_family.Given as goal

abbrev pub invariant-loop-i : goal.invariant-loop-i
invariant-loop-i l = Writing l.initial.area l.at l.f l.i l.area
