-- `area::store` meets its contract: the families of the codes passed are written (`Storing`).
use Prim.Native.Nat.{◌*◌}
use Rattle.area.specs.Area.{summary_size}
use Rattle.area.proofs.Areas.{Storing}
use Rattle.area.proofs.store.Given as goal

abbrev pub invariant-loop-k : goal.invariant-loop-k
invariant-loop-k l = Storing l.initial.area (summary_size * l.i) l.s l.k l.area
