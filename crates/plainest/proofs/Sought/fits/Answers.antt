-- `Sought::fits` meets its contract: what the search answers below k + 1 is k exactly where the fewest are k.
use Prim.Native.Nat.{◌+◌}
use lib.ListN.{length-set, set}
use Rattle.plainest.specs.Shown.{fewest_left}
use Rattle.fewest.proofs.Asked.{searchable}
use Rattle.plainest.proofs.Asked.{same_test, asked}
use native.Mathlib.Omega.{arith}
use Rattle.plainest.proofs.Sought.fits.Goals as goal

pub returns : goal.returns
returns c =
    let a = c.args in
    let s = a.self.now.search in
    let p = s.process in
    let k = a.self.now.fewest in
    let t = set a.table.now a.n a.o in
    rw (asked p.types.now p.nodes.now s.set (rw a.self.now.all at (searchable s)) (k + 1) t c.fewest.result (omega (arith, a.self.now.some)) (simp length-set c.told-table) c.fewest.ensures) (same_test k (fewest_left p.types.now p.nodes.now s.set t))
