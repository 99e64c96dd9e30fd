-- `area::store_family` meets its contract: the words passed are written (`Writing`).
use mathlib.Core.Path.{◌≡◌, subst}
use Prim.Native.Nat.{ℕ}
use Rattle.area.proofs.Areas.{Writing, written}
use native.Mathlib.Omega.{arith}
use Rattle.area.proofs.store_family.Goals as goal

pub returns : goal.returns
returns c =
    let l = c.loop-i in
    let a = c.args in
    let e : l.i ≡ 16 = omega arith in
    written a.area.now a.at a.f l.area (omega arith) (subst (λ (i : ℕ). Writing a.area.now a.at a.f i l.area) e l.invariant)
