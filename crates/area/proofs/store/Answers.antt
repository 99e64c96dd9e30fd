-- `area::store` meets its contract: the families of the codes passed are written (`Storing`).
use mathlib.Core.Path.{◌≡◌, sym, subst}
use mathlib.Core.Bool.{true≢false}
use Prim.Native.Nat.{ℕ, ◌*◌}
use Rattle.area.specs.Area.{summary_size}
use Rattle.area.proofs.Areas.{room, Storing, storing_more, stored}
use native.Mathlib.Omega.{arith}
use Rattle.area.proofs.store.Goals as goal

pub loop-k-preserved : goal.loop-k-preserved
loop-k-preserved c =
    let l = c.loop-k in
    let a = c.args in
    storing_more a.area.now (summary_size * a.i) a.s l.k l.area _ (omega arith) l.invariant (rw c.family_of.ensures at c.store_family.ensures)

pub returns : goal.returns
returns c =
    let l = c.loop-k in
    let a = c.args in
    let e : l.k ≡ 11 = omega arith in
    let p = subst (λ (k : ℕ). Storing a.area.now (summary_size * a.i) a.s k l.area) e l.invariant in
    record { room = sym (room a.area.now a.i c.if-area-i.false); stored = λ e. stored a.area.now (summary_size * a.i) a.s l.area p; unchanged = λ e. absurd (true≢false e) }
