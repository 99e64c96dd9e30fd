-- `product::product` meets its contract: the words of b passed are done (`Building`); a word that is 0 needs nothing.
use mathlib.Core.Path.{◌≡◌, subst}
use Prim.Native.Nat.{ℕ}
use Rattle.product.proofs.Products.{Building, building_none, building_more, building_skip, built, product_none, product_unit_left, product_unit_right}
use native.Mathlib.Omega.{arith}
use Rattle.product.proofs.product.Goals as goal

pub returns-then-is_empty : goal.returns-then-is_empty
returns-then-is_empty c = product_none c.args.a c.args.b c.empty-r.result c.empty-r.ensures (c.is_empty.ensures.sound c.if-is_empty.true)

pub returns-then-is_unit : goal.returns-then-is_unit
returns-then-is_unit c = product_unit_left c.args.a c.args.b (c.is_unit.ensures.sound c.if-is_unit.true)

pub returns-then-is_unit-2 : goal.returns-then-is_unit-2
returns-then-is_unit-2 c = product_unit_right c.args.a c.args.b (c.is_unit-2.ensures.sound c.if-is_unit-2.true)

pub loop-i-init : goal.loop-i-init
loop-i-init c = building_none c.args.a c.args.b c.empty-r.result c.empty-r.ensures

pub loop-i-preserved : goal.loop-i-preserved
loop-i-preserved c =
    let l = c.loop-i in
    let a = c.args in
    elim c.if-w-ne0.branch [
      | goal.then-w-ne0 w ↦ rw w.r-is (building_more a.a a.b l.i l.r l.invariant w.grow.new.r w.grow.ensures)
      | goal.else-w-ne0 w ↦ rw w.r-is (building_skip a.a a.b l.i l.r l.invariant w.if-w-ne0.false)
    ]

pub returns : goal.returns
returns c =
    let l = c.loop-i in
    let a = c.args in
    let e : l.i ≡ 16 = omega arith in
    built a.a a.b l.r (omega arith) (subst (λ (i : ℕ). Building a.a a.b i l.r) e l.invariant)
