-- `product::grow` meets its contract: the words of a passed are done (`Growing`).
use mathlib.Core.Path.{◌≡◌, subst}
use Prim.Native.Nat.{ℕ, ◌<◌}
use lib.Bits.{bit_or, or_lt}
use Rattle.product.proofs.Products.{Growing, growing_skip, growing_more, grown}
use borrow.Author.Rules.{rules}
use native.Mathlib.Omega.{arith}
use Rattle.product.proofs.grow.Goals as goal

below : (h i : ℕ) → h < 16 → i < 16 → bit_or h i < 16
below h i l m = or_lt 4 h i l m

pub bounds-r-h : goal.bounds-r-h
bounds-r-h c = below c.loop-h.h c.args.i (omega arith) (omega arith)

pub bounds-r-h-then-a-h-ne0 : goal.bounds-r-h-then-a-h-ne0
bounds-r-h-then-a-h-ne0 c = below c.loop-h.h c.args.i (omega arith) (omega arith)

pub loop-h-preserved : goal.loop-h-preserved
loop-h-preserved c =
    let l = c.loop-h in
    let t = c.spreads-s in
    let a = c.args in
    elim c.if-a-h-ne0.branch [
      | goal.then-a-h-ne0 w ↦ rw w.r-is (growing_more a.a a.w a.i a.r.now l.h l.r l.invariant t.result w.picked.result (omega arith) (search rules) t.ensures w.picked.ensures)
      | goal.else-a-h-ne0 w ↦ rw w.r-is (growing_skip a.a a.w a.i a.r.now l.h l.r l.invariant w.if-a-h-ne0.false)
    ]

pub returns : goal.returns
returns c =
    let l = c.loop-h in
    let a = c.args in
    let e : l.h ≡ 16 = omega arith in
    grown a.a a.w a.i a.r.now l.r (omega arith) (subst (λ (h : ℕ). Growing a.a a.w a.i a.r.now h l.r) e l.invariant)
