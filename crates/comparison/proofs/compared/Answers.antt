-- `comparison::compared` meets its contract.
use mathlib.Core.Path.{◌≡◌, refl, sym, ap, ◌∙◌}
use mathlib.Core.Bool.{Bool}
use Prim.Native.Nat.{◌+◌, ◌-◌}
use native.Mathlib.Omega.{arith}
use Rattle.comparison.specs.Data.{after, counted}
use Rattle.comparison.specs.declared.Comparison.{Comparison}
use Rattle.comparison.proofs.Vectors.{too_short, lies, lies_not, whole_says, outcome_there, damaged_there, grows, goes_on, stops, ends, all_compared}
use Rattle.comparison.proofs.compared.Goals as goal

abbrev whole : Comparison → Bool
whole c = c.whole

pub returns-then-not-c : goal.returns-then-not-c
returns-then-not-c c = rw c.if-not-c.true (too_short c.args.group c.args.s.now c.if-not-c.true)

pub vectors-init : goal.vectors-init
vectors-init c =
    let n = c.four_at-end.result in
    let e : n - 0 ≡ n = omega arith in
    record { whole = c.if-not-c.false; agree = omega arith; few = omega arith; same = rw (c.if-not-c.false, e) }

pub returns-in_default : goal.returns-in_default
returns-in_default c =
    let a = c.args in
    let v = c.vectors in
    let d = damaged_there a.group a.s.now v.at v.c (lies_not a.s.now v.at (sym c.body_at.ensures ∙ c.in_default.is)) in
    all_compared a.group a.s.now c.four_at-end.result _ c.if-not-c.false c.four_at-end.ensures
    (v.invariant.same ∙ (stops a.group a.s.now v.at v.c (c.four_at-end.result - v.counter) (omega arith) (ap whole d) ∙ d))

pub slice_bounds-compare-end : goal.slice_bounds-compare-end
slice_bounds-compare-end c =
    let (all, start, end) = lies c.args.s.now c.vectors.at c.in-Some.start c.in-Some.end (sym c.body_at.ensures ∙ c.in-Some.is) in
    omega (arith, (whole_says _ _ all).1, start, end)

pub count-requires : goal.count-requires
count-requires c = (c.vectors.invariant.agree, omega (arith, c.vectors.invariant.few))

pub vectors-preserved : goal.vectors-preserved
vectors-preserved c =
    let a = c.args in
    let v = c.vectors in
    let n = c.four_at-end.result in
    let (all, start, end) = lies a.s.now v.at c.in-Some.start c.in-Some.end (sym c.body_at.ensures ∙ c.in-Some.is) in
    let is : c.count.new.self ≡ after a.group a.s.now v.at v.c = c.count.ensures ∙ ap (counted v.c v.at) (c.compare.ensures ∙ outcome_there a.group a.s.now v.at _ _ all start end) in
    let g = grows v.c v.at c.compare.result v.invariant.agree in
    let k : n - v.counter - 1 ≡ n - (v.counter + 1) = omega arith in
    let on = goes_on a.group a.s.now v.at v.c (n - v.counter) (omega arith) (ap whole (sym is) ∙ c.if-not-c-2.false) in record {
      whole = c.if-not-c-2.false;
      agree = rw c.count.ensures g.agree;
      few = rw c.count.ensures (omega (arith, g.most, v.invariant.few));
      same = v.invariant.same ∙ (on ∙ rw (k, end, is));
    }

pub returns-then-not-c-2 : goal.returns-then-not-c-2
returns-then-not-c-2 c =
    let a = c.args in
    let v = c.vectors in
    let (all, start, end) = lies a.s.now v.at c.in-Some.start c.in-Some.end (sym c.body_at.ensures ∙ c.in-Some.is) in
    let is : c.count.new.self ≡ after a.group a.s.now v.at v.c = c.count.ensures ∙ ap (counted v.c v.at) (c.compare.ensures ∙ outcome_there a.group a.s.now v.at _ _ all start end) in
    all_compared a.group a.s.now c.four_at-end.result _ c.if-not-c.false c.four_at-end.ensures
    (v.invariant.same ∙ (stops a.group a.s.now v.at v.c (c.four_at-end.result - v.counter) (omega arith) (ap whole (sym is) ∙ c.if-not-c-2.true) ∙ sym is))

pub returns : goal.returns
returns c =
    let a = c.args in
    let v = c.vectors in
    all_compared a.group a.s.now c.four_at-end.result _ c.if-not-c.false c.four_at-end.ensures
    (v.invariant.same ∙ ends a.group a.s.now v.at v.c (c.four_at-end.result - v.counter) (omega arith) v.invariant.whole)
