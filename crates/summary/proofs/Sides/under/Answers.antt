-- `summary::Sides::under` meets its contract: the left codes passed are joined in (`Joining`), those that are not marked having no part in it.
use mathlib.Core.Path.{◌≡◌, subst}
use Prim.Native.Nat.{ℕ, suc, ◌+◌}
use Rattle.outcomes.specs.Rows.{cell_in3}
use Rattle.summary.proofs.Rows.{gathered_by_row}
use Rattle.summary.proofs.Unions.{left_added, left_passed, Joining, joining_more, joined_all, joined_none}
use native.Mathlib.Omega.{arith}
use Rattle.summary.proofs.Sides.under.Goals as goal

pub returns-then-lefts-eq0 : goal.returns-then-lefts-eq0
returns-then-lefts-eq0 c =
    let s = c.args.self.now in
    let e : suc c.args.code ≡ c.from.result + 1 = omega (arith, c.from.ensures) in
    let among = rw e at (s.among c.args.code c.requires) in
    joined_none (cell_in3 s.table.now s.form) c.args.code s.a s.b c.empty-u.result c.empty-u.ensures (rw c.if-lefts-eq0.true at among)

pub loop-left-preserved : goal.loop-left-preserved
loop-left-preserved c =
    let l = c.loop-left in
    let s = c.args.self.now in
    let code = c.args.code in
    let cells = cell_in3 s.table.now s.form in
    let e : suc code ≡ c.from.result + 1 = omega (arith, c.from.ensures) in
    let among = rw e at (s.among code c.requires) in
    elim c.if-lefts-left-eq1.branch [
      | goal.then-lefts-left-eq1 w ↦
          let row = gathered_by_row s.table.now s.form l.left w.row_in.result code s.b w.gather-beside.result w.row_in.ensures w.gather-beside.ensures in
          let added = left_added cells code s.a s.b l.left l.u w.gather-beside.result w.product.result w.add.new.to row (rw w.family_of.ensures at w.product.ensures) w.add.ensures in
          rw w.u-is (joining_more cells code s.a s.b l.left l.u w.add.new.to l.invariant added)
      | goal.else-lefts-left-eq1 w ↦ rw w.u-is (joining_more cells code s.a s.b l.left l.u l.u l.invariant (left_passed cells code s.a s.b l.left l.u _ among w.if-lefts-left-eq1.false))
    ]

pub returns : goal.returns
returns c =
    let l = c.loop-left in
    let s = c.args.self.now in
    let cells = cell_in3 s.table.now s.form in
    let e : l.left ≡ 15 = omega arith in
    joined_all cells c.args.code s.a s.b l.u (subst (λ (n : ℕ). Joining cells c.args.code s.a s.b n l.u) e l.invariant)
