-- `sheet::lines` meets its contract: the plan's line, and then those of the verdict that the place says; they have room in a text.
use mathlib.Core.Path.{ap, ap₂, ◌∙◌}
use lib.ListN.{length}
use borrow.Author.Tests.{lt-ltb, le-ltb}
use Rattle.place.specs.Place.{place_size}
use mathlib.Core.List.{List, ◌++◌}
use Prim.Native.Nat.{ℕ}
use Rattle.text.specs.Text.{appended}
use Rattle.text.proofs.Ends.{put_both, put_alone}
use Rattle.report.specs.Lines.{told_lines}
use Rattle.sheet.specs.Lines.{plan_line, plan_lines}
use Rattle.sheet.proofs.Lengths.{plan_room}
use native.Mathlib.Omega.{arith}
use Rattle.sheet.proofs.lines.Goals as goal

pub returns-then-place-lt-PLACE : goal.returns-then-place-lt-PLACE
returns-then-place-lt-PLACE c = rw (lt-ltb _ _ c.if-place-lt-PLACE.true) c.new-t.ensures

pub returns : goal.returns
returns c =
    let p = c.args.place.now in
    let i = c.args.i in
    let h = c.if-place-lt-PLACE.false in
    let enough = le-ltb (length p) place_size (omega arith) in
    let room = plan_room p (omega arith) (λ k l. omega (arith, c.type_inv.place k)) i in
    let same = ap₂ told_lines c.judgement_in.ensures c.run_in.ensures in
    let text = put_both _ (plan_line i) _ c.put_verdict.ensures c.put_numbered.ensures ∙ ap (λ (l : List ℕ). appended c.new-t.result (plan_line i ++ l)) same in
    rw enough (put_alone (plan_lines i p) text c.new-t.ensures room)
