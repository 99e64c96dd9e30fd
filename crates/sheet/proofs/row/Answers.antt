-- `sheet::row` meets its contract: the row of what the place says has room in a text.
use mathlib.Core.Path.{ap, ap₂, ◌∙◌}
use lib.ListN.{length}
use borrow.Author.Tests.{lt-ltb, le-ltb}
use Rattle.place.specs.Place.{place_size}
use Rattle.text.specs.Text.{appended}
use Rattle.text.proofs.Ends.{put_alone}
use Rattle.sheet.specs.Row.{row_of, row_after_name}
use Rattle.sheet.proofs.Lengths.{row_room}
use native.Mathlib.Omega.{arith}
use Rattle.sheet.proofs.row.Goals as goal

pub returns-then-place-lt-PLACE : goal.returns-then-place-lt-PLACE
returns-then-place-lt-PLACE c = rw (lt-ltb _ _ c.if-place-lt-PLACE.true) c.new-t.ensures

pub returns : goal.returns
returns c =
    let p = c.args.place.now in
    let h = c.if-place-lt-PLACE.false in
    let enough = le-ltb (length p) place_size (omega arith) in
    let same = ap₂ row_of c.judgement_in.ensures c.run_in.ensures in
    rw enough
    (put_alone (row_after_name p) (c.put_row.ensures ∙ ap (appended _) same) c.new-t.ensures (row_room p (omega arith) (λ k l. omega (arith, c.type_inv.place k))))
