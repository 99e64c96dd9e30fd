-- `report::lines` meets its contract: the lines have room in a text.
use mathlib.Core.Path.{◌≡◌}
use native.Mathlib.Omega.{arith}
use mir.Val.{Fits}
use mir.Syntax.{w8}
use lib.ListN.{length, get_or}
use borrow.Author.Rules.{rules}
use Rattle.report.specs.Lines.{told_lines}
use Rattle.text.proofs.Ends.{put_alone}
use Rattle.report.proofs.Lengths.{Bytes, verdict_length}
use Rattle.report.proofs.lines.Goals as goal

pub returns : goal.returns
returns c =
    let v = c.args.answer in
    let run = c.args.run in
    let long : length run ≡ 126 = omega (arith, c.well_formed.1.0) in
    let bytes : Bytes run = λ k l. let fits : Fits w8 (get_or run k 0) = search (rules, c.well_formed.1.0) in omega arith in
    put_alone (told_lines v run) c.put_verdict.ensures c.new-t.ensures (verdict_length v run long bytes)
