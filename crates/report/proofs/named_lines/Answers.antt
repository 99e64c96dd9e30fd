-- `report::named_lines` meets its contract: the name's line, and then the verdict's.
use mathlib.Core.Path.{ap, ◌∙◌}
use Prim.Native.Nat.{ℕ}
use Rattle.std.specs.Prelude.{Result}
use Rattle.text.specs.Text.{appended}
use Rattle.text.specs.Lines.{line}
use Rattle.text.proofs.Ends.{put_both}
use Rattle.judge.specs.declared.Judgement.{Judgement}
use Rattle.report.specs.Lines.{told_lines}
use Rattle.report.proofs.named_lines.Goals as goal

pub returns : goal.returns
returns c =
    let f = c.find-judgement in
    let name = c.args.name.now in
    let put = c.put_verdict.ensures ∙ ap (λ (x : Result Judgement ℕ). appended c.put_line.new.self (told_lines x f.result.run)) c.told.ensures in
    record {
      finding = f.result;
      finds = f.ensures;
      is = put_both _ (line name) _ put (c.put_line.ensures ∙ ap (λ t. appended t (line name)) c.new-t.ensures);
    }
