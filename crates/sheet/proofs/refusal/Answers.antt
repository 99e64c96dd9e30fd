-- `sheet::refusal` meets its contract: the line has room in a text.
use mathlib.Core.Path.{ap, ◌∙◌}
use Prim.Native.Nat.{ℕ}
use Rattle.text.specs.Text.{appended}
use Rattle.text.specs.Lines.{numbered, refused}
use Rattle.text.proofs.Ends.{put_alone, numbered_short}
use native.Mathlib.Omega.{arith}
use Rattle.sheet.proofs.refusal.Goals as goal

pub returns : goal.returns
returns c =
    let n = c.args.number in
    put_alone (numbered refused n) (c.put_numbered.ensures ∙ ap (λ (x : ℕ). appended c.new-t.result (numbered refused x)) c.from.ensures) c.new-t.ensures (omega (arith, numbered_short refused n (omega arith)))
