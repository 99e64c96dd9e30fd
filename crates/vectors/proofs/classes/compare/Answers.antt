-- `vectors::classes::compare` meets its contract: a body that is whole, by the tests before it.
use mathlib.Core.Path.{refl, ◌∙◌}
use Prim.Native.Nat.{ℕ}
use native.Mathlib.Omega.{arith}
use lib.ListN.{length-replicate}
use Rattle.judge.specs.Verdict.{work_size}
use Rattle.vectors.proofs.Calls.{whole_body}
use Rattle.vectors.proofs.classes.compare.Goals as goal

pub returns : goal.returns
returns c =
    whole_body c.args.body.now _ _ _ _ c.held_in.ensures (omega arith) refl (length-replicate {A = ℕ} work_size 0) (c.from-n.ensures ∙ c.two_at.ensures) c.if-body-n.false
