-- The codes tell answers apart: each kind of answer has its own range of numbers, and a set that a verdict gives is that of a run of the plan, whose actions
-- are below ten.
use mathlib.Core.Path.{◌≡◌, refl, sym, ap, ◌∙◌}
use Prim.Native.Nat.{ℕ, ◌%◌, ◌<◌}
use native.Mathlib.Nat.{mod-lt, mod-eq_of_lt}
use native.Mathlib.Omega.{arith}
use Rattle.std.specs.Prelude.{Ok, Err}
use Rattle.judge.specs.Verdict.{Answer, set_given, code_of}
use Rattle.judge.specs.Codes.{IsVerdict, CodesApart}
use Rattle.judge.specs.declared.Judgement.TheVariants.{Consistent, Violated}
use Rattle.judge.proofs.Numbers.{one_refusal}
use Rattle.judge.proofs.Plain.{given_small}

below : (t : ℕ) → t % 65536 < 65536
below t = mod-lt t (omega arith)

same_set : (t u : ℕ) → t < 65536 → u < 65536 → t % 65536 ≡ u % 65536 → t ≡ u
same_set t u h k e = sym (mod-eq_of_lt h) ∙ e ∙ mod-eq_of_lt k

apart : (v w : Answer) → set_given v < 65536 → set_given w < 65536 → code_of v ≡ code_of w → v ≡ w
apart (Ok Consistent) (Ok Consistent) h k e = refl
apart (Ok Consistent) (Ok (Violated u)) h k e = absurd (omega (arith, e))
apart (Ok Consistent) (Err s) h k e = absurd (omega (arith, e))
apart (Ok (Violated t)) (Ok Consistent) h k e = absurd (omega (arith, e))
apart (Ok (Violated t)) (Ok (Violated u)) h k e = ap (λ (x : ℕ). Ok (Violated x)) (same_set t u h k (omega (arith, e)))
apart (Ok (Violated t)) (Err s) h k e = absurd (omega (arith, e, below t))
apart (Err r) (Ok Consistent) h k e = absurd (omega (arith, e))
apart (Err r) (Ok (Violated u)) h k e = absurd (omega (arith, e, below u))
apart (Err r) (Err s) h k e = ap Err (one_refusal r s (omega (arith, e)))

-- a verdict's set is one of ten actions
small : (v : Answer) → IsVerdict v → set_given v < 65536
small (Ok Consistent) x = omega arith
small (Ok (Violated set)) x = omega (arith, given_small x.file x.old x.new set x.judged.record_after)
small (Err r) x = omega arith

pub codes_apart : CodesApart
codes_apart v w x y = apart v w (small v x) (small w y)
