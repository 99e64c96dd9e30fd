-- The codes tell answers apart: a call fills few places, and the codes of refusals lie above.
use mathlib.Core.Path.{◌≡◌, refl, sym, ap, ◌∙◌}
use Prim.Native.Nat.{ℕ, ◌%◌, ◌<◌}
use native.Mathlib.Nat.{mod-eq_of_lt, mod-lt}
use native.Mathlib.Omega.{arith}
use Rattle.std.specs.Prelude.{Ok, Err}
use Rattle.class.specs.Outcome.{number, IsAnswer, CodesApart}
use Rattle.class.specs.declared.Refusal.{Refusal}
use Rattle.class.specs.declared.Refusal.TheVariants.{WorkArea, Files, AnswerArea}

few : (n : ℕ) → IsAnswer (Ok n) → n < 65536
few n x = let y = x.outcome in omega (arith, y.counted, y.class.few)

below : (n : ℕ) → n % 65536 < 65536
below n = mod-lt n (omega arith)

-- a number stands for one refusal
pub one_refusal : (r q : Refusal) → number r ≡ number q → r ≡ q
one_refusal WorkArea WorkArea e = refl
one_refusal WorkArea Files e = absurd (omega (arith, e))
one_refusal WorkArea AnswerArea e = absurd (omega (arith, e))
one_refusal Files WorkArea e = absurd (omega (arith, e))
one_refusal Files Files e = refl
one_refusal Files AnswerArea e = absurd (omega (arith, e))
one_refusal AnswerArea WorkArea e = absurd (omega (arith, e))
one_refusal AnswerArea Files e = absurd (omega (arith, e))
one_refusal AnswerArea AnswerArea e = refl

pub codes_apart : CodesApart
codes_apart (Ok m) (Ok n) x y e = ap Ok (sym (mod-eq_of_lt (few m x)) ∙ e ∙ mod-eq_of_lt (few n y))
codes_apart (Ok m) (Err r) x y e = absurd (omega (arith, e, below m))
codes_apart (Err r) (Ok n) x y e = absurd (omega (arith, e, below n))
codes_apart (Err r) (Err q) x y e = ap Err (one_refusal r q (omega (arith, e)))
