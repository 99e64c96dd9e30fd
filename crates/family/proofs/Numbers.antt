-- Two numbers compared, with the answer's meaning; and a test that is computed at every number below a bound.
use mathlib.Core.Path.{◌≡◌}
use mathlib.Core.Bool.{Bool, true, false, ◌&&◌}
use mathlib.Core.Logic.{◌⊎◌, inl, inr}
use Prim.Native.Nat.{ℕ, zero, suc, ◌≤◌, ◌<◌}
use native.Mathlib.Omega.{arith}
use lib.Dec.{T, eqb, eqb→eq}
use Rattle.std.proofs.lemmas.Bool.{cases_eq, cases_lt}

pub same_or_other : (m n : ℕ) → (m ≡ n) ⊎ ¬ (m ≡ n)
same_or_other = cases_eq

pub below_or_above : (m n : ℕ) → (m < n) ⊎ (n ≤ m)
below_or_above = cases_lt

both_hold : (a b : Bool) → T (a && b) → T a × T b
both_hold true b t = (tt, t)
both_hold false b t = absurd t

pub three_equal : (a b c d e f : ℕ) → T (eqb a b && (eqb c d && eqb e f)) → (a ≡ b) × (c ≡ d) × (e ≡ f)
three_equal a b c d e f t =
    let (p, r) = both_hold (eqb a b) _ t in
    let (q, s) = both_hold (eqb c d) (eqb e f) r in
    (eqb→eq a b p, eqb→eq c d q, eqb→eq e f s)

abbrev pub every : ℕ → (ℕ → Bool) → Bool
every zero p = true
every (suc n) p = p n && every n p

pub at_number : (n : ℕ) (p : ℕ → Bool) → T (every n p) → (k : ℕ) → k < n → T (p k)
at_number zero p t k h = absurd (omega arith)
at_number (suc n) p t k h =
    let parts = both_hold (p n) (every n p) t in
    elim (same_or_other k n) [ inl e ↦ rw e parts.0 | inr d ↦ at_number n p parts.1 k (omega arith) ]
