-- The laws of a loop over the steps of a vector that stops at the first that does not agree: what agrees of all n steps is those passed, and
-- what agrees of those that are left.
use mathlib.Core.List.{List}
use mathlib.Core.Path.{◌≡◌}
use Prim.Native.Nat.{ℕ, suc, ◌+◌, ◌-◌, ◌*◌, ◌<◌}
use native.Mathlib.Omega.{arith}
use Rattle.std.specs.Prelude.{Some, None}
use Rattle.job.specs.declared.Job.{Job}
use Rattle.vectors.specs.Runs.{stepped, agreeing}

module _ (s : List ℕ) (at n : ℕ) (first : Job) where
  -- i steps have agreed, and left the job j
  pub record Along (j : Job) (i : ℕ) : Type 0 where
    pub passed : agreeing n first s at ≡ i + agreeing (n - i) j s (at + 17 * i)

  pub along_none : Along first 0
  along_none = let e : at + 17 * 0 ≡ at = omega arith in let m : n - 0 ≡ n = omega arith in record { passed = rw (e, m) (omega arith) }

  pub along_more : (j k : Job) (i : ℕ) → i < n → stepped j s (at + 17 * i) ≡ Some k → Along j i → Along k (i + 1)
  unfolding agreeing
  along_more j k i l h a =
      let e : n - i ≡ suc (n - (i + 1)) = omega arith in
      let f : at + 17 * i + 17 ≡ at + 17 * (i + 1) = omega arith in
      let p : agreeing (n - i) j s (at + 17 * i) ≡ suc (agreeing (n - (i + 1)) k s (at + 17 * (i + 1))) = rw (e, h, f) in
      record { passed = omega (arith, p, a.passed) }

  pub along_stop : (j : Job) (i : ℕ) → i < n → stepped j s (at + 17 * i) ≡ None → Along j i → i ≡ agreeing n first s at
  unfolding agreeing
  along_stop j i l h a =
      let e : n - i ≡ suc (n - (i + 1)) = omega arith in
      let p : agreeing (n - i) j s (at + 17 * i) ≡ 0 = rw (e, h) in
      omega (arith, p, a.passed)

  pub along_all : (j : Job) (i : ℕ) → i ≡ n → Along j i → n ≡ agreeing n first s at
  unfolding agreeing
  along_all j i l a =
      let e : n - i ≡ 0 = omega arith in
      let p : agreeing (n - i) j s (at + 17 * i) ≡ 0 = rw e in
      omega (arith, p, a.passed)
