-- A run and the undo that it leaves use up the leaves of the process: whatever number each leaf has, the sum over the run and over the
-- leaves of the undo is at most the sum over the leaves of the process. So a run is no longer than there are leaves, and a leaf occurs
-- at most once in it.
use mathlib.Core.Path.{◌≡◌, refl}
use mathlib.Core.List.{[], ◌∷◌, ◌++◌}
use mathlib.Core.Bool.{Bool, true, false, cond}
use mathlib.Core.Logic.{inl, inr}
use Prim.Native.Nat.{ℕ, ◌+◌, ◌≤◌}
use native.Mathlib.Omega.{arith}
use lib.Dec.{eqb, ltb}
use lib.ListN.{length}
use borrow.Author.Tests.{eqb-true, ltb-true, ltb-false}
use Rattle.process.specs.Process.{Status, Process, done, leaf, node, entry, Run}
use Rattle.process.specs.Figure2.{Interleaving, neither, from_left, from_right, Forward, f_done, f_leaf, f_sequence, f_sequence_fails, f_parallel, f_choice_left, f_choice_right, f_compensation, f_compensation_fails, f_handler, f_handler_fails, Complete, c_ok, c_fail}
use Rattle.runs.specs.Beginnings.{sum_of_leaves, sum_of_run, leaf_count, occurrences}
use Rattle.process.specs.Leaves.{HasLeaf, Distinct}

module _ (number : ℕ → ℕ) where
  pub sum_append : (p q : Run) → sum_of_run number (p ++ q) ≡ sum_of_run number p + sum_of_run number q
  sum_append [] q = omega arith
  sum_append (entry n s ∷ p) q = omega (arith, sum_append p q)

  joined_sum : (p q : Run) {r : Run} → p ++ q ≡ r → sum_of_run number r ≡ sum_of_run number p + sum_of_run number q
  joined_sum p q e = rw (← e) (sum_append p q)

  interleaved_sum : {p q r : Run} → Interleaving p q r → sum_of_run number r ≡ sum_of_run number p + sum_of_run number q
  interleaved_sum neither = refl
  interleaved_sum (from_left {e = entry n s} i) = omega (arith, interleaved_sum i)
  interleaved_sum (from_right {e = entry n s} i) = omega (arith, interleaved_sum i)

  mutual
    forward_sum : {P P' : Process} {p : Run} {s : Status} → Forward P p s P' → sum_of_run number p + sum_of_leaves number P' ≤ sum_of_leaves number P
    forward_sum f_done = omega arith
    forward_sum (f_leaf m) = omega arith
    forward_sum (f_sequence {p = p} {q = q} a b e) = omega (arith, forward_sum a, forward_sum b, joined_sum p q e)
    forward_sum (f_sequence_fails a) = omega (arith, forward_sum a)
    forward_sum (f_parallel a b i e) = omega (arith, forward_sum a, forward_sum b, interleaved_sum i)
    forward_sum (f_choice_left a) = omega (arith, forward_sum a)
    forward_sum (f_choice_right b) = omega (arith, forward_sum b)
    forward_sum (f_compensation a) = omega (arith, forward_sum a)
    forward_sum (f_compensation_fails a) = omega (arith, forward_sum a)
    forward_sum (f_handler a) = omega (arith, forward_sum a)
    forward_sum (f_handler_fails {p = p} {p' = p'} {q = q} a c b e) = omega (arith, forward_sum a, complete_sum c, forward_sum b, joined_sum p (p' ++ q) e, sum_append p' q)

    pub complete_sum : {P : Process} {p : Run} {s : Status} → Complete P p s → sum_of_run number p ≤ sum_of_leaves number P
    complete_sum (c_ok a) = omega (arith, forward_sum a)
    complete_sum (c_fail {p = p} {p' = p'} a c e) = omega (arith, forward_sum a, complete_sum c, joined_sum p p' e)

length_sum : (w : Run) → length w ≡ sum_of_run (λ n. 1) w
length_sum [] = refl
length_sum (entry n s ∷ w) = omega (arith, length_sum w)

pub complete_length : (w z : Run) {P : Process} {s : Status} → Complete P (w ++ z) s → length w + length z ≤ leaf_count P
complete_length w z c = omega (arith, complete_sum (λ n. 1) c, sum_append (λ n. 1) w z, length_sum w, length_sum z)

module _ (n : ℕ) where
  abbrev here : ℕ → ℕ
  here m = cond (eqb n m) 1 0

  counted : (P : Process) → 1 ≤ sum_of_leaves here P → HasLeaf n P
  counted done h = omega arith
  counted (leaf m k) h = by (eqb n m) refl h
    where
      by : (b : Bool) → eqb n m ≡ b → 1 ≤ cond b 1 0 → n ≡ m
      by true e h = eqb-true n m e
      by false e h = omega arith
  counted (node f P Q) h = by (ltb 0 (sum_of_leaves here P)) refl (counted P) (counted Q)
    where
      by : (b : Bool) → ltb 0 (sum_of_leaves here P) ≡ b → (1 ≤ sum_of_leaves here P → HasLeaf n P) → (1 ≤ sum_of_leaves here Q → HasLeaf n Q) → HasLeaf n (node f P Q)
      by true e i j = inl (i (ltb-true 0 (sum_of_leaves here P) e))
      by false e i j = inr (j (omega (arith, ltb-false 0 (sum_of_leaves here P) e)))

  pub leaf_once : (P : Process) → Distinct P → sum_of_leaves here P ≤ 1
  leaf_once done d = omega arith
  leaf_once (leaf m k) d = by (eqb n m)
    where
      by : (b : Bool) → cond b 1 0 ≤ 1
      by true = omega arith
      by false = omega arith
  leaf_once (node f P Q) d = by (ltb 0 (sum_of_leaves here P)) refl (ltb 0 (sum_of_leaves here Q)) refl (leaf_once P d.0) (leaf_once Q d.1)
    where
      by : (a : Bool) → ltb 0 (sum_of_leaves here P) ≡ a → (b : Bool) → ltb 0 (sum_of_leaves here Q) ≡ b → sum_of_leaves here P ≤ 1 → sum_of_leaves here Q ≤ 1 → sum_of_leaves here P + sum_of_leaves here Q ≤ 1
      by true e true i h j = absurd (d.2 n (counted P (ltb-true 0 (sum_of_leaves here P) e)) (counted Q (ltb-true 0 (sum_of_leaves here Q) i)))
      by true e false i h j = omega (arith, ltb-false 0 (sum_of_leaves here Q) i)
      by false e b i h j = omega (arith, ltb-false 0 (sum_of_leaves here P) e)

  pub complete_once : (w z : Run) {P : Process} {s : Status} → Distinct P → Complete P (w ++ z) s → occurrences n w ≤ 1
  complete_once w z {P} d c = omega (arith, complete_sum here c, sum_append here w z, leaf_once P d)
