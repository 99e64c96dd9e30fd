-- The runs of two sides: their failed entries add up, and they meet the wishes together where each does, as the leaves of one are not of the other.
use mathlib.Core.Path.{◌≡◌, refl}
use mathlib.Core.Bool.{true}
use mathlib.Core.List.{List}
use mathlib.Core.Logic.{◌⊎◌, inl, inr, ⊎_elim}
use Prim.Native.Nat.{ℕ, ◌+◌}
use native.Mathlib.Omega.{arith}
use Rattle.process.specs.Process.{Status, Form, Process, node, Entry, entry, Run}
use Rattle.process.specs.Figure2.{Interleaving, neither, from_left, from_right}
use Rattle.process.specs.Leaves.{HasLeaf, Apart}
use Rattle.reorder.specs.Entries.{Occurs, failures}
use Rattle.reorder.proofs.Lists.{joined, occurs_in, occurs_left, occurs_right}
use Rattle.reorder.proofs.Leaves.{leaf_of, undo_leaf, run_leaf}
use Rattle.reorder.proofs.Meets.{Of}
use Rattle.outcomes.specs.Codes.{Code}
use Rattle.outcomes.proofs.Levels.{Levels, l_none, l_run, whole}
use Rattle.fewest.specs.Wishes.{Wish, Ran, Meets}

pub interleaved_failures : {p q r : Run} → Interleaving p q r → failures r ≡ failures p + failures q
interleaved_failures neither = refl
interleaved_failures (from_left {e = entry n s} i) = omega (arith, interleaved_failures i)
interleaved_failures (from_right {e = entry n s} i) = omega (arith, interleaved_failures i)

-- the entries of levels are of the process's leaves
levels_leaf : {P : Process} {c : Code} {rs : List Run} {e : Entry} → Levels P c rs → Occurs e (whole rs) → HasLeaf (leaf_of e) P
levels_leaf {e = e} (l_none {P = P}) m = elim m [ ]
levels_leaf {e = e} (l_run {p = p} {rs = rs} d l) m = ⊎_elim (λ x. run_leaf d x) (λ x. undo_leaf (leaf_of e) d (levels_leaf l x)) (occurs_in (joined p (whole rs) refl) m)

pub levels_of_leaves : {P : Process} {c : Code} {rs : List Run} → Levels P c rs → Of P (whole rs)
levels_of_leaves l = record { leaves = λ e m. levels_leaf l m }

-- the run of a part, which has the entries of the part's leaves
meets_part : {may : ℕ → Wish} {N P : Process} {p r : Run} → ((n : ℕ) → HasLeaf n P → HasLeaf n N) → ((e : Entry) → Occurs e p → Occurs e r)
    → ((n : ℕ) (s : Status) → HasLeaf n P → Occurs (entry n s) r → Occurs (entry n s) p) → Meets may N r → Meets may P p
meets_part leaf up down a = record {
  entries = λ n s m. a.entries n s (up (entry n s) m);
  others = λ n h. ⊎_elim (λ (s, m). inl (s, down n s h m)) (λ x. inr x) (a.others n (leaf n h));
}

module _ {may : ℕ → Wish} {f : Form} {P Q : Process} {p q r : Run} (i : Interleaving p q r) where
  pub meets_both : Meets may P p → Meets may Q q → Meets may (node f P Q) r
  meets_both a b = record { entries = λ n s m. ⊎_elim (λ x. a.entries n s x) (λ x. b.entries n s x) (occurs_in i m); others = λ n h. by n h }
    where
      by : (n : ℕ) → HasLeaf n P ⊎ HasLeaf n Q → Ran n r ⊎ ((may n).absent ≡ true)
      by n (inl h) = ⊎_elim (λ (s, m). inl (s, occurs_left i m)) (λ x. inr x) (a.others n h)
      by n (inr h) = ⊎_elim (λ (s, m). inl (s, occurs_right i m)) (λ x. inr x) (b.others n h)

  pub meets_left : Apart P Q → Of Q q → Meets may (node f P Q) r → Meets may P p
  meets_left d o a =
      meets_part (λ n h. inl h) (λ e m. occurs_left i m) (λ n s h m. ⊎_elim (λ x. x) (λ x. absurd (d n h (o.leaves (entry n s) x))) (occurs_in i m)) a

  pub meets_right : Apart P Q → Of P p → Meets may (node f P Q) r → Meets may Q q
  meets_right d o a =
      meets_part (λ n h. inr h) (λ e m. occurs_right i m) (λ n s h m. ⊎_elim (λ x. absurd (d n (o.leaves (entry n s) x) h)) (λ x. x) (occurs_in i m)) a
