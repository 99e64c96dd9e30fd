-- The set of an interleaving is the union of the two sides' sets. This is all that the chart needs to know of sets.
use mathlib.Core.Path.{◌≡◌, sym, ◌∙◌, ap}
use Rattle.process.specs.Process.{Run}
use Rattle.process.specs.Figure2.{Interleaving, neither, from_left, from_right}
use Rattle.outcomes.specs.Sets.{Sets, Lawful, added, set_of}

module _ (S : Sets) (laws : Lawful S) where
  pub union_empty : (A : S.Set) → S.union A S.empty ≡ A
  union_empty A = laws.union_comm A S.empty ∙ laws.empty_union A

  left_comm : (A B C : S.Set) → S.union A (S.union B C) ≡ S.union B (S.union A C)
  left_comm A B C = sym (laws.union_assoc A B C) ∙ ap (λ X. S.union X C) (laws.union_comm A B) ∙ laws.union_assoc B A C

  pub interleaved_set : {p q r : Run} → Interleaving p q r → set_of S r ≡ S.union (set_of S p) (set_of S q)
  interleaved_set neither = sym (laws.empty_union S.empty)
  interleaved_set (from_left {e = e} {p = p} {q = q} i) = ap (S.union (added S e)) (interleaved_set i) ∙ sym (laws.union_assoc (added S e) (set_of S p) (set_of S q))
  interleaved_set (from_right {e = e} {p = p} {q = q} i) = ap (S.union (added S e)) (interleaved_set i) ∙ left_comm (added S e) (set_of S p) (set_of S q)
