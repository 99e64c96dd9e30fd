-- A table with one more leaf that must finish: a run has its outcomes where it has those of the table and the leaf finished in it.
use mathlib.Core.Path.{◌≡◌, sym, ◌∙◌}
use mathlib.Core.List.{List}
use mathlib.Core.Logic.{inl, inr}
use Prim.Native.Nat.{ℕ, ◌<◌}
use native.Mathlib.Omega.{arith}
use lib.ListN.{length, set}
use lib.Seq.{get_or-set_same, get_or-set_other}
use Rattle.family.proofs.Numbers.{same_or_other}
use Rattle.process.specs.Process.{ok, fail, entry, Run}
use Rattle.nodes.specs.Nodes.{count, form}
use Rattle.reorder.specs.Entries.{Occurs}
use Rattle.fewest.specs.Leaving.{outcome_at, Has}

-- tables that differ at a leaf only which finished, and which the second has free or as one that must finish
has_other : {b t u : List ℕ} {r : Run} (n : ℕ) → Occurs (entry n ok) r → outcome_at u n < 2 → ((m : ℕ) → ¬ (m ≡ n) → outcome_at t m ≡ outcome_at u m) → Has b t r → Has b u r
has_other {b} {t} {u} {r} n o free same h = record { finished = λ m l p e. ends m l p e; failed = λ m l p d e. fails m l p d e }
  where
    ends : (m : ℕ) → m < count b → form b m < 3 → outcome_at u m ≡ 1 → Occurs (entry m ok) r
    ends m l p e = elim (same_or_other m n) [ inl i ↦ rw i o | inr f ↦ h.finished m l p (same m f ∙ e) ]

    fails : (m : ℕ) → m < count b → form b m < 3 → ¬ (outcome_at u m ≡ 0) → ¬ (outcome_at u m ≡ 1) → Occurs (entry m fail) r
    fails m l p d e = elim (same_or_other m n) [
      | inl i ↦ (let low : outcome_at u m < 2 = rw i free in absurd (omega arith))
      | inr f ↦ h.failed m l p (λ z. d (sym (same m f) ∙ z)) (λ z. e (sym (same m f) ∙ z))
    ]

module _ (b table : List ℕ) (r : Run) (n : ℕ) (low : n < length table) where
  at_pin : outcome_at (set table n 1) n ≡ 1
  at_pin = get_or-set_same table n 1 0 low

  elsewhere : (m : ℕ) → ¬ (m ≡ n) → outcome_at (set table n 1) m ≡ outcome_at table m
  elsewhere m d = get_or-set_other table n m 1 0 d

  pub pin_occurs : n < count b → form b n < 3 → Has b (set table n 1) r → Occurs (entry n ok) r
  pin_occurs l p h = h.finished n l p at_pin

  pub pin_taken : outcome_at table n < 2 → Occurs (entry n ok) r → Has b (set table n 1) r → Has b table r
  pin_taken free o h = has_other n o free elsewhere h

  pub pin_put : Occurs (entry n ok) r → Has b table r → Has b (set table n 1) r
  pin_put o h = has_other n o (omega (arith, at_pin)) (λ m d. sym (elsewhere m d)) h
