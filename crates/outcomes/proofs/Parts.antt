-- A chart that is a part of the one of suc n levels, with some of its codes alone: under these it has the same families. The codes kept are such that the sides of a code that is
-- kept are kept, and that the codes that end are; so its sets too are just those that complete runs leave.
use mathlib.Core.Path.{◌≡◌}
use mathlib.Core.Bool.{Bool, true}
use mathlib.Core.List.{Memᴰ}
use mathlib.Core.Logic.{◌↔◌}
use Prim.Native.Nat.{ℕ, suc, ◌≤◌, ◌<◌}
use native.Mathlib.Omega.{arith}
use Rattle.process.specs.Process.{Status, ok, fail, Form, Process, done, leaf, node}
use Rattle.process.specs.Depth.{undo_depth}
use Rattle.outcomes.specs.Codes.{Code, Ends, size, number}
use Rattle.outcomes.specs.Sets.{Sets, Lawful, Leaves}
use Rattle.outcomes.specs.LevelCells.{cell_at}
use Rattle.outcomes.specs.Families.{Numbered, LeafSet, not_run, finished, failed, InFamilyBy}
use Rattle.outcomes.specs.AnyLevels.{leaf_codes, any_levels}
use Rattle.outcomes.proofs.Members.{from_sides, in_node_family, out_node_family, in_leaf_family, out_leaf_family, in_done_family, out_done_family}
use Rattle.outcomes.proofs.AnyLevels.{leaf_codes_low, exact_at}

-- M has the codes that are kept.
pub record PartOf (n : ℕ) (keep : ℕ → Bool) (M : Numbered) : Type 0 where
  pub finished_in : (c : ℕ) → Memᴰ c M.finished → Memᴰ c (leaf_codes n ok)
  pub failed_in : (c : ℕ) → Memᴰ c M.failed → Memᴰ c (leaf_codes n fail)
  pub finished_kept : (c : ℕ) → keep c ≡ true → Memᴰ c (leaf_codes n ok) → Memᴰ c M.finished
  pub failed_kept : (c : ℕ) → keep c ≡ true → Memᴰ c (leaf_codes n fail) → Memᴰ c M.failed
  pub cell_in : (f : Form) (l r c : ℕ) → l < size (suc n) → r < size (suc n) → M.cell_of f l r ≡ c → c < M.codes → (cell_at n f l r ≡ c) × (c < size (suc n))
  pub cell_kept : (f : Form) (l r c : ℕ) → l < size (suc n) → r < size (suc n) → keep c ≡ true → cell_at n f l r ≡ c → c < size (suc n)
      → (M.cell_of f l r ≡ c) × (c < M.codes) × (keep l ≡ true) × (keep r ≡ true)

-- The numbers F of the codes that end, with their status: each is such a code's, and kept.
pub record Ending (n : ℕ) (keep : ℕ → Bool) (F : ℕ → Status → Type 0) : Type 0 where
  pub of_code : {c : Code} {s : Status} → Ends c s → F (number (suc n) c) s
  pub code : {c : ℕ} {s : Status} → F c s → (d : Code) × Ends d s × (number (suc n) d ≡ c)
  pub kept : {c : ℕ} {s : Status} → F c s → keep c ≡ true

module _ {n : ℕ} {keep : ℕ → Bool} {M : Numbered} (h : PartOf n keep M) (S : Sets) where
  leaf_low : {A : S.Set} {b d : Bool} {c : ℕ} {X : S.Set} → LeafSet (any_levels n) S.empty A b d c X → c < size (suc n)
  leaf_low (not_run e x) = omega arith
  leaf_low (finished a i x) = leaf_codes_low n ok i
  leaf_low (failed a i x) = leaf_codes_low n fail i

  family_low : (P : Process) {c : ℕ} {X : S.Set} → InFamilyBy (any_levels n) S P c X → c < size (suc n)
  family_low done m = leaf_low (out_done_family (any_levels n) S m)
  family_low (leaf k a) m = leaf_low (out_leaf_family (any_levels n) S k a m)
  family_low (node f P Q) m = elim (out_node_family (any_levels n) S f P Q m) [ from_sides i j e z x ↦ z ]

  leaf_in : {A : S.Set} {b d : Bool} {c : ℕ} {X : S.Set} → LeafSet M S.empty A b d c X → LeafSet (any_levels n) S.empty A b d c X
  leaf_in (not_run e x) = not_run e x
  leaf_in (finished a i x) = finished a (h.finished_in _ i) x
  leaf_in (failed a i x) = failed a (h.failed_in _ i) x

  part_in : (P : Process) {c : ℕ} {X : S.Set} → InFamilyBy M S P c X → InFamilyBy (any_levels n) S P c X
  part_in done m = in_done_family (any_levels n) S (leaf_in (out_done_family M S m))
  part_in (leaf k a) m = in_leaf_family (any_levels n) S k a (leaf_in (out_leaf_family M S k a m))
  part_in (node f P Q) m =
      elim (out_node_family M S f P Q m) [
        | from_sides {l = l} {r = r} i j e z x ↦
            let i' = part_in P i in
            let j' = part_in Q j in
            let (y, low) = h.cell_in f l r _ (family_low P i') (family_low Q j') e z in
            in_node_family (any_levels n) S f P Q (from_sides i' j' y low x)
      ]

  leaf_kept : {A : S.Set} {b d : Bool} {c : ℕ} {X : S.Set} → keep c ≡ true → LeafSet (any_levels n) S.empty A b d c X → LeafSet M S.empty A b d c X
  leaf_kept k (not_run e x) = not_run e x
  leaf_kept k (finished a i x) = finished a (h.finished_kept _ k i) x
  leaf_kept k (failed a i x) = failed a (h.failed_kept _ k i) x

  part_kept : (P : Process) {c : ℕ} {X : S.Set} → keep c ≡ true → InFamilyBy (any_levels n) S P c X → InFamilyBy M S P c X
  part_kept done k m = in_done_family M S (leaf_kept k (out_done_family (any_levels n) S m))
  part_kept (leaf i a) k m = in_leaf_family M S i a (leaf_kept k (out_leaf_family (any_levels n) S i a m))
  part_kept (node f P Q) k m =
      elim (out_node_family (any_levels n) S f P Q m) [
        | from_sides {l = l} {r = r} i j e z x ↦
            let (y, low, kl, kr) = h.cell_kept f l r _ (family_low P i) (family_low Q j) k e z in
            in_node_family M S f P Q (from_sides (part_kept P kl i) (part_kept Q kr j) y low x)
      ]

  pub exact_part : {F : ℕ → Status → Type 0} → Ending n keep F → Lawful S → (P : Process) (s : Status) (X : S.Set) → undo_depth P ≤ n
      → ((c : ℕ) × F c s × InFamilyBy M S P c X) ↔ Leaves S P s X
  exact_part ends laws P s X depth = (
    λ (c, f, m). let (d, e, z) = ends.code f in (exact_at n S laws P s X depth).0 (d, e, rw z (part_in P m)),
    λ x. let (c, e, m) = (exact_at n S laws P s X depth).1 x in (number (suc n) c, ends.of_code e, part_kept P (ends.kept (ends.of_code e)) m),
  )
