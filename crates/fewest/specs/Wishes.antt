-- Wishes on the leaves of a process, and the complete runs that meet them.
use Rattle.std.specs.Prelude.{◌≡◌, Bool, true, ◌⊎◌, ℕ}
use Rattle.process.specs.Process.{Status, ok, fail, Process, entry, Run}
use Rattle.process.specs.Figure2.{Complete}
use Rattle.process.specs.Leaves.{HasLeaf}
use Rattle.reorder.specs.Entries.{Occurs, failures}

-- What a leaf may do: not run, finish, fail.
pub record Wish : Type 0 where
  pub absent : Bool
  pub finishing : Bool
  pub failing : Bool

abbrev pub wished : Wish → Status → Bool
wished w ok = w.finishing
wished w fail = w.failing

-- The leaf n has an entry in r.
abbrev pub Ran : ℕ → Run → Type 0
Ran n r = (s : Status) × Occurs (entry n s) r

-- r, a run of P, meets the wishes: each entry is one that its leaf may have, and each leaf without one may be absent.
pub record Meets (may : ℕ → Wish) (P : Process) (r : Run) : Type 0 where
  pub entries : (n : ℕ) (s : Status) → Occurs (entry n s) r → wished (may n) s ≡ true
  pub others : (n : ℕ) → HasLeaf n P → Ran n r ⊎ ((may n).absent ≡ true)

-- Some complete run of P meets the wishes with k failed entries.
abbrev pub Possible : (ℕ → Wish) → Process → ℕ → Type 0
Possible may P k = (r : Run) × (s : Status) × Complete P r s × Meets may P r × (failures r ≡ k)
