-- Which minutes a job's last entry can have had, by its record and windows: each entry has an earliest minute that it can have had, not before
-- that of the entry before it and inside its action's window. The last entry's own minute is at least the earliest of the one before it, and
-- inside its own window. Where there is no entry, the minute is 0.
use Rattle.std.specs.Prelude.{Bool, true, false, cond, is_ok, List, ◌↔◌, ◌≡◌, ℕ, zero, suc, ◌*◌, ◌-◌, ◌≤◌, leb, eqb, get_or}
use Rattle.hours.specs.Windows.{WindowFile, windows_checked}
use Rattle.hours.specs.Hours.{OpenAt, leaf_window, inside, earliest}

-- the leaf of entry k of a record, two bytes an entry
abbrev pub leaf_of : List ℕ → ℕ → ℕ
leaf_of r k = get_or r (2 * k) 0

-- The first k entries of a record can have come, the last of them at minute m: each at some minute that is not before that of the entry before it and
-- lies in the window of its leaf's action.
pub data Came (w nodes r : List ℕ) : ℕ → ℕ → Type 0 where
  no_entry : Came w nodes r 0 0
  one_more : {k m m' : ℕ} → Came w nodes r k m → m ≤ m' → OpenAt w nodes (leaf_of r k) m' → Came w nodes r (suc k) m'

-- The test of it. The earliest minute at which the first k entries of a record can have come; 0 for none
unfoldable pub soonest : List ℕ → List ℕ → List ℕ → ℕ → ℕ
soonest w nodes r zero = 0
soonest w nodes r (suc k) = earliest (leaf_window w nodes (leaf_of r k)) (soonest w nodes r k)

-- `taken` entries of a record, the last of them at minute m
abbrev pub came_by : List ℕ → List ℕ → List ℕ → ℕ → ℕ → Bool
came_by w nodes r taken m =
    cond (eqb taken 0) (eqb m 0)
    (cond (leb (soonest w nodes r (taken - 1)) m) (inside (leaf_window w nodes (leaf_of r (taken - 1))) m) false)

pub record KeepsRecords : Type 0 where
  pub tells : (actions : ℕ) (w nodes r : List ℕ) (taken m : ℕ) → WindowFile actions w → (came_by w nodes r taken m ≡ true) ↔ Came w nodes r taken m

-- the same, by bytes that are a window file
abbrev pub kept : ℕ → List ℕ → List ℕ → List ℕ → ℕ → ℕ → Bool
kept actions w nodes r taken m = cond (is_ok (windows_checked actions w)) (came_by w nodes r taken m) false
