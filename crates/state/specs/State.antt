-- The state of a job: a table of the outcomes of its plan's leaves, which is all that counts of the record so far, and what the cells
-- (crate runs) tell by it. A leaf's byte in the table is 0 where it has not run, 1 where it finished, 2 where it failed.
use Rattle.std.specs.Prelude.{Bool, false, not, cond, List, [], ◌∷◌, ℕ, zero, suc, ◌+◌, ◌-◌, ◌*◌, ◌/◌, ◌%◌, ◌^◌, ltb, eqb, get_or, set, replicate, Result, Err, Ok}
use Rattle.runs.specs.Cells.{ended_of}
use Rattle.nodes.specs.Nodes.{count, form, left}
use Rattle.nodes.specs.Fold.{fold_at}
use Rattle.runs.specs.ThreeLevels.{leaf_three, node_three, told_three}
use Rattle.runs.specs.declared.Cells.{Cells}
use Rattle.runs.specs.declared.Told.{Told}
use Rattle.state.specs.declared.Entry.{Entry}

-- The cells of node i: one fold over the nodes.
abbrev pub leaf_cells : List ℕ → ℕ → Cells
leaf_cells table i = leaf_three i (ended_of (get_or table i 0))

abbrev pub node_cells : List ℕ → ℕ → Cells → Cells → Cells
node_cells b i x y = node_three (form b i) x y

abbrev pub cells_at : List ℕ → List ℕ → ℕ → Cells
cells_at b table i = fold_at (leaf_cells table) (node_cells b) b i

-- What the whole process tells.
unfoldable pub told_by : List ℕ → List ℕ → Told
told_by b table = told_three (cells_at b table (count b - 1))

-- The type of a leaf: its action's, and as a skip always succeeds and a throw always fails, 1 and 2, which are their forms' numbers.
abbrev pub leaf_type : List ℕ → List ℕ → ℕ → ℕ
leaf_type types b n = cond (eqb (form b n) 0) (get_or types (left b n) 0) (form b n)

-- A leaf of type 2 does not finish, one of type 1 does not fail. There is no other outcome.
abbrev pub type_permits : ℕ → ℕ → Bool
type_permits type outcome = cond (eqb outcome 1) (not (eqb type 2)) (cond (eqb outcome 2) (not (eqb type 1)) false)

abbrev pub is_next : ℕ → ℕ → Bool
is_next next n = eqb (next / 2 ^ n % 2) 1

-- May the entry come now? Its leaf is one that may come next, and its type permits its outcome.
unfoldable pub leaf_permits : List ℕ → List ℕ → ℕ → ℕ → Bool
leaf_permits types b n outcome =
    cond (ltb n (count b)) (cond (ltb (form b n) 3) (type_permits (leaf_type types b n) outcome) false) false

unfoldable pub may_come : List ℕ → List ℕ → List ℕ → ℕ → ℕ → Bool
may_come types b table n outcome = cond (leaf_permits types b n outcome) (is_next (told_by b table).next n) false

-- The table at the start.
abbrev pub fresh_table : List ℕ
fresh_table = replicate 63 0

-- The table after some entries, where each of them might come where it stands; else the table before the first that might not.
unfoldable pub replay : List ℕ → List ℕ → List ℕ → List Entry → Result (List ℕ) (List ℕ)
replay types b table [] = Ok table
replay types b table (e ∷ es) = cond (may_come types b table e.leaf e.outcome) (replay types b (set table e.leaf e.outcome) es) (Err table)

-- The entries of a record: k of them from entry i on, two bytes each.
abbrev pub entry_at : List ℕ → ℕ → Entry
entry_at r i = record { leaf = get_or r (2 * i) 0; outcome = get_or r (2 * i + 1) 0 }

unfoldable pub entries_from : List ℕ → ℕ → ℕ → List Entry
entries_from r i zero = []
entries_from r i (suc k) = entry_at r i ∷ entries_from r (i + 1) k

-- The table after the first `taken` entries of a record.
abbrev pub state_after : List ℕ → List ℕ → List ℕ → ℕ → Result (List ℕ) (List ℕ)
state_after types b r taken = replay types b fresh_table (entries_from r 0 taken)
