-- What is promised of the numbers: they are the fewest failed entries. `fewest_least`, `searched_least`, `due_tried` and `cut` in proofs/ prove it.
use Rattle.std.specs.Prelude.{◌≡◌, true, List, ℕ, ◌≤◌, ◌<◌, length, set}
use Rattle.process.specs.Process.{Process}
use Rattle.process.specs.Leaves.{AsWritten, Distinct}
use Rattle.process.specs.Depth.{Shallow}
use Rattle.nodes.specs.Nodes.{count}
use Rattle.plan.specs.Tree.{process_of}
use Rattle.fewest.specs.Wishes.{Wish, Possible}
use Rattle.fewest.specs.Costs.{unreached, fewest_of}
use Rattle.fewest.specs.Least.{LeastBelow}
use Rattle.fewest.specs.Leaving.{Searchable, Leaving}
use Rattle.fewest.specs.Search.{wishes, due, candidate, leaves_left, least_where, searched}

-- The fold: of the complete runs that meet wishes on the leaves.
abbrev pub FewestLeast : Type 0
FewestLeast = (may : ℕ → Wish) (P : Process) → AsWritten P → Distinct P → Shallow P → LeastBelow unreached (Possible may P) (fewest_of may P)

-- The search: of the complete runs that have the outcomes of a table and leave the set.
abbrev pub SearchedLeast : Type 0
SearchedLeast = (actions : ℕ) (types b : List ℕ) (S : ℕ) → Searchable actions types b S → (table : List ℕ) → length table ≡ 63
    → LeastBelow unreached (Leaving types b S table) (searched types b S actions 0 table)

-- What the search may do with an action i that is due: where the fold rules out each of its candidates, nothing is left to find; and the fewest are the least that a
-- candidate of it leaves, whatever action it is. So the order in which actions are tried does not matter.
pub record AtDue (actions : ℕ) (types b : List ℕ) (S : ℕ) (table : List ℕ) (i : ℕ) : Type 0 where
  pub nothing : (best : ℕ) → best ≤ unreached → leaves_left types b S table i best ≡ 0 → best ≤ searched types b S actions 0 table
  pub branch : searched types b S actions 0 table ≡ least_where (count b) (candidate b table i) (λ n. searched types b S actions 0 (set table n 1))

abbrev pub DueTried : Type 0
DueTried = (actions : ℕ) (types b : List ℕ) (S : ℕ) → Searchable actions types b S → (table : List ℕ) → length table ≡ 63
    → (i : ℕ) → i < actions → due b S table i ≡ true → AtDue actions types b S table i

-- The fold alone tells no more than the search.
abbrev pub Cut : Type 0
Cut = (actions : ℕ) (types b : List ℕ) (S : ℕ) → Searchable actions types b S → (table : List ℕ) → length table ≡ 63
    → fewest_of (wishes b S table) (process_of types b) ≤ searched types b S actions 0 table
