-- A process as document 01 has it, and its runs. This is the report's process calculus (TR-070011, Figure 1) with two differences that
-- document 01 makes: a leaf names its node in the plan, and a run's entries name the leaf.
use Rattle.std.specs.Prelude.{List, ◌≡◌, Bool, true, false, ℕ}

-- The report's ✓ and ×. Of a leaf: finished and failed.
pub data Status : Type 0 where
  ok fail : Status

-- What a leaf may do, the report's Γ: finish only {✓}, fail only {×}, either {✓, ×}. Document 01's types 1, 2, 3; skip finishes only,
-- throw fails only.
pub data Kind : Type 0 where
  finishes fails either : Kind

abbrev pub permits : Kind → Status → Bool
permits finishes ok = true
permits finishes fail = false
permits fails ok = false
permits fails fail = true
permits either s = true

abbrev pub Permits : Kind → Status → Type 0
Permits k s = permits k s ≡ true

-- Document 01's forms 3 to 7: the report's ; ∥ □ ÷ ▷
pub data Form : Type 0 where
  sequence parallel choice compensation handler : Form

-- `leaf n k` is the node n, an action, a skip or a throw. `done` is the undo of a leaf, which runs nothing and succeeds; no plan holds it.
pub data Process : Type 0 where
  done : Process
  leaf : ℕ → Kind → Process
  node : Form → Process → Process → Process

-- An entry of a run: the leaf's node number, and whether it finished or failed.
pub data Entry : Type 0 where
  entry : ℕ → Status → Entry

abbrev pub Run : Type 0
Run = List Entry
