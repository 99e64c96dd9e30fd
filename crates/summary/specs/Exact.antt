-- What is promised of summaries: they hold exactly the families that the chart of three levels computes, whatever set each leaf adds.
-- `Computes` is the statement; its proof is `computes`.
use Rattle.std.specs.Prelude.{◌↔◌, ℕ, ◌<◌, ◌≤◌}
use Rattle.family.specs.Family.{In}
use Rattle.process.specs.Process.{ok, fail, Kind, permits, Process, leaf, node}
use Rattle.process.specs.Forms.{form_of}
use Rattle.outcomes.specs.Sets.{numbers}
use Rattle.outcomes.specs.ThreeLevels.{cell3, InFamily3}
use Rattle.summary.specs.declared.Summary.{Summary}
use Rattle.summary.specs.Summary.{family_of, LeafSummary}
use Rattle.summary.specs.Node.{NodeSummary}

-- The summary's families, for every code, are those that the chart computes for the process. `single n` is the set that leaf n adds.
abbrev pub Exact : (ℕ → ℕ) → Summary → Process → Type 0
Exact single s P = (code t : ℕ) → In (family_of s code) t ↔ InFamily3 (numbers single) P code t

pub record Computes : Type 0 where
  -- A leaf's summary, of a leaf whose set is an action set.
  pub of_leaf : (single : ℕ → ℕ) (n : ℕ) (k : Kind) (s : Summary) → single n < 1024 → LeafSummary (single n) (permits k ok) (permits k fail) s → Exact single s (leaf n k)
  -- A node's summary by the chart, of a form 3 to 7, from the summaries of its sides.
  pub of_node : (single : ℕ → ℕ) (form : ℕ) (P Q : Process) (a b s : Summary) → 3 ≤ form → form ≤ 7 → Exact single a P → Exact single b Q → NodeSummary (cell3 form) a b s → Exact single s (node (form_of form) P Q)
