-- What the search is asked: a plan, a set and a table of outcomes; and the runs that it tells of, by Figure 2.
use Rattle.std.specs.Prelude.{◌≡◌, List, ℕ, ◌^◌, ◌≤◌, ◌<◌, get_or}
use Rattle.process.specs.Process.{Status, ok, fail, entry, Run}
use Rattle.process.specs.Figure2.{Complete}
use Rattle.outcomes.specs.Sets.{set_of}
use Rattle.nodes.specs.Nodes.{count, form}
use Rattle.plan.specs.PlanFile.{RunnableWithin}
use Rattle.plan.specs.Tree.{process_of}
use Rattle.sets.specs.PlanSets.{action_sets}
use Rattle.reorder.specs.Entries.{Occurs, failures}

-- The most actions that a plan may have here.
abbrev pub most_searched : ℕ
most_searched = 24

-- What is searched: a plan, and a set of its first so many actions.
pub record Searchable (actions : ℕ) (types b : List ℕ) (S : ℕ) : Type 0 where
  pub plan : RunnableWithin most_searched types b
  pub few : actions ≤ most_searched
  pub within : S < 2 ^ actions

-- A table of outcomes: node n is free (0), must have finished (1) or must have failed (2, or any other number).
abbrev pub outcome_at : List ℕ → ℕ → ℕ
outcome_at table n = get_or table n 0

-- The run has these outcomes.
pub record Has (b table : List ℕ) (r : Run) : Type 0 where
  pub finished : (n : ℕ) → n < count b → form b n < 3 → outcome_at table n ≡ 1 → Occurs (entry n ok) r
  pub failed : (n : ℕ) → n < count b → form b n < 3 → (outcome_at table n ≡ 0 → ⊥) → (outcome_at table n ≡ 1 → ⊥) → Occurs (entry n fail) r

-- Some complete run of the plan has these outcomes, leaves the set S, and has k failed entries.
pub record Leaving (types b : List ℕ) (S : ℕ) (table : List ℕ) (k : ℕ) : Type 0 where
  pub run : Run
  pub status : Status
  pub complete : Complete (process_of types b) run status
  pub has : Has b table run
  pub leaves : set_of (action_sets b) run ≡ S
  pub fails : failures run ≡ k
