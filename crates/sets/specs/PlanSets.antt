-- The action sets of a plan's nodes: the outcome chart of three levels over the nodes of a plan file.
use Rattle.std.specs.Prelude.{cond, List, ℕ, ◌^◌, eqb}
use Rattle.outcomes.specs.Sets.{Sets, numbers}
use Rattle.outcomes.specs.ThreeLevels.{plan_sets}
use Rattle.nodes.specs.Nodes.{form, left}
use Rattle.plan.specs.Tree.{process_of}

-- The set that leaf n adds where it finishes: "its action's bit alone (skip: the empty set)". A throw never finishes.
abbrev pub leaf_set : List ℕ → ℕ → ℕ
leaf_set b n = cond (eqb (form b n) 0) (2 ^ left b n) 0

abbrev pub action_sets : List ℕ → Sets
action_sets b = numbers (leaf_set b)

-- The whole plan's sets.
abbrev pub sets_of : List ℕ → List ℕ → List ℕ
sets_of types b = plan_sets (action_sets b) (process_of types b)
