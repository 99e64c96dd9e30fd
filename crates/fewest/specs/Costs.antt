-- The fewest failed entries of a process's runs by a fold over the codes of three levels alone: of each node, for each of the codes 0 to 14, one number. The codes that are
-- not settled, 5, 8 and 12, are no part of a complete run, and nothing has them here.
use Rattle.std.specs.Prelude.{Bool, cond, ◌&&◌, [], ◌∷◌, ℕ, zero, suc, ◌+◌, min, ltb, get_or, set, replicate}
use Rattle.process.specs.Process.{ok, fail, permits, Process, done, leaf, node}
use Rattle.process.specs.Forms.{form_number}
use Rattle.outcomes.specs.ThreeLevels.{cell3}
use Rattle.fewest.specs.Wishes.{Wish}
use Rattle.fewest.specs.declared.Costs.{Costs}

-- More than any run's failed entries: there is no such run.
abbrev pub unreached : ℕ
unreached = 64

-- The cost under a code.
abbrev pub cost_of : Costs → ℕ → ℕ
cost_of x c = get_or x.by c 0

-- So many failed entries, where that may be.
abbrev pub given : Bool → ℕ → ℕ
given may k = cond may k unreached

-- A leaf: 0 not run; 1, 2 and 3 finished; 9 and 10 failed. Its undo, which is nothing, does not fail.
abbrev pub leaf_costs : Bool → Bool → Bool → Costs
leaf_costs absent finishing failing = record {
  by =
      given absent 0
      ∷ given finishing 0 ∷ given finishing 0 ∷ given finishing 0 ∷ unreached ∷ unreached ∷ unreached ∷ unreached
      ∷ unreached ∷ given failing 1 ∷ given failing 1 ∷ unreached ∷ unreached ∷ unreached ∷ unreached ∷ [];
}

abbrev pub no_costs : Costs
no_costs = record { by = replicate 15 unreached }

-- One sum more under the code c, where that is a code.
unfoldable pub with_sum : ℕ → ℕ → Costs → Costs
with_sum c sum z = cond (ltb c 15) (record { by = set z.by c (min sum (cost_of z c)) }) z

-- A node: under a cell's code the sums of a left cost under its left code and a right cost under its right code. Of one left code, whose cost is k, the cells
-- with the right codes below r;
unfoldable pub row_costs : (ℕ → ℕ) → ℕ → Costs → ℕ → Costs → Costs
row_costs cells k y zero z = z
row_costs cells k y (suc r) z = with_sum (cells r) (k + cost_of y r) (row_costs cells k y r z)

-- and of the left codes below l, but for those that nothing has, all.
unfoldable pub node_costs : (ℕ → ℕ → ℕ) → Costs → Costs → ℕ → Costs
node_costs cells x y zero = no_costs
node_costs cells x y (suc l) = cond (ltb (cost_of x l) unreached) (row_costs (cells l) (cost_of x l) y 15 (node_costs cells x y l)) (node_costs cells x y l)

abbrev pub costs_of : (ℕ → Wish) → Process → Costs
costs_of may done = no_costs
costs_of may (leaf n k) = leaf_costs (may n).absent (permits k ok && (may n).finishing) (permits k fail && (may n).failing)
costs_of may (node f P Q) = node_costs (cell3 (form_number f)) (costs_of may P) (costs_of may Q) 15

-- The codes of complete runs are 1, 9, 13 and 14.
abbrev pub final_cost : Costs → ℕ
final_cost x = min (cost_of x 1) (min (cost_of x 9) (min (cost_of x 13) (cost_of x 14)))

abbrev pub fewest_of : (ℕ → Wish) → Process → ℕ
fewest_of may P = final_cost (costs_of may P)
