-- The fold on two examples. An action that may do either, handled by one that may do either, handled by a skip. Nothing need fail; where the first must have failed, one entry has; where none may
-- finish but the skip, two have; and where the first must have finished there is no run in which the second has an entry.
use mathlib.Core.Path.{◌≡◌, refl}
use mathlib.Core.Bool.{true, false}
use mathlib.Core.List.{List, [], ◌∷◌}
use Prim.Native.Nat.{ℕ}
use lib.ListN.{get_or}
use Rattle.process.specs.Process.{finishes, fails, either, sequence, compensation, handler, Process, leaf, node}
use Rattle.outcomes.specs.LevelCells.{cell_at}
use Rattle.outcomes.specs.ThreeLevels.{cell3}
use Rattle.fewest.specs.Wishes.{Wish}
use Rattle.fewest.specs.Costs.{unreached, with_sum, row_costs, node_costs, fewest_of}
use Rattle.fewest.specs.Search.{wish_of}

twice : Process
twice = node handler (leaf 0 either) (node handler (leaf 1 either) (leaf 2 finishes))

abbrev free : Wish
free = wish_of true 0

abbrev at : List Wish → ℕ → Wish
at may n = get_or may n free

nothing_fails : fewest_of (at []) twice ≡ 0
unfolding twice with_sum row_costs node_costs cell3 cell_at
nothing_fails = refl

first_failed : fewest_of (at (wish_of true 2 ∷ [])) twice ≡ 1
unfolding twice with_sum row_costs node_costs cell3 cell_at
first_failed = refl

neither_welcome : fewest_of (at (wish_of false 0 ∷ wish_of false 0 ∷ [])) twice ≡ 2
unfolding twice with_sum row_costs node_costs cell3 cell_at
neither_welcome = refl

both_finished : fewest_of (at (wish_of true 1 ∷ wish_of true 1 ∷ [])) twice ≡ unreached
unfolding twice with_sum row_costs node_costs cell3 cell_at
both_finished = refl

-- An undo that may fail after a part of it that has an undo of its own, and then a throw. Nothing need fail but the throw; where the undo must have failed, two entries have; and where moreover the
-- undo of its part may not finish, three.
undone : Process
undone = node sequence (node compensation (leaf 0 either) (node sequence (node compensation (leaf 1 either) (leaf 2 either)) (leaf 3 either))) (leaf 4 fails)

throw_fails : fewest_of (at []) undone ≡ 1
unfolding undone with_sum row_costs node_costs cell3 cell_at
throw_fails = refl

undo_failed : fewest_of (at (free ∷ free ∷ free ∷ wish_of true 2 ∷ [])) undone ≡ 2
unfolding undone with_sum row_costs node_costs cell3 cell_at
undo_failed = refl

undo_of_undo_failed : fewest_of (at (free ∷ free ∷ wish_of false 0 ∷ wish_of true 2 ∷ [])) undone ≡ 3
unfolding undone with_sum row_costs node_costs cell3 cell_at
undo_of_undo_failed = refl
