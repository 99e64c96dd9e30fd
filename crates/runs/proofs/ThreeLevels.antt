-- The law of specs/ThreeLevels: a composite at levels 0 to 2 reads only levels 0 to 2 of its sides.
use mathlib.Core.Path.{◌≡◌, refl}
use mathlib.Core.List.{[], ◌∷◌, ◌++◌}
use Prim.Native.Nat.{ℕ}
use borrow.Author.Tests.{lt-ltb}
use Rattle.process.specs.Process.{Status, Form, sequence, parallel, choice, compensation, handler, entry, Run}
use Rattle.runs.specs.Cells.{Outcomes, set_outcome, outcomes_after, Levels, node_levels, cells_of}
use Rattle.runs.specs.ThreeLevels.{three, form_three, ThreeLevelsFold}
use Rattle.process.specs.Depth.{most_undos}
use Rattle.process.specs.Forms.{form_of}

three_node : (f : Form) (a b : Levels) → form_three f (three a) (three b) ≡ three (node_levels most_undos f a b)
three_node sequence a b = refl
three_node parallel a b = refl
three_node choice a b = refl
three_node compensation a b = refl
three_node handler a b = refl

one_more : (table : Outcomes) (w : Run) (n : ℕ) (s : Status) → outcomes_after table (w ++ (entry n s ∷ [])) ≡ set_outcome (outcomes_after table w) n s
one_more table [] n s = refl
one_more table (entry m t ∷ w) n s = one_more (set_outcome table m t) w n s

pub three_levels_lem : ThreeLevelsFold
three_levels_lem = record {
  at_leaf = λ table n k h. rw (lt-ltb n 64 h);
  at_node = λ table number P Q. three_node (form_of number) (cells_of most_undos table P) (cells_of most_undos table Q);
  at_entry = λ table w n s. one_more table w n s;
  at_root = λ w P. refl;
}
