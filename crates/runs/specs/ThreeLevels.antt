-- The cells of the code: level 0, level 1 for the undo and level 2 for the undo of the undo, which is what the plans of a plan file need
-- (document 02, N14: an undo side may hold compensations whose own right sides hold none). Each definition is that of Cells at these levels.
use Rattle.std.specs.Prelude.{◌≡◌, [], ◌∷◌, ◌++◌, ℕ, zero, suc, ◌<◌, ltb, cond}
use Rattle.process.specs.Process.{Status, Kind, Form, sequence, parallel, choice, compensation, handler, Process, leaf, node, entry, Run}
use Rattle.runs.specs.declared.Ended.{Ended}
use Rattle.runs.specs.declared.Cells.{Cells}
use Rattle.runs.specs.declared.Told.{Told}
use Rattle.runs.specs.declared.Composite.{Composite}
use Rattle.runs.specs.declared.Composite.TheVariants.{Sequence, Parallel, Choice, Compensation, Handler}
use Rattle.runs.specs.Cells.{Outcomes, none_run, set_outcome, outcomes_after, empty_cell, Levels, whole_ended, whole_next, node_levels, leaf_levels, cells_of, told_ended, told_next}
use Rattle.process.specs.Depth.{most_undos}
use Rattle.process.specs.Forms.{form_of}

abbrev pub levels : Cells → Levels
levels a zero = a.forward
levels a (suc zero) = a.undo
levels a (suc (suc zero)) = a.again
levels a (suc (suc (suc i))) = empty_cell

abbrev pub three : Levels → Cells
three a = record { forward = a zero; undo = a (suc zero); again = a (suc (suc zero)) }

abbrev pub nothing : Cells
nothing = record { forward = empty_cell; undo = empty_cell; again = empty_cell }

abbrev pub composite_form : Composite → Form
composite_form Sequence = sequence
composite_form Parallel = parallel
composite_form Choice = choice
composite_form Compensation = compensation
composite_form Handler = handler

-- A leaf, by its node number. A number that is no bit of 64 gives nothing to run.
abbrev pub leaf_three : ℕ → Ended → Cells
leaf_three n outcome = cond (ltb n 64) (three (leaf_levels n outcome)) nothing

-- A composite, by the form.
abbrev pub form_three : Form → Cells → Cells → Cells
form_three f a b = three (node_levels most_undos f (levels a) (levels b))

-- By the form's number.
abbrev pub node_three : ℕ → Cells → Cells → Cells
node_three number a b = form_three (form_of number) a b

-- What is told at the root.
abbrev pub told_three : Cells → Told
told_three a = record { ended = whole_ended most_undos (levels a); next = whole_next most_undos (levels a) }

-- The cells of a process.
abbrev pub cells_three : Outcomes → Process → Cells
cells_three table P = three (cells_of most_undos table P)

-- From the leaves up, the code's cells of a process are those of the definition, and what is told at the root is what Beginnings speaks
-- of. An entry more is one outcome more.
pub record ThreeLevelsFold : Type 0 where
  pub at_leaf : (table : Outcomes) (n : ℕ) (k : Kind) → n < 64 → leaf_three n (table n) ≡ cells_three table (leaf n k)
  pub at_node : (table : Outcomes) (number : ℕ) (P Q : Process) → node_three number (cells_three table P) (cells_three table Q) ≡ cells_three table (node (form_of number) P Q)
  pub at_entry : (table : Outcomes) (w : Run) (n : ℕ) (s : Status) → outcomes_after table (w ++ (entry n s ∷ [])) ≡ set_outcome (outcomes_after table w) n s
  pub at_root : (w : Run) (P : Process) → told_three (cells_three (outcomes_after none_run w) P) ≡ record { ended = told_ended most_undos P w; next = told_next most_undos P w }
