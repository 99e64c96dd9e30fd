-- How deep the undo sides of compensations (document 01's form 6) stand in one another.
use Rattle.std.specs.Prelude.{ℕ, zero, suc, ◌≤◌, max}
use Rattle.process.specs.Process.{Form, sequence, parallel, choice, compensation, handler, Process, done, leaf, node}

-- The right side of a compensation, its undo side, stands one deeper.
abbrev pub right_depth : Form → ℕ → ℕ
right_depth sequence depth = depth
right_depth parallel depth = depth
right_depth choice depth = depth
right_depth compensation depth = suc depth
right_depth handler depth = depth

-- 0 where there is no compensation, 1 where none stands in an undo side, ..
abbrev pub undo_depth : Process → ℕ
undo_depth done = zero
undo_depth (leaf n k) = zero
undo_depth (node f P Q) = max (undo_depth P) (right_depth f (undo_depth Q))

-- Document 01's "No form 6 stands anywhere in the right side of another form 6": the plans that the outcome chart is for.
abbrev pub Flat : Process → Type 0
Flat P = undo_depth P ≤ 1

-- How many levels of undos a plan has at most, by document 02 (N14): "An undo side may hold compensations whose own right sides hold none."
abbrev pub most_undos : ℕ
most_undos = 2

abbrev pub Shallow : Process → Type 0
Shallow P = undo_depth P ≤ most_undos
