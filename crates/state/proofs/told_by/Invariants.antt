-- `state::told_by` meets its contract: the cells of the nodes passed are filled in, each part of a node before it.
use Rattle.nodes.proofs.Filled.{Filled}
use Rattle.runs.specs.declared.Ended.TheVariants.{Open}
use Rattle.runs.specs.declared.Cell.{Cell}
use Rattle.runs.specs.declared.Cells.{Cells}
use mathlib.Core.Bool.{false}
use Rattle.state.specs.State.{leaf_cells, node_cells}
use Rattle.state.proofs.told_by.Given as goal

-- what stands past the end of an array of cells
abbrev pub blank_cell : Cell
blank_cell = record { empty = false; begun = false; ended = Open; next = 0 }

abbrev pub blank : Cells
blank = record { forward = blank_cell; undo = blank_cell; again = blank_cell }

abbrev pub invariant-loop-i : goal.invariant-loop-i
invariant-loop-i l = Filled (leaf_cells l.table) (node_cells l.nodes) l.nodes blank 63 l.i l.cells
