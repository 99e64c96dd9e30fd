-- `state::told_by` meets its contract: the cells of the nodes passed are filled in, each part of a node before it.
use mathlib.Core.Path.{◌≡◌, ap, ◌∙◌}
use mathlib.Core.Bool.{cond}
use Prim.Native.Nat.{◌-◌, ◌/◌}
use native.Mathlib.Omega.{arith}
use lib.Dec.{ltb}
use lib.ListN.{length, get_or}
use Rattle.nodes.specs.Nodes.{form, left, right}
use Rattle.nodes.proofs.Filled.{filled_more}
use Rattle.plan.proofs.Runnable.{runnable_of}
use Rattle.plan.proofs.Tree.{parts_smaller}
use Rattle.runs.specs.ThreeLevels.{told_three}
use Rattle.state.specs.State.{leaf_cells, node_cells, told_by}
use Rattle.state.proofs.told_by.Invariants.{blank}
use Rattle.state.proofs.told_by.Goals as goal

pub loop-i-preserved : goal.loop-i-preserved
loop-i-preserved c =
    let b = c.args.process.now.nodes.now in
    let r = runnable_of c.args.process.now.runnable in
    let leaf = leaf_cells c.args.table.now in
    let i = c.loop-i.i in
    let cells = c.loop-i.cells in
    let e : c.cell_of.result ≡ cond (ltb (form b i) 3) (leaf i) (node_cells b i (get_or cells (left b i) blank) (get_or cells (right b i) blank)) =
    rw c.node_at-x.ensures at c.cell_of.ensures in
    filled_more leaf (node_cells b) b blank (parts_smaller c.args.process.now.types.now b r) 63 i cells c.cell_of.result (omega arith) (omega (arith, r.nodes_few)) e c.loop-i.invariant

pub returns : goal.returns
unfolding told_by
returns c =
    let last = length c.args.process.now.nodes.now / 3 - 1 in
    let e : c.tell.result ≡ told_three (get_or c.loop-i.cells last blank) = c.tell.ensures in
    e ∙ ap told_three (c.loop-i.invariant.entries last (omega (arith, (runnable_of c.args.process.now.runnable).nodes_some)))
