-- `Search::fold` meets its contract: the costs of the nodes passed are filled in, each part of a node before it.
use mathlib.Core.Path.{◌≡◌, ap, ◌∙◌}
use Prim.Native.Nat.{◌-◌, ◌/◌, ◌<◌}
use lib.ListN.{length, get_or}
use Rattle.nodes.specs.Nodes.{count, left, right}
use Rattle.nodes.proofs.Filled.{filled_more}
use Rattle.plan.proofs.Runnable.{runnable_of}
use Rattle.plan.proofs.Tree.{parts_smaller}
use Rattle.fewest.specs.Costs.{final_cost}
use Rattle.fewest.specs.Search.{wishes}
use Rattle.fewest.proofs.Folded.{blank, leaf_costs_at, node_costs_at, folded, by_form}
use native.Mathlib.Omega.{arith}
use Rattle.fewest.proofs.Search.fold.Goals as goal

pub loop-i-preserved : goal.loop-i-preserved
loop-i-preserved c =
    let types = c.args.self.now.process.types.now in
    let b = c.args.self.now.process.nodes.now in
    let r = runnable_of c.args.self.now.process.runnable in
    let may = wishes b c.args.self.now.set c.args.table.now in
    let i = c.loop-i.i in
    let costs = c.loop-i.costs in
    let h : i < count b = omega arith in
    let e = rw c.node_at-x.ensures at c.costs_at.ensures in
    filled_more (leaf_costs_at may types b) (node_costs_at may types b) b blank (parts_smaller types b r) 63 i costs c.costs_at.result h (omega (arith, r.nodes_few))
    (e ∙ by_form may types b r i h (get_or costs (left b i) blank) (get_or costs (right b i) blank)) c.loop-i.invariant

pub returns : goal.returns
returns c =
    let types = c.args.self.now.process.types.now in
    let b = c.args.self.now.process.nodes.now in
    let may = wishes b c.args.self.now.set c.args.table.now in
    let last = length b / 3 - 1 in
    let e : c.final_cost.result ≡ final_cost (get_or c.loop-i.costs last blank) = c.final_cost.ensures in
    e ∙ ap final_cost (c.loop-i.invariant.entries last (omega (arith, (runnable_of c.args.self.now.process.runnable).nodes_some)) ∙ folded may types b last)
