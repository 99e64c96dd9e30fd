-- `Search::search` meets its contract: where no action is due the fold decides; of one that is due, whichever it is, each candidate is tried, the number found so far being
-- that of the candidates passed; and what the fold rules out is cut off. With each call of itself one leaf less is free.
use mathlib.Core.Path.{◌≡◌, sym, ◌∙◌}
use native.Mathlib.Omega.{arith}
use Rattle.nodes.specs.Nodes.{count}
use Rattle.fewest.proofs.Asked.{searchable}
use Rattle.fewest.proofs.Stages.{none_due, free_candidate, one_less}
use Rattle.fewest.proofs.Searching.{due_tried, cut}
use Rattle.fewest.proofs.Search.+search.Goals as goal

-- ruled out
pub returns-then-best-fold : goal.returns-then-best-fold
returns-then-best-fold t c =
    let s = c.args.self.now in
    let p = s.process in
    omega (arith, c.if-best-fold.true, c.fold.ensures, cut s.actions p.types.now p.nodes.now s.set (searchable s) c.args.table.now c.told-table)

-- none is due
pub returns-in_default : goal.returns-in_default
returns-in_default t c =
    let s = c.args.self.now in
    let p = s.process in
    let e = none_due p.types.now p.nodes.now s.set c.args.table.now s.actions (rw c.in_default.is at c.choose.ensures) in
    rw (e, c.min.ensures, c.fold-in_default.ensures) (omega arith)

-- no candidate is left
pub returns-then-choice-eq0 : goal.returns-then-choice-eq0
returns-then-choice-eq0 t c =
    let s = c.args.self.now in
    let p = s.process in
    let x = rw c.in-Some.is at c.choose.ensures in
    let tried = due_tried s.actions p.types.now p.nodes.now s.set (searchable s) c.args.table.now c.told-table c.in-Some.choice.action x.low x.is_due in
    omega (arith, tried.nothing c.args.best c.requires (x.ruled_out c.if-choice-eq0.true))

pub search-found-requires : goal.search-found-requires
search-found-requires t c =
    let s = c.args.self.now in
    let p = s.process in
    let x = rw c.in-Some.is at c.choose.ensures in
    let n = c.loop-n.n in
    let free = free_candidate p.types.now p.nodes.now s.set c.args.table.now c.in-Some.choice.action n (omega arith) x.is_due (sym c.is_candidate.ensures ∙ c.if-is_candidate.true) in
    let less = one_less c.args.table.now n (omega (arith, c.told-table, (searchable s).plan.nodes_few)) free in
    let t = c.with_finished.ensures in
    (rw t (omega (arith, less, c.decreases)), omega (arith, c.requires))

pub returns : goal.returns
returns t c =
    let s = c.args.self.now in
    let p = s.process in
    let x = rw c.in-Some.is at c.choose.ensures in
    let tried = due_tried s.actions p.types.now p.nodes.now s.set (searchable s) c.args.table.now c.told-table c.in-Some.choice.action x.low x.is_due in
    let e : c.loop-n.n ≡ count p.nodes.now = omega arith in
    rw tried.branch (rw e at c.loop-n.invariant)
