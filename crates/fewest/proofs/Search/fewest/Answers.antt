-- `Search::fewest` meets its contract: what is searched is the least number, and below a bound it is the lesser of the two.
use native.Mathlib.Omega.{arith}
use Rattle.fewest.proofs.Asked.{searchable}
use Rattle.fewest.proofs.Least.{least_lower}
use Rattle.fewest.proofs.Searching.{searched_least}
use Rattle.fewest.proofs.Search.fewest.Goals as goal

pub returns : goal.returns
returns c =
    let s = c.args.self.now in
    let p = s.process in
    rw c.search.ensures (least_lower c.requires (searched_least s.actions p.types.now p.nodes.now s.set (searchable s) c.args.table (omega arith)))
