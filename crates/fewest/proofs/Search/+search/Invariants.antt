-- `Search::search` meets its contract: where no action is due the fold decides; of one that is due, whichever it is, each candidate is tried, the number found so far being
-- that of the candidates passed; and what the fold rules out is cut off. With each call of itself one leaf less is free.
use mathlib.Core.Path.{◌≡◌}
use Prim.Native.Nat.{min}
use lib.ListN.{set as put}
use Rattle.fewest.specs.Search.{candidate, least_where, searched}
use Rattle.fewest.proofs.Stages.{zeros}
use Rattle.fewest.proofs.Search.+search.Given as goal

abbrev pub invariant-loop-n : goal.invariant-loop-n
invariant-loop-n l =
    let p = l.self.process in
    l.found ≡ min l.best (least_where l.n (candidate p.nodes.now l.table l.choice.action) (λ m. searched p.types.now p.nodes.now l.self.set l.self.actions 0 (put l.table m 1)))

-- how many leaves of the table are free
abbrev pub decreases-search : goal.decreases-search
decreases-search l = zeros l.table.now
