-- `Sought::entry` meets its contract: none of the leaves that were passed has an outcome.
use mathlib.Core.Path.{◌≡◌}
use Prim.Native.Nat.{◌-◌}
use Rattle.nodes.specs.Nodes.{count}
use Rattle.plainest.specs.Shown.{entry_from}
use Rattle.plainest.proofs.Sought.entry.Given as goal

abbrev pub invariant-loop-n : goal.invariant-loop-n
invariant-loop-n l =
    let p = l.self.search.process in
    let from = entry_from p.types.now p.nodes.now l.self.search.set l.self.fewest l.table l.next in
    from 0 (count p.nodes.now) ≡ from l.n (count p.nodes.now - l.n)
