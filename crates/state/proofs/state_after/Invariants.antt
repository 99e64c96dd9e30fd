-- `state::state_after` meets its contract: what is left of the record from the table so far is what the whole is from the start.
use mathlib.Core.Path.{◌≡◌}
use lib.ListN.{length}
use Rattle.state.specs.State.{state_after}
use Rattle.state.proofs.Replays.{from}
use Rattle.state.proofs.state_after.Given as goal

abbrev pub invariant-loop-i : goal.invariant-loop-i
invariant-loop-i l =
    (length l.table ≡ 63)
    × (state_after l.process.types.now l.process.nodes.now l.entries l.taken ≡ from l.process.types.now l.process.nodes.now l.entries l.taken l.table l.i)
