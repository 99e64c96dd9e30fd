-- The theorem under the plainest run: which complete runs a beginning goes on to, but for their order, depends on its entries alone. It holds for
-- undos of any depth. `reorders` in proofs/ proves it.
use Rattle.std.specs.Prelude.{◌++◌}
use Rattle.process.specs.Process.{Status, Process, Run}
use Rattle.process.specs.Figure2.{Complete}
use Rattle.process.specs.Leaves.{AsWritten, Distinct}
use Rattle.runs.specs.Beginnings.{Begins}
use Rattle.reorder.specs.Entries.{AllIn, SameEntries}

-- A beginning of a run goes on to the very entries of any complete run that holds its entries, and to that run's status. (What it goes on to holds
-- its entries: so it does exactly where such a run does.)
abbrev pub GoesOn : Process → Type 0
GoesOn P = (w r : Run) (s : Status) → Begins P w → Complete P r s → AllIn w r → (z : Run) × Complete P (w ++ z) s × SameEntries (w ++ z) r

-- Of a process as a plan writes it.
abbrev pub Reorders : Type 0
Reorders = (P : Process) → AsWritten P → Distinct P → GoesOn P
