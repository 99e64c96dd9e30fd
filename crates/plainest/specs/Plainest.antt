-- N7's run to show, over Figure 2's complete runs alone: "Among complete runs with the smallest violating set, show one with the fewest failed entries. If several
-- have as few, show the one whose 126 record bytes come first in byte order."
use Rattle.std.specs.Prelude.{◌≡◌, ℕ, ◌≤◌}
use Rattle.process.specs.Process.{Status, Process, Run}
use Rattle.process.specs.Figure2.{Complete}
use Rattle.outcomes.specs.Sets.{numbers, set_of}
use Rattle.reorder.specs.Entries.{failures}
use Rattle.plainest.specs.Bytes.{record_bytes, Before}

-- `single n`: the set that the leaf n adds where it finishes.
pub record Plainest (P : Process) (single : ℕ → ℕ) (S : ℕ) (r : Run) : Type 0 where
  pub status : Status
  pub complete : Complete P r status
  pub leaves : set_of (numbers single) r ≡ S
  -- no complete run that leaves the set has fewer failed entries
  pub fewest : (q : Run) (t : Status) → Complete P q t → set_of (numbers single) q ≡ S → failures r ≤ failures q
  -- and of none with as many the record bytes come first
  pub first : (q : Run) (t : Status) → Complete P q t → set_of (numbers single) q ≡ S → failures q ≡ failures r → ¬ Before (record_bytes q) (record_bytes r)
