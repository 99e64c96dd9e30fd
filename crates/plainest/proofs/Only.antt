-- There is one plainest run, as record bytes: two of them have as many failed entries, and neither's bytes come first.
use mathlib.Core.Path.{◌≡◌, sym}
use Prim.Native.Nat.{ℕ}
use native.Mathlib.Omega.{arith}
use lib.ListN.{length}
use Rattle.process.specs.Process.{Process, Run}
use Rattle.reorder.specs.Entries.{failures}
use Rattle.plainest.specs.Bytes.{record_bytes}
use Rattle.plainest.specs.Plainest.{Plainest}
use Rattle.plainest.proofs.Order.{Compared, before, same, after, before_total}

pub only_plainest : (P : Process) (single : ℕ → ℕ) (S : ℕ) (q r : Run) → Plainest P single S q → Plainest P single S r → length (record_bytes q) ≡ length (record_bytes r)
    → record_bytes q ≡ record_bytes r
only_plainest P single S q r x y long = by (before_total (record_bytes q) (record_bytes r) long)
  where
    as_few : failures q ≡ failures r
    as_few = omega (arith, x.fewest r y.status y.complete y.leaves, y.fewest q x.status x.complete x.leaves)

    by : Compared (record_bytes q) (record_bytes r) → record_bytes q ≡ record_bytes r
    by (before b) = absurd (y.first q x.status x.complete x.leaves as_few b)
    by (same e) = e
    by (after b) = absurd (x.first r y.status y.complete y.leaves (sym as_few) b)
