-- The test of an entry's minute is the statement, and `earliest` is what it says: the window of a leaf is a window of the week.
use Rattle.hours.specs.Hours.{leaf_window, KeepsWindows}
use Rattle.hours.proofs.Earliest.{earliest_after, earliest_inside, earliest_least}
use Rattle.hours.proofs.LeafWindow.{leaf_legal, leaf_tells}

pub keeps_windows : KeepsWindows
keeps_windows = record {
  tells = λ actions w nodes n m f. leaf_tells w nodes n actions f m;
  not_before = λ actions w nodes n t f. earliest_after (leaf_window w nodes n) (leaf_legal w nodes n actions f) t;
  open_then = λ actions w nodes n t f. earliest_inside (leaf_window w nodes n) (leaf_legal w nodes n actions f) t;
  no_sooner = λ actions w nodes n t m f. earliest_least (leaf_window w nodes n) (leaf_legal w nodes n actions f) t m;
}
