-- The promise of an end: the record of a job that stands after some entries begins a run, and what completes that run is taken, in no more
-- entries than there are unused leaves.
use Rattle.std.specs.Prelude.{Ok}
use mathlib.Core.Path.{◌≡◌}
use mathlib.Core.List.{List, [], map, append-nil}
use Prim.Native.Nat.{ℕ}
use native.Mathlib.Omega.{arith}
use lib.ListN.{length-map}
use Rattle.process.specs.Process.{Run}
use Rattle.plan.specs.Reading.{bytes_of, read_of}
use Rattle.plan.specs.declared.Layout.{Layout}
use Rattle.job.specs.Offer.{Standing, offer, started, record_of}
use Rattle.job.specs.Lists.{offered}
use Rattle.job.specs.PromisedEnd.{unused_leaves, ReachesEnd, PromisedEnd}
use Rattle.job.proofs.Good.{runs_on}
use Rattle.job.proofs.Standing.{Fine, reached, started_fine, offered_fine}
use Rattle.job.proofs.Unused.{few_follow}
use Rattle.job.proofs.Onward.{ends_or_tells}
use Rattle.job.proofs.TakesAll.{takes_to_end}

module _ (s : List ℕ) (l : Layout) (acc : read_of s ≡ Ok l) (x : Standing) (f : Fine s l acc x) where
  abbrev w : Run
  w = record_of x.job

  reaches : ReachesEnd (unused_leaves (bytes_of s l.nodes) w) x
  reaches =
      let (z, status, c) = (reached s l acc x f).begins in
      record {
        entries = map offered z;
        few = omega (arith, length-map z offered, few_follow (bytes_of s l.types) (bytes_of s l.nodes) (runs_on s l acc) w z ([], status, rw append-nil c));
        status = status;
        ends = takes_to_end s l acc z x f status c;
      }

pub promised_end : PromisedEnd
promised_end s l acc es =
    let f = offered_fine s l acc es (started s l) (started_fine s l acc) in
    record { goes_on = ends_or_tells s l acc (offer (started s l) es) f; reaches_end = reaches s l acc (offer (started s l) es) f }
