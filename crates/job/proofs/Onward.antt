-- Wherever a fresh job stands after some entries, the run may end or a leaf of the plan, not in the record, is told as next: of the two that
-- Demand 2 says are told, the second is a leaf that continues the record.
use Rattle.std.specs.Prelude.{Ok}
use mathlib.Core.Path.{◌≡◌}
use mathlib.Core.List.{List}
use mathlib.Core.Logic.{◌⊎◌, inl, inr}
use Prim.Native.Nat.{ℕ}
use Rattle.plan.specs.Reading.{bytes_of, read_of}
use Rattle.plan.specs.declared.Layout.{Layout}
use Rattle.job.specs.Offer.{Standing, record_of}
use Rattle.job.specs.Demand2.{EndsOrGoesOn, may_end, goes_on}
use Rattle.job.specs.PromisedEnd.{EndsHere, TellsLeaf}
use Rattle.job.proofs.Good.{runs_on}
use Rattle.job.proofs.Standing.{Fine}
use Rattle.job.proofs.Honest.{honest}
use Rattle.job.proofs.Unused.{next_unused}

module _ (s : List ℕ) (l : Layout) (acc : read_of s ≡ Ok l) (x : Standing) (f : Fine s l acc x) where
  pub ends_or_tells : EndsHere x ⊎ TellsLeaf (bytes_of s l.nodes) x
  ends_or_tells = go (honest s l acc x f).one_of
    where
      go : EndsOrGoesOn x.told → EndsHere x ⊎ TellsLeaf (bytes_of s l.nodes) x
      go (may_end t e none) = inl (t, e)
      go (goes_on e n h) =
          let (t, b) = ((honest s l acc x f).next n).0 h in
          let u = next_unused (bytes_of s l.types) (bytes_of s l.nodes) (runs_on s l acc) (record_of x.job) n t b in
          inr (record { leaf = n; present = u.present; unused = u.unused; told = h })
