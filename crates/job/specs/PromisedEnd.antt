-- N2 of document 02, the promise of an end: "every job reached by start and accepted entries may end or continue, and can reach an end in at
-- most as many more entries as it has unused leaves". `promised_end` in proofs/ proves it.
use Rattle.std.specs.Prelude.{◌≡◌, Bool, true, false, cond, List, ◌⊎◌, ℕ, ◌/◌, ◌%◌, ◌^◌, ◌≤◌, ◌<◌, ltb, eqb, length, Ok}
use Rattle.blocks.specs.Bounded.{total, one}
use Rattle.process.specs.Process.{Status, Run}
use Rattle.nodes.specs.Nodes.{count, form}
use Rattle.plan.specs.Reading.{bytes_of, read_of}
use Rattle.plan.specs.declared.Layout.{Layout}
use Rattle.runs.specs.Beginnings.{occurrences}
use Rattle.state.specs.declared.Entry.{Entry}
use Rattle.job.specs.Numbers.{end_number}
use Rattle.job.specs.Offer.{Standing, offer, started, status_number, TakesToEnd, record_of}

-- Node n is a leaf, of form 0, 1 or 2, that the run w does not name.
abbrev pub is_unused : List ℕ → Run → ℕ → Bool
is_unused nodes w n = cond (ltb (form nodes n) 3) (eqb (occurrences n w) 0) false

-- how many of a plan's nodes are
abbrev pub unused_leaves : List ℕ → Run → ℕ
unused_leaves nodes w = total (count nodes) (λ n. one (is_unused nodes w n))

-- the runner has told that the run may end
abbrev pub EndsHere : Standing → Type 0
EndsHere x = (status : Status) × (end_number x.told.end ≡ status_number status)

-- the runner has told a leaf as next: one of the plan's, and one that is not in the record
pub record TellsLeaf (nodes : List ℕ) (x : Standing) : Type 0 where
  pub leaf : ℕ
  pub present : leaf < count nodes
  pub unused : is_unused nodes (record_of x.job) leaf ≡ true
  pub told : x.told.next / 2 ^ leaf % 2 ≡ 1

-- a list of at most so many entries is taken from here on, one after the other, to where the run may end
pub record ReachesEnd (most : ℕ) (x : Standing) : Type 0 where
  pub entries : List Entry
  pub few : length entries ≤ most
  pub status : Status
  pub ends : TakesToEnd x entries status

-- What holds wherever a fresh job of a plan with these nodes stands after some entries, refused ones passed over.
pub record NeverStalls (nodes : List ℕ) (x : Standing) : Type 0 where
  -- it may end, or a leaf is told as next
  pub goes_on : EndsHere x ⊎ TellsLeaf nodes x
  -- it can reach an end, in at most as many more entries as there are unused leaves
  pub reaches_end : ReachesEnd (unused_leaves nodes (record_of x.job)) x

-- every accepted plan file, and every list of entries offered to its fresh job
abbrev pub PromisedEnd : Type 0
PromisedEnd = (s : List ℕ) (l : Layout) → read_of s ≡ Ok l → (es : List Entry) → NeverStalls (bytes_of s l.nodes) (offer (started s l) es)
