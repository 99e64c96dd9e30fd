-- How the plainest run is found, for undos of any depth: entry by entry, always the least in byte order with which a run that leaves the set with as few failed entries
-- is still left. Which entries these are depends on the entries so far without their order, and so on the table of outcomes alone.
use Rattle.std.specs.Prelude.{◌≡◌, [], ◌∷◌, ◌++◌, ◌⊎◌, ◌↔◌, ℕ, ◌≤◌, ◌<◌}
use Rattle.process.specs.Process.{Status, ok, fail, Process, Entry, entry, Run}
use Rattle.process.specs.Figure2.{Complete}
use Rattle.process.specs.Leaves.{AsWritten, Distinct}
use Rattle.outcomes.specs.Sets.{numbers, set_of}
use Rattle.runs.specs.Beginnings.{Begins}
use Rattle.reorder.specs.Entries.{AllIn, failures}
use Rattle.plainest.specs.Plainest.{Plainest}

-- In byte order: by the leaf, and finished before failed.
pub data Sooner : Entry → Entry → Type 0 where
  by_leaf : {n m : ℕ} {s t : Status} → n < m → Sooner (entry n s) (entry m t)
  by_outcome : {n m : ℕ} → n ≡ m → Sooner (entry n ok) (entry m fail)

module _ (P : Process) (single : ℕ → ℕ) (S k : ℕ) where
  -- r is a complete run that leaves S with k failed entries.
  pub record Good (r : Run) : Type 0 where
    pub status : Status
    pub complete : Complete P r status
    pub leaves : set_of (numbers single) r ≡ S
    pub fails : failures r ≡ k

  -- Some such run has the entries of w, in any order.
  abbrev pub Held : Run → Type 0
  Held w = (r : Run) × Good r × AllIn w r

  -- w goes on to such a run.
  abbrev pub Leads : Run → Type 0
  Leads w = (z : Run) × Good (w ++ z)

  -- The entry e is the least one with which w still goes on.
  pub record Next (w : Run) (e : Entry) : Type 0 where
    pub leads : Leads (w ++ (e ∷ []))
    pub soonest : (f : Entry) → Leads (w ++ (f ∷ [])) → (e ≡ f) ⊎ Sooner e f

  -- Taken so, from the first entry on.
  pub data Chosen : Run → Type 0 where
    at_first : Chosen []
    and_then : {w v : Run} {e : Entry} → Chosen w → Next w e → w ++ (e ∷ []) ≡ v → Chosen v

  pub record Greedy : Type 0 where
    -- what begins a run goes on to such a run exactly where one has its entries
    pub by_entries : (w : Run) → Begins P w → Leads w ↔ Held w
    -- what is chosen to its end, where no such run has fewer failed entries, is the plainest
    pub plainest : (w : Run) → Chosen w → Good w → ((q : Run) (t : Status) → Complete P q t → set_of (numbers single) q ≡ S → k ≤ failures q) → Plainest P single S w

-- Of a process as a plan writes it.
abbrev pub GreedyPlainest : Type 0
GreedyPlainest = (P : Process) (single : ℕ → ℕ) (S k : ℕ) → AsWritten P → Distinct P → Greedy P single S k
