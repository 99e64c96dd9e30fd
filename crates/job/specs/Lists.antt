-- Demand 2 of whole lists: which lists a fresh job takes whole, and what it has taken of any list, refused entries passed over. It follows from
-- what `Honest` says of each entry: `whole_lists` in proofs/.
use Rattle.std.specs.Prelude.{◌≡◌, List, [], ◌∷◌, map, Ok, Err}
use Rattle.process.specs.Process.{Process, entry, Run}
use Rattle.process.specs.Process as process
use Rattle.runs.specs.Beginnings.{Begins}
use Rattle.state.specs.State.{entries_from}
use Rattle.state.specs.declared.Entry.{Entry}
use Rattle.job.specs.Job.{Answer, take_of}
use Rattle.job.specs.Offer.{Standing, next, offer, TakesAll, status_number}

-- an entry of a run, as one that is offered: the number of its leaf, and 1 or 2 for its status
abbrev pub offered : process.Entry → Entry
offered (entry n s) = record { leaf = n; outcome = status_number s }

-- an entry that is taken stands before those that are taken after it
abbrev pub if_taken : Answer → Entry → List Entry → List Entry
if_taken (Ok t) e es = e ∷ es
if_taken (Err r) e es = es

-- Of a list that is offered from x on, the entries that are taken, in order.
unfoldable pub taken_from : Standing → List Entry → List Entry
taken_from x [] = []
taken_from x (e ∷ es) = if_taken (take_of x.job e).answer e (taken_from (next x e) es)

-- What holds of a fresh job of P, which stands at x.
pub record WholeLists (P : Process) (x : Standing) : Type 0 where
  -- every list of entries that begins a run is taken whole
  pub takes : (w : Run) → Begins P w → TakesAll x (map offered w) (offer x (map offered w))
  -- and no other list is
  pub only : (es : List Entry) (y : Standing) → TakesAll x es y → (w : Run) × (es ≡ map offered w) × Begins P w
  -- what is taken of any list begins a run
  pub begins : (es : List Entry) → (w : Run) × (taken_from x es ≡ map offered w) × Begins P w
  -- it is what the job has recorded
  pub keeps : (es : List Entry) → entries_from (offer x es).job.entries 0 (offer x es).job.taken ≡ taken_from x es
  -- and by itself it leads to where the list leads
  pub last : (es : List Entry) → TakesAll x (taken_from x es) (offer x es)
