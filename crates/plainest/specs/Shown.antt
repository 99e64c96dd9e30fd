-- The plainest run of a plan as it is computed: from the fresh table, of the leaves that the runner tells as next, ascending, with 1 before 2, the first entry after which
-- the fewest failed entries are still what they were.
use Rattle.std.specs.Prelude.{◌≡◌, Bool, cond, List, [], ◌∷◌, map, ℕ, zero, suc, ◌+◌, ◌*◌, ◌^◌, ◌≤◌, ◌<◌, eqb, length, set, Option, None, Some}
use Rattle.process.specs.Process.{Status, Run}
use Rattle.process.specs.Figure2.{Complete}
use Rattle.outcomes.specs.Sets.{set_of}
use Rattle.nodes.specs.Nodes.{count}
use Rattle.plan.specs.PlanFile.{most_actions, Runnable}
use Rattle.plan.specs.Tree.{process_of}
use Rattle.state.specs.State.{is_next, told_by, fresh_table}
use Rattle.state.specs.declared.Entry.{Entry}
use Rattle.job.specs.Offer.{run_entry}
use Rattle.sets.specs.PlanSets.{leaf_set, action_sets}
use Rattle.fewest.specs.Search.{searched}
use Rattle.plainest.specs.Bytes.{record_bytes}
use Rattle.plainest.specs.Plainest.{Plainest}

-- The fewest failed entries of the complete runs that have the outcomes of the table and leave the set.
abbrev pub fewest_left : List ℕ → List ℕ → ℕ → List ℕ → ℕ
fewest_left types b S table = searched types b S most_actions 0 table

module _ (types b : List ℕ) (S k : ℕ) where
  -- With the outcome o of leaf n there are still no more than k.
  abbrev pub fits : List ℕ → ℕ → ℕ → Bool
  fits table n o = eqb (fewest_left types b S (set table n o)) k

  -- The outcome with which leaf n is the next entry, 1 before 2; none where it is no next leaf, or fits with neither.
  abbrev pub outcome_for : List ℕ → ℕ → ℕ → Option ℕ
  outcome_for table next n = cond (is_next next n) (cond (fits table n 1) (Some 1) (cond (fits table n 2) (Some 2) None)) None

  -- that leaf's entry where it has such an outcome, else the entry of the leaves after it
  abbrev pub or_later : ℕ → Option ℕ → Option Entry → Option Entry
  or_later n (Some o) later = Some (record { leaf = n; outcome = o })
  or_later n None later = later

  -- The next entry, of the leaves from n on, so many of them.
  unfoldable pub entry_from : List ℕ → ℕ → ℕ → ℕ → Option Entry
  entry_from table next n zero = None
  entry_from table next n (suc m) = or_later n (outcome_for table next n) (entry_from table next (suc n) m)

  abbrev pub next_entry : List ℕ → Option Entry
  next_entry table = entry_from table (told_by b table).next 0 (count b)

  -- an entry and those after it, where there is one
  abbrev pub and_after : Option Entry → (Entry → List Entry) → List Entry
  and_after (Some e) after = e ∷ after e
  and_after None after = []

  -- The entries from the table on, at most so many.
  unfoldable pub entries_after : ℕ → List ℕ → List Entry
  entries_after zero table = []
  entries_after (suc m) table = and_after (next_entry table) (λ e. entries_after m (set table e.leaf e.outcome))

-- Record bytes with the entry e at the place of entry i.
abbrev pub with_entry : List ℕ → ℕ → Entry → List ℕ
with_entry run i e = set (set run (2 * i) e.leaf) (2 * i + 1) e.outcome

abbrev pub plainest_entries : List ℕ → List ℕ → ℕ → List Entry
plainest_entries types b S = entries_after types b S (fewest_left types b S fresh_table) 63 fresh_table

abbrev pub plainest_run : List ℕ → List ℕ → ℕ → Run
plainest_run types b S = map run_entry (plainest_entries types b S)

-- "The first 126 record bytes hold the run, then zeros".
unfoldable pub plainest_bytes : List ℕ → List ℕ → ℕ → List ℕ
plainest_bytes types b S = record_bytes (plainest_run types b S)

-- Some complete run of the plan leaves the set.
pub record LeftBy (types b : List ℕ) (S : ℕ) : Type 0 where
  pub run : Run
  pub status : Status
  pub complete : Complete (process_of types b) run status
  pub leaves : set_of (action_sets b) run ≡ S

-- What is promised of it, where some complete run leaves the set. The proof is `plainest_shown`.
pub record IsPlainest (types b : List ℕ) (S : ℕ) : Type 0 where
  pub plainest : Plainest (process_of types b) (leaf_set b) S (plainest_run types b S)
  pub short : length (plainest_run types b S) ≤ 63

abbrev pub PlainestShown : Type 0
PlainestShown = (types b : List ℕ) → Runnable types b → (S : ℕ) → S < 2 ^ most_actions → LeftBy types b S → IsPlainest types b S
