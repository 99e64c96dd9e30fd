-- The run that a violation shows, in the first 126 bytes of the record area: "The run shown is the entries in them before the first whose
-- second byte is 0, or all 63".
use Rattle.std.specs.Prelude.{◌≡◌, cond, List, [], ◌∷◌, map, ℕ, eqb, length}
use Rattle.process.specs.Process.{Run}
use Rattle.outcomes.specs.Sets.{set_of}
use Rattle.plan.specs.Reading.{bytes_of}
use Rattle.plan.specs.declared.Layout.{Layout}
use Rattle.state.specs.declared.Entry.{Entry}
use Rattle.job.specs.Offer.{run_entry}
use Rattle.job.specs.Demand2.{plan_process}
use Rattle.sets.specs.PlanSets.{leaf_set, action_sets}
use Rattle.plainest.specs.Bytes.{record_bytes}
use Rattle.plainest.specs.Plainest.{Plainest}

-- the entries before the first whose second byte is 0, or all
unfoldable pub shown_entries : List ℕ → List Entry
shown_entries [] = []
shown_entries (n ∷ []) = []
shown_entries (n ∷ outcome ∷ bytes) = cond (eqb outcome 0) [] (record { leaf = n; outcome = outcome } ∷ shown_entries bytes)

-- the same as a run of the report
abbrev pub shown_run : List ℕ → Run
shown_run r = map run_entry (shown_entries r)

-- "A run's set is the number with bit a set for each action a that finished at some leaf."
abbrev pub run_set : List ℕ → Layout → Run → ℕ
run_set s l run = set_of (action_sets (bytes_of s l.nodes)) run

-- Of the complete runs of the plan that leave the set one with the fewest failed entries, and of these the one whose record bytes come first.
abbrev pub PlainestOf : List ℕ → Layout → ℕ → Run → Type 0
PlainestOf s l set run = Plainest (plan_process s l) (leaf_set (bytes_of s l.nodes)) set run

-- The bytes hold the run to show beside the set (N7), and then zeros.
pub record ShowsRun (s : List ℕ) (l : Layout) (set : ℕ) (bytes : List ℕ) : Type 0 where
  pub plainest : PlainestOf s l set (shown_run bytes)
  pub long : length bytes ≡ 126
  pub padded : bytes ≡ record_bytes (shown_run bytes)

-- There is at most one list of bytes that does. The proof is `only_shown`.
abbrev pub OnlyShown : Type 0
OnlyShown = (s : List ℕ) (l : Layout) (set : ℕ) (bytes bytes' : List ℕ) → ShowsRun s l set bytes → ShowsRun s l set bytes' → bytes ≡ bytes'
