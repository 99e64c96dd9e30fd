-- N9 of document 02, what is promised of timed jobs: "A job started with a window file is timed: it takes an entry exactly where the untimed runner
-- would and neither 21 nor 22 falls, and then tells the same. So, with minutes struck out, a timed run is one the untimed runner accepts." And which
-- values of the type Job count as false. `timed_runner` in proofs/ proves it. What the untimed runner accepts and tells is Demand 2.
use Rattle.std.specs.Prelude.{◌≡◌, true, false, List, [], ◌∷◌, ◌↔◌, ℕ, ◌+◌, ◌^◌, ◌≤◌, ◌<◌, length, replicate, Ok}
use Rattle.std.proofs.Math.Option.{none, some}
use Rattle.hours.specs.Windows.{WindowFile}
use Rattle.hours.specs.Hours.{OpenAt}
use Rattle.plan.specs.Reading.{bytes_of, read_of}
use Rattle.plan.specs.declared.Layout.{Layout}
use Rattle.plan.specs.Reading as plan
use Rattle.state.specs.State.{entries_from}
use Rattle.state.specs.declared.Entry.{Entry}
use Rattle.job.specs.Job.{most_windows, most_minute, no_job, take_of}
use Rattle.job.specs.Demand2.{Starts}
use Rattle.job.specs.Numbers.{number_of, Refuses}
use Rattle.job.specs.Offer.{Standing, on_answer, TakesAll, started, Real, Sized}
use Rattle.job.specs.Timed.{struck_out, with_hours, fresh_timed, start_timed_of, timed_test, take_timed_of}
use Rattle.job.specs.declared.Job.{Job}

-- how many actions the plan has: one byte of types for each
abbrev pub actions_of : List ℕ → Layout → ℕ
actions_of s l = length (bytes_of s l.types)

-- an entry and its 32-bit minute
pub record TimedEntry : Type 0 where
  pub entry : Entry
  pub minute : ℕ
  pub fits : minute ≤ most_minute

-- What a call with the entry e and the minute m brings is one: the contract of `Job::take_at` says so of every value of the types.
pub record Brings (e : Entry) (m : ℕ) : Type 0 where
  pub brought : TimedEntry
  pub the_entry : brought.entry ≡ e
  pub the_minute : brought.minute ≡ m

-- A list of timed entries offered to a fresh timed job: each goes to the job that the one before it gave back.
abbrev pub next_timed : Standing → TimedEntry → Standing
next_timed x t = on_answer (take_timed_of x.job t.entry t.minute).answer (take_timed_of x.job t.entry t.minute).job x.told

unfoldable pub offer_timed : Standing → List TimedEntry → Standing
offer_timed x [] = x
offer_timed x (t ∷ ts) = offer_timed (next_timed x t) ts

-- where a start on an accepted plan file with this layout and the window file w stands: it has told what the untimed start tells
abbrev pub started_timed : List ℕ → Layout → List ℕ → Standing
started_timed s l w = record { job = fresh_timed s w; told = (started s l).told }

-- What holds wherever a fresh timed job stands after some timed entries, refused ones passed over.
pub record KeepsHours (s : List ℕ) (l : Layout) (w : List ℕ) (x : Standing) : Type 0 where
  -- with the minutes struck out, the record is one that the untimed runner takes entry by entry, and then stands at
  pub untimed : Standing
  pub accepted : TakesAll (started s l) (entries_from x.job.entries 0 x.job.taken) untimed
  -- the job is that of the untimed runner, with the window file and the minute of its last entry, and the same was told
  pub job : x.job ≡ with_hours w untimed.job x.job.minute
  pub told : x.told ≡ untimed.told
  -- 11 where the untimed runner would not take the entry
  pub not_taken : (t : TimedEntry) → (number_of (take_of untimed.job t.entry).answer ≡ none → ⊥)
      → Refuses 11 x.job (take_timed_of x.job t.entry t.minute)
  -- then 21 for an earlier minute
  pub too_early : (t : TimedEntry) → number_of (take_of untimed.job t.entry).answer ≡ none → t.minute < x.job.minute
      → Refuses 21 x.job (take_timed_of x.job t.entry t.minute)
  -- then 22 for one outside the window
  pub outside : (t : TimedEntry) → number_of (take_of untimed.job t.entry).answer ≡ none → x.job.minute ≤ t.minute
      → (OpenAt w (bytes_of s l.nodes) t.entry.leaf t.minute → ⊥)
      → Refuses 22 x.job (take_timed_of x.job t.entry t.minute)
  -- else it is taken, the untimed runner's answer is told, and the job has the entry more and its minute
  pub takes : (t : TimedEntry) → number_of (take_of untimed.job t.entry).answer ≡ none → x.job.minute ≤ t.minute
      → OpenAt w (bytes_of s l.nodes) t.entry.leaf t.minute
      → take_timed_of x.job t.entry t.minute
      ≡ record { answer = (take_of untimed.job t.entry).answer; job = with_hours w (take_of untimed.job t.entry).job t.minute }

-- A job that a start on some plan file and some window file, and some timed entries, give.
pub record RealTimed (j : Job) : Type 0 where
  pub file : List ℕ
  pub layout : Layout
  pub accepted : read_of file ≡ Ok layout
  pub windows : List ℕ
  pub window_file : WindowFile (actions_of file layout) windows
  pub entries : List TimedEntry
  pub is : j ≡ (offer_timed (started_timed file layout windows) entries).job

-- An untimed job: the fields that say nothing are 0.
pub record SaysNoHours (j : Job) : Type 0 where
  pub timed : j.timed ≡ false
  pub windows : j.windows ≡ replicate most_windows 0
  pub windows_len : j.windows_len ≡ 0
  pub minute : j.minute ≡ 0

pub record TimedRunner : Type 0 where
  -- a minute has 32 bits
  pub minutes : most_minute + 1 ≡ 2 ^ 32
  -- a start: the plan file's number first, then 23 exactly where the other is no window file for the plan
  pub starts : (s w : List ℕ) (l : Layout) → read_of s ≡ Ok l → WindowFile (actions_of s l) w → Starts (started_timed s l w) (start_timed_of s w)
  pub turns_away : (s w : List ℕ) (n : ℕ) → plan.number_of (read_of s) ≡ some n → Refuses n no_job (start_timed_of s w)
  pub no_windows : (s w : List ℕ) (l : Layout) → read_of s ≡ Ok l → (WindowFile (actions_of s l) w → ⊥) → Refuses 23 no_job (start_timed_of s w)
  -- every list of timed entries offered to a fresh timed job
  pub keeps : (s w : List ℕ) (l : Layout) → read_of s ≡ Ok l → WindowFile (actions_of s l) w → (ts : List TimedEntry)
      → KeepsHours s l w (offer_timed (started_timed s l w) ts)
  -- a value that no plan file, no window file and no list of timed entries give is refused with 11, whatever the entry and its minute
  pub false_jobs : (j : Job) → Sized j → (RealTimed j → ⊥) → (t : TimedEntry) → Refuses 11 j (take_timed_of j t.entry t.minute)
  -- the test in the code decides that: a job with hours is real exactly where it passes and the untimed job with its plan and record is real, which
  -- the untimed runner decides; and where a job fails it, the entry is refused with 11
  pub decides : (j : Job) → Sized j → RealTimed j ↔ ((timed_test j ≡ true) × Real (struck_out j))
  pub tested : (j : Job) → timed_test j ≡ false → (t : TimedEntry) → Refuses 11 j (take_timed_of j t.entry t.minute)
  -- a timed job counts as false where an entry comes without a minute, and an untimed one where it comes with one
  pub minute_due : (j : Job) → j.timed ≡ true → (e : Entry) → Refuses 11 j (take_of j e)
  pub no_minute_due : (j : Job) → j.timed ≡ false → (t : TimedEntry) → Refuses 11 j (take_timed_of j t.entry t.minute)
  -- what an untimed job does not say is 0, and what a timed one is, is said
  pub says_none : (j : Job) → Real j → SaysNoHours j
  pub says_timed : (j : Job) → RealTimed j → j.timed ≡ true
