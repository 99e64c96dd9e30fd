-- A list of entries offered to a fresh job: each goes to the job that the one before it gave back. What is told after a refusal is what
-- was last told.
use Rattle.std.specs.Prelude.{◌≡◌, cond, List, [], ◌∷◌, map, ℕ, ◌≤◌, eqb, length, Ok, Err}
use Rattle.std.proofs.Math.Option.{none}
use Rattle.process.specs.Process.{Status, ok, fail, entry, Run}
use Rattle.process.specs.Process as process
use Rattle.plan.specs.PlanFile.{most_bytes}
use Rattle.plan.specs.Reading.{bytes_of, read_of}
use Rattle.plan.specs.declared.Layout.{Layout}
use Rattle.state.specs.State.{told_by, fresh_table, entries_from}
use Rattle.job.specs.Job.{Answer, most_windows, most_minute, saying, fresh_job, take_of}
use Rattle.job.specs.Numbers.{number_of, end_number}
use Rattle.state.specs.declared.Entry.{Entry}
use Rattle.job.specs.declared.Told.{Told}
use Rattle.job.specs.declared.Job.{Job}

-- the job, and what was last told
pub record Standing : Type 0 where
  pub job : Job
  pub told : Told

abbrev pub on_answer : Answer → Job → Told → Standing
on_answer (Ok t) j last = record { job = j; told = t }
on_answer (Err r) j last = record { job = j; told = last }

abbrev pub next : Standing → Entry → Standing
next x e = on_answer (take_of x.job e).answer (take_of x.job e).job x.told

unfoldable pub offer : Standing → List Entry → Standing
offer x [] = x
offer x (e ∷ es) = offer (next x e) es

-- From x on every entry of the list is taken, each by the job that the one before it gave back, and the last one leaves y.
pub data TakesAll : Standing → List Entry → Standing → Type 0 where
  no_more : {x : Standing} → TakesAll x [] x
  one_more : {x y : Standing} {e : Entry} {es : List Entry} → number_of (take_of x.job e).answer ≡ none → TakesAll (next x e) es y → TakesAll x (e ∷ es) y

-- where a start on an accepted plan file with this layout stands
abbrev pub started : List ℕ → Layout → Standing
started s l = record { job = fresh_job s; told = saying (told_by (bytes_of s l.nodes) fresh_table) }

-- an entry's outcome, 1 or 2, as a status of the report
abbrev pub status_number : Status → ℕ
status_number ok = 1
status_number fail = 2

abbrev pub status_of : ℕ → Status
status_of outcome = cond (eqb outcome 1) ok fail

abbrev pub run_entry : Entry → process.Entry
run_entry e = entry e.leaf (status_of e.outcome)

-- a job's record, as a run of the report
abbrev pub record_of : Job → Run
record_of j = map run_entry (entries_from j.entries 0 j.taken)

-- All entries of the list are taken from x on, and after the last one (at once, where there is none) the runner has told that the run may end
-- with the status.
pub record TakesToEnd (x : Standing) (es : List Entry) (status : Status) : Type 0 where
  pub last : Standing
  pub takes : TakesAll x es last
  pub ends : end_number last.told.end ≡ status_number status

-- A job that a start on some plan file and some entries give.
pub record Real (j : Job) : Type 0 where
  pub file : List ℕ
  pub layout : Layout
  pub accepted : read_of file ≡ Ok layout
  pub entries : List Entry
  pub is : j ≡ (offer (started file layout) entries).job

-- A value of the type Job has areas of these sizes, and a minute of 32 bits.
pub record Sized (j : Job) : Type 0 where
  pub file : length j.file ≡ most_bytes
  pub entries : length j.entries ≡ 126
  pub windows : length j.windows ≡ most_windows
  pub minute : j.minute ≤ most_minute
