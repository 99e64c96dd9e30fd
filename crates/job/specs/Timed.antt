-- N9 of document 02, the timed runner: what a start with a window file and an entry with a minute answer, for every list of bytes, every value of
-- the type Job, every entry and every minute. The contracts of `Job::start_timed` and `Job::take_at` equate their results with `start_timed_of`
-- and `take_timed_of`. What the untimed runner answers is `take_of` of the job with its minutes struck out.
use Rattle.std.specs.Prelude.{Bool, true, false, cond, List, ◌++◌, ℕ, ◌-◌, leb, length, take, replicate, Result, Ok, Err}
use Rattle.hours.specs.Windows.{windows_checked}
use Rattle.hours.specs.Hours.{entry_checked}
use Rattle.hours.specs.declared.Fault as hours
use Rattle.hours.specs.Kept.{kept}
use Rattle.plan.specs.Reading.{bytes_of, read_of}
use Rattle.plan.specs.declared.Layout.{Layout}
use Rattle.plan.specs.declared.Fault.{Fault}
use Rattle.state.specs.declared.Entry.{Entry}
use Rattle.job.specs.Job.{Answer, most_windows, untimed_job, no_job, fresh_job, start_with, refusal, plan_of, zeros_from, tidy, take_of}
use Rattle.job.specs.declared.Refusal.TheVariants as why
use Rattle.job.specs.declared.Job.{Job}
use Rattle.job.specs.declared.Taken.{Taken}

-- the untimed job with the same plan and record: "with minutes struck out"
abbrev pub struck_out : Job → Job
struck_out j = untimed_job j.file j.file_len j.entries j.taken

-- the timed job with the plan and record of j, this area of windows and this minute
abbrev pub timed_job : Job → List ℕ → ℕ → ℕ → Job
timed_job j windows len minute = record {
  file = j.file;
  file_len = j.file_len;
  entries = j.entries;
  taken = j.taken;
  timed = true;
  windows = windows;
  windows_len = len;
  minute = minute;
}

-- The same by the bytes of the window file: they are kept with zeros after them.
abbrev pub with_hours : List ℕ → Job → ℕ → Job
with_hours w j minute = timed_job j (w ++ replicate (most_windows - length w) 0) (length w) minute

-- The fresh timed job of a plan file and a window file: no entry, and the minute 0.
abbrev pub fresh_timed : List ℕ → List ℕ → Job
fresh_timed s w = with_hours w (fresh_job s) 0

-- "at the start, after the plan file, 23": what the windows are checked as decides
abbrev pub start_checked : List ℕ → List ℕ → Layout → Result Unit hours.Fault → Taken
start_checked s w l (Ok u) = record { answer = (start_with s l).answer; job = fresh_timed s w }
start_checked s w l (Err f) = refusal (why.Hours f) no_job

abbrev pub start_timed_with : List ℕ → List ℕ → Layout → Taken
start_timed_with s w l = start_checked s w l (windows_checked l.types.len w)

abbrev pub start_timed_on : List ℕ → List ℕ → Result Layout Fault → Taken
start_timed_on s w (Ok l) = start_timed_with s w l
start_timed_on s w (Err f) = refusal (why.Plan f) no_job

-- A start on the bytes of a plan file and of a window file.
abbrev pub start_timed_of : List ℕ → List ℕ → Taken
start_timed_of s w = start_timed_on s w (read_of s)

-- The window file that a job carries.
abbrev pub windows_of : Job → List ℕ
windows_of j = take j.windows_len j.windows

-- The job says that it is timed, is tidy, and has zeros past its window file.
abbrev pub timed_tidy : Job → Bool
timed_tidy j =
    cond j.timed (cond (tidy j) (cond (leb j.windows_len most_windows) (zeros_from j.windows j.windows_len) false) false) false

-- A timed job's own test, beside that of its plan and record: its windows are a window file for its plan, and its record can have come by its minute.
abbrev pub kept_on : Job → Result Layout Fault → Bool
kept_on j (Ok l) = kept l.types.len (windows_of j) (bytes_of (plan_of j) l.nodes) j.entries j.taken j.minute
kept_on j (Err f) = false

abbrev pub timed_test : Job → Bool
timed_test j = cond (timed_tidy j) (kept_on j (read_of (plan_of j))) false

-- What the untimed runner answers, at a minute that the windows are asked of: a refusal is its own; then 21 or 22; else the same is told, and
-- the job has the entry more and this minute.
abbrev pub at_minute : Job → Result Unit hours.Fault → ℕ → Job → Answer → Taken
at_minute j hour m next (Err r) = refusal r j
at_minute j (Err f) m next (Ok t) = refusal (why.Hours f) j
at_minute j (Ok u) m next (Ok t) = record { answer = Ok t; job = timed_job next j.windows j.windows_len m }

-- An entry with a minute to a job with the window file w, of a plan with so many actions and these nodes: 11 where the windows are no window
-- file for the plan or the record cannot have come by the job's minute.
abbrev pub take_timed_with : ℕ → List ℕ → List ℕ → Job → Entry → ℕ → Taken
take_timed_with actions w nodes j e m =
    cond (kept actions w nodes j.entries j.taken j.minute)
    (at_minute j (entry_checked w nodes e.leaf j.minute m) m (take_of (struck_out j) e).job (take_of (struck_out j) e).answer)
    (refusal why.Entry j)

abbrev pub take_timed_on : Job → Entry → ℕ → Result Layout Fault → Taken
take_timed_on j e m (Ok l) = take_timed_with l.types.len (windows_of j) (bytes_of (plan_of j) l.nodes) j e m
take_timed_on j e m (Err f) = refusal why.Entry j

-- An entry with a minute to a job: an untimed one counts as false.
abbrev pub take_timed_of : Job → Entry → ℕ → Taken
take_timed_of j e m = cond (timed_tidy j) (take_timed_on j e m (read_of (plan_of j))) (refusal why.Entry j)
