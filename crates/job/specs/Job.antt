-- What a start and an entry answer, for every list of bytes, every value of the type Job and every entry: the definitions that the
-- contracts of `Job::start` and `Job::take` equate their results with.
use Rattle.std.specs.Prelude.{Bool, true, false, cond, List, ◌++◌, ℕ, ◌+◌, ◌-◌, ◌*◌, leb, ltb, eqb, length, get_or, set, take, replicate, Result, Ok, Err}
use Rattle.blocks.specs.Bounded.{every}
use Rattle.plan.specs.PlanFile.{most_actions, most_bytes}
use Rattle.plan.specs.Reading.{node_limit, rule_limit, bytes_of, read_of}
use Rattle.plan.specs.declared.Layout.{Layout}
use Rattle.plan.specs.declared.Fault.{Fault}
use Rattle.runs.specs.declared.Ended.{Ended}
use Rattle.runs.specs.declared.Ended.TheVariants as ended
use Rattle.runs.specs.declared.Told as cells
use Rattle.state.specs.State.{told_by, may_come, fresh_table, state_after}
use Rattle.state.specs.declared.Entry.{Entry}
use Rattle.job.specs.declared.Limits.{Limits}
use Rattle.job.specs.declared.Status.TheVariants.{Succeeded, Failed}
use Rattle.job.specs.declared.End.{End}
use Rattle.job.specs.declared.End.TheVariants.{Open, MayEnd}
use Rattle.job.specs.declared.Told.{Told}
use Rattle.job.specs.declared.Refusal.{Refusal}
use Rattle.job.specs.declared.Refusal.TheVariants as why
use Rattle.job.specs.declared.Job.{Job}
use Rattle.job.specs.declared.Taken.{Taken}

-- What the runner answers: what it tells, or why it refuses.
abbrev pub Answer : Type 0
Answer = Result Told Refusal

-- "whether the run may end here, and if so whether it succeeded"
abbrev pub end_of : Ended → End
end_of ended.Open = Open
end_of ended.Succeeded = MayEnd Succeeded
end_of ended.Failed = MayEnd Failed

abbrev pub saying : cells.Told → Told
saying t = record { next = t.next; end = end_of t.ended }

-- A refusal gives its number only; the job is unchanged.
abbrev pub refusal : Refusal → Job → Taken
refusal r j = record { answer = Err r; job = j }

-- The bytes of a window file that names each of ten actions: the most that one can have.
abbrev pub most_windows : ℕ
most_windows = 5 * most_actions

-- The largest minute of 32 bits.
abbrev pub most_minute : ℕ
most_minute = 4294967295

-- The untimed job with this plan and record: the fields that say nothing are 0.
abbrev pub untimed_job : List ℕ → ℕ → List ℕ → ℕ → Job
untimed_job file len entries taken = record {
  file = file;
  file_len = len;
  entries = entries;
  taken = taken;
  timed = false;
  windows = replicate most_windows 0;
  windows_len = 0;
  minute = 0;
}

-- What a start that is refused hands back: no plan, and no job that a start or an entry gives.
abbrev pub no_job : Job
no_job = untimed_job (replicate most_bytes 0) 0 (replicate 126 0) 0

-- The fresh job of a plan file: its bytes, then zeros, and no entry.
abbrev pub fresh_job : List ℕ → Job
fresh_job s = untimed_job (s ++ replicate (most_bytes - length s) 0) (length s) (replicate 126 0) 0

abbrev pub start_with : List ℕ → Layout → Taken
start_with s l = record { answer = Ok (saying (told_by (bytes_of s l.nodes) fresh_table)); job = fresh_job s }

abbrev pub start_on : List ℕ → Result Layout Fault → Taken
start_on s (Ok l) = start_with s l
start_on s (Err f) = refusal (why.Plan f) no_job

-- A start on the bytes of a plan file.
abbrev pub start_of : List ℕ → Taken
start_of s = start_on s (read_of s)

-- The plan file that a job carries.
abbrev pub plan_of : Job → List ℕ
plan_of j = take j.file_len j.file

-- from `at` on all bytes are 0
abbrev pub zeros_from : List ℕ → ℕ → Bool
zeros_from s at = every (length s) (λ i. cond (ltb i at) true (eqb (get_or s i 0) 0))

-- The lengths are in range, and the bytes past the plan file and past the record are 0.
abbrev pub tidy : Job → Bool
tidy j =
    cond (leb j.file_len most_bytes) (cond (ltb j.taken 63) (cond (zeros_from j.file j.file_len) (zeros_from j.entries (2 * j.taken)) false) false) false

-- The job is untimed: it has no window file and no minute.
abbrev pub untimed : Job → Bool
untimed j =
    cond j.timed false (cond (eqb j.windows_len 0) (cond (eqb j.minute 0) (zeros_from j.windows 0) false) false)

-- The job with one entry more.
abbrev pub with_entry : Job → Entry → Job
with_entry j e = record {
  file = j.file;
  file_len = j.file_len;
  entries = set (set j.entries (2 * j.taken) e.leaf) (2 * j.taken + 1) e.outcome;
  taken = j.taken + 1;
  timed = j.timed;
  windows = j.windows;
  windows_len = j.windows_len;
  minute = j.minute;
}

-- An entry that may come: it is kept, and what the table tells with it is told.
abbrev pub after_entry : List ℕ → List ℕ → Job → Entry → Taken
after_entry b table j e = record { answer = Ok (saying (told_by b (set table e.leaf e.outcome))); job = with_entry j e }

-- An entry to a job after whose record the table is this one, where there is one: the entry has to be one that may come.
abbrev pub take_after : List ℕ → List ℕ → Job → Entry → Result (List ℕ) (List ℕ) → Taken
take_after types b j e (Ok table) = cond (may_come types b table e.leaf e.outcome) (after_entry b table j e) (refusal why.Entry j)
take_after types b j e (Err table) = refusal why.Entry j

-- An entry to a job of a plan with these types and nodes: 11 where its record is none of the plan, or the entry may not come.
abbrev pub take_with : List ℕ → List ℕ → Job → Entry → Taken
take_with types b j e = take_after types b j e (state_after types b j.entries j.taken)

abbrev pub take_on : Job → Entry → Result Layout Fault → Taken
take_on j e (Ok l) = take_with (bytes_of (plan_of j) l.types) (bytes_of (plan_of j) l.nodes) j e
take_on j e (Err f) = refusal why.Entry j

-- An entry without a minute to a job: a timed one counts as false.
abbrev pub take_of : Job → Entry → Taken
take_of j e = cond (untimed j) (cond (tidy j) (take_on j e (read_of (plan_of j))) (refusal why.Entry j)) (refusal why.Entry j)

-- "the limits 10, 63 and 127"
abbrev pub limits : Limits
limits = record { actions = most_actions; nodes = node_limit; rule = rule_limit }
