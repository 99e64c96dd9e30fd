-- What a vector of the groups `runs` and `hours` comes to: the number of its answers is held against the number of those that agree before the
-- first that does not. `start_of`, `take_of`, `start_timed_of` and `take_timed_of` are the runner's, of the crate `job`.
use Rattle.std.specs.Prelude.{Bool, cond, ◌&&◌, List, ℕ, zero, suc, ◌+◌, ◌-◌, ◌/◌, ◌%◌, leb, eqb, length, get_or, take, drop, Option, Some, None}
use Rattle.blocks.specs.Block.{le16}
use Rattle.plan.specs.PlanFile.{most_bytes}
use Rattle.state.specs.declared.Entry.{Entry}
use Rattle.job.specs.Job.{most_windows, start_of, take_of}
use Rattle.job.specs.Numbers.{numbered}
use Rattle.job.specs.Timed.{start_timed_of, take_timed_of}
use Rattle.job.specs.declared.Job.{Job}
use Rattle.job.specs.declared.Taken.{Taken}
use Rattle.fields.specs.Number.{four_at, number_at}
use Rattle.fields.specs.Answer.{is_answer}
use Rattle.fields.specs.Jobs.{same_job, left_by}
use Rattle.vectors.specs.Outcome.{held_against}
use Rattle.vectors.specs.declared.outcome.Outcome.{Outcome}
use Rattle.vectors.specs.declared.outcome.Outcome.TheVariants.{Damaged}

-- The runner, asked for the entry e of the job j, has answered as the bytes at `at` say, and handed back the job that they leave: where e was taken,
-- with the minute m.
unfoldable pub agrees_at : Taken → Job → Entry → ℕ → List ℕ → ℕ → Bool
agrees_at t j e m s at = is_answer (numbered t.answer) s at && same_job (left_by (get_or s at 0) j e m) t.job

-- The job that goes on, where they have.
abbrev pub stepped_to : Taken → Job → Entry → ℕ → List ℕ → ℕ → Option Job
stepped_to t j e m s at = cond (agrees_at t j e m s at) (Some t.job) None

-- A step is seventeen bytes: 1 for an entry with a minute, the entry, the minute, and the answer to it. Without a minute that of the job stays.
abbrev pub entry_at : List ℕ → ℕ → Entry
entry_at s at = record { leaf = get_or s (at + 1) 0; outcome = get_or s (at + 2) 0 }

unfoldable pub stepped : Job → List ℕ → ℕ → Option Job
stepped j s at =
    cond (eqb (get_or s at 0) 1)
    (stepped_to (take_timed_of j (entry_at s at) (four_at s (at + 3))) j (entry_at s at) (four_at s (at + 3)) s (at + 7))
    (stepped_to (take_of j (entry_at s at)) j (entry_at s at) j.minute s (at + 7))

-- one step more agrees, where a job goes on, and then as many as from that job on
abbrev pub one_more : (Job → ℕ) → Option Job → ℕ
one_more after (Some j) = suc (after j)
one_more after None = 0

-- of n steps from `at` on, those before the first that does not agree
unfoldable pub agreeing : ℕ → Job → List ℕ → ℕ → ℕ
agreeing zero j s at = 0
agreeing (suc n) j s at = one_more (λ k. agreeing n k s (at + 17)) (stepped j s at)

-- Steps from `at` to the end, where `before` answers agree already.
unfoldable pub steps_outcome : Job → List ℕ → ℕ → ℕ → Outcome
steps_outcome j s at before =
    cond (eqb ((length s - at) % 17) 0)
    (held_against ((length s - at) / 17 + before) (agreeing ((length s - at) / 17) j s at + before))
    Damaged

-- A start whose answer stands at `at`, and steps after it.
unfoldable pub started_with : Taken → List ℕ → ℕ → Outcome
started_with t s at = cond (is_answer (numbered t.answer) s at) (steps_outcome t.job s (at + 10) 1) (held_against 1 0)

-- A session: the length of the plan file at 1, the file at 3, the answer to its start, and steps.
abbrev pub plan_end : List ℕ → ℕ
plan_end s = 3 + le16 s 1

unfoldable pub session_outcome : List ℕ → Outcome
session_outcome s = cond (leb (plan_end s + 10) (length s)) (started_with (start_of (take (le16 s 1) (drop 3 s))) s (plan_end s)) Damaged

-- A timed session: the lengths of the plan file and of the window file at 1 and 3, the files at 5, the answer to their start, and steps.
abbrev pub windows_at : List ℕ → ℕ
windows_at s = 5 + le16 s 1

abbrev pub windows_end : List ℕ → ℕ
windows_end s = windows_at s + le16 s 3

unfoldable pub timed_outcome : List ℕ → Outcome
timed_outcome s =
    cond (leb (windows_end s + 10) (length s))
    (started_with (start_timed_of (take (le16 s 1) (drop 5 s)) (take (le16 s 3) (drop (windows_at s) s))) s (windows_end s))
    Damaged

-- A job that is made up: its fields in their order, from 1 on, and steps.
abbrev pub job_at : List ℕ → Job
job_at s = record {
  file = take most_bytes (drop 1 s);
  file_len = number_at s (most_bytes + 1);
  entries = take 126 (drop (most_bytes + 9) s);
  taken = number_at s (most_bytes + 135);
  timed = eqb (get_or s (most_bytes + 143) 0) 1;
  windows = take most_windows (drop (most_bytes + 144) s);
  windows_len = number_at s (most_bytes + most_windows + 144);
  minute = four_at s (most_bytes + most_windows + 152);
}

-- where its steps begin
abbrev pub steps_at : ℕ
steps_at = most_bytes + most_windows + 156

unfoldable pub made_up_outcome : List ℕ → Outcome
made_up_outcome s = cond (leb steps_at (length s)) (steps_outcome (job_at s) s steps_at 0) Damaged

-- The first byte says which of the three the body is.
abbrev pub runs_outcome : List ℕ → Outcome
runs_outcome s =
    cond (eqb (length s) 0)
    Damaged
    (cond (eqb (get_or s 0 0) 0) (session_outcome s) (cond (eqb (get_or s 0 0) 2) (timed_outcome s) (made_up_outcome s)))
