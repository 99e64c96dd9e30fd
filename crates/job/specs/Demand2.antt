-- Demand 2: fed any list of entries, a fresh job of an accepted plan file lets through exactly the beginnings of the runs that Figure 2
-- gives for the plan, and says that the run may end exactly where the figure has a complete one. Since both sides of a parallel begin
-- (N6 of document 02), a run that may end does not go on. `demand2` in proofs/ proves it; the contracts of `Job::start` and `Job::take`
-- equate their results with `start_of` and `take_of`.
use Rattle.std.specs.Prelude.{◌≡◌, List, [], ◌∷◌, ◌++◌, ◌↔◌, ℕ, ◌-◌, ◌*◌, ◌/◌, ◌%◌, ◌^◌, ◌≤◌, ◌<◌, length, get_or, replicate, Ok}
use Rattle.std.proofs.Math.Option.{none, some}
use Rattle.process.specs.Process.{Status, Process, entry, Run}
use Rattle.process.specs.Figure2.{Complete}
use Rattle.plan.specs.PlanFile.{most_bytes}
use Rattle.plan.specs.Reading.{bytes_of, read_of}
use Rattle.plan.specs.Tree.{process_of}
use Rattle.plan.specs.declared.Layout.{Layout}
use Rattle.plan.specs.Reading as plan
use Rattle.runs.specs.Beginnings.{Begins, NoPrefix}
use Rattle.job.specs.Job.{untimed_job, no_job, start_of, take_of}
use Rattle.job.specs.Numbers.{number_of, next_of, end_number, end_of, Refuses}
use Rattle.job.specs.Offer.{Standing, offer, started, status_number, run_entry, record_of, Real, Sized}
use Rattle.job.specs.Lists.{WholeLists}
use Rattle.state.specs.declared.Entry.{Entry}
use Rattle.job.specs.declared.Job.{Job}
use Rattle.job.specs.declared.Told.{Told}
use Rattle.job.specs.declared.Taken.{Taken}

-- the process of the plan
abbrev pub plan_process : List ℕ → Layout → Process
plan_process s l = process_of (bytes_of s l.types) (bytes_of s l.nodes)

-- The entry continues the run w of P: its outcome is a status, and w with the entry begins a run.
pub record Continues (P : Process) (w : Run) (e : Entry) : Type 0 where
  pub status : Status
  pub outcome : e.outcome ≡ status_number status
  pub begins : Begins P (w ++ (entry e.leaf status ∷ []))

-- The entry is taken: no number, and the record has it more.
pub record Takes (e : Entry) (w : Run) (t : Taken) : Type 0 where
  pub number : number_of t.answer ≡ none
  pub recorded : record_of t.job ≡ w ++ (run_entry e ∷ [])

-- The run may end, and nothing may come next; or it may not, and some leaf may.
pub data EndsOrGoesOn (t : Told) : Type 0 where
  may_end : (s : Status) → end_number t.end ≡ status_number s → t.next ≡ 0 → EndsOrGoesOn t
  goes_on : end_number t.end ≡ 0 → (n : ℕ) → t.next / 2 ^ n % 2 ≡ 1 → EndsOrGoesOn t

-- What holds wherever a fresh job of P stands after some entries, refused ones passed over.
pub record Honest (P : Process) (x : Standing) : Type 0 where
  -- (i) the record begins a run
  pub begins : Begins P (record_of x.job)
  -- (ii) an entry is taken exactly where it continues the record, which it then ends; else it is refused with 11, and the job is unchanged
  pub takes : (e : Entry) → Continues P (record_of x.job) e → Takes e (record_of x.job) (take_of x.job e)
  pub refuses : (e : Entry) → (Continues P (record_of x.job) e → ⊥) → Refuses 11 x.job (take_of x.job e)
  -- (iii) the run may end, with a status, exactly where it is complete with that status
  pub ends : (s : Status) → (end_number x.told.end ≡ status_number s) ↔ Complete P (record_of x.job) s
  -- (iv) a leaf may come next exactly where some entry of it continues the record
  pub next : (n : ℕ) → (x.told.next / 2 ^ n % 2 ≡ 1) ↔ ((s : Status) × Begins P (record_of x.job ++ (entry n s ∷ [])))
  -- (v) that the run may end is told, or some leaf as next, and never both
  pub one_of : EndsOrGoesOn x.told

-- A start that is not refused: what it tells, and the fresh job, whose record is empty.
pub record Starts (x : Standing) (t : Taken) : Type 0 where
  pub number : number_of t.answer ≡ none
  pub next : next_of t.answer ≡ x.told.next
  pub end : end_of t.answer ≡ end_number x.told.end
  pub job : t.job ≡ x.job
  pub fresh : record_of t.job ≡ []

-- "A job carries its plan and its record so far": the bytes of the plan file s and then zeros, the entries and then zeros; what an untimed job does not say is 0.
pub record Carries (s : List ℕ) (j : Job) : Type 0 where
  pub plan : j ≡ untimed_job (s ++ replicate (most_bytes - length s) 0) (length s) j.entries j.taken
  pub long : length j.entries ≡ 126
  pub zeros : (i : ℕ) → 2 * j.taken ≤ i → i < 126 → get_or j.entries i 0 ≡ 0

pub record Demand2 : Type 0 where
  -- a start on a plan file that is accepted, and on any other
  pub starts : (s : List ℕ) (l : Layout) → read_of s ≡ Ok l → Starts (started s l) (start_of s)
  pub turns_away : (s : List ℕ) (n : ℕ) → plan.number_of (read_of s) ≡ some n → Refuses n no_job (start_of s)
  -- every list of entries offered to a fresh job
  pub honest : (s : List ℕ) (l : Layout) → read_of s ≡ Ok l → (es : List Entry) → Honest (plan_process s l) (offer (started s l) es)
  -- and so of the list: what begins a run is taken whole, and what is taken of any list begins one
  pub lists : (s : List ℕ) (l : Layout) → read_of s ≡ Ok l → WholeLists (plan_process s l) (started s l)
  -- whatever is offered, the job carries its plan
  pub carries : (s : List ℕ) (l : Layout) → read_of s ≡ Ok l → (es : List Entry) → Carries s (offer (started s l) es).job
  -- and so of runs: no complete run of the plan is a proper beginning of another
  pub no_prefix : (s : List ℕ) (l : Layout) → read_of s ≡ Ok l → NoPrefix (plan_process s l)
  -- a job value that no file and no list of entries give is refused with 11, whatever the entry, and handed back unchanged
  pub false_jobs : (j : Job) → Sized j → (Real j → ⊥) → (e : Entry) → Refuses 11 j (take_of j e)
  -- such is the job beside a start's refusal
  pub no_job_lem : Real no_job → ⊥
