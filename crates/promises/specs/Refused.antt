-- Demand 1: "A broken plan file, a step not permitted at that moment, a made-up job and too short a lent area are refused first, each by
-- the number set down for it, on its stated condition and on no other, with every lent byte and the job unchanged. Every other input is
-- then accepted and gets its result, for all byte strings."
use Rattle.std.specs.Prelude.{◌≡◌, List, ◌↔◌, ℕ, ◌≤◌, ◌<◌, length, Ok}
use Rattle.std.proofs.Math.Option.{Option, none, some}
use Rattle.plan.specs.PlanFile.{most_actions, most_pairs, Bytes, PlanFile}
use Rattle.plan.specs.Refusals.{Broken}
use Rattle.plan.specs.Demand1.{InBlocks, Holds}
use Rattle.plan.specs.Reading as reader
use Rattle.plan.specs.declared.Layout.{Layout}
use Rattle.state.specs.declared.Entry.{Entry}
use Rattle.job.specs.Job.{no_job, start_of, take_of}
use Rattle.job.specs.Numbers as runner
use Rattle.job.specs.Offer.{record_of, Real, Sized}
use Rattle.job.specs.Demand2.{plan_process, Continues, Takes}
use Rattle.job.specs.declared.Job.{Job}
use Rattle.job.specs.declared.Told.{Told}
use Rattle.judge.specs.Verdict.{Answer, work_size, record_size}
use Rattle.judge.specs.Verdict as verdict
use Rattle.judge.specs.Judged.{Judged}
use Rattle.judge.specs.declared.Judgement.TheVariants.{Consistent, Violated}

-- Document 01's number of an answer to a file, or none: a broken file has the number of what is wrong with it, from 1 on, and a plan file none.
pub record Files (s : List ℕ) (number : Option ℕ) : Type 0 where
  pub broken : (n : ℕ) → (number ≡ some n) ↔ Broken most_actions most_pairs s n
  pub in_order : (number ≡ none) ↔ PlanFile most_actions most_pairs s
  pub from_one : (n : ℕ) → number ≡ some n → 1 ≤ n

-- A step that is permitted at that moment: a start and entries have given the job, and the entry continues its record to the beginning of
-- a run of its plan.
pub record Permitted (j : Job) (e : Entry) : Type 0 where
  pub real : Real j
  pub continues : Continues (plan_process real.file real.layout) (record_of j) e

-- An entry to any value of the type Job: 11 exactly where it is not permitted, a made-up job included, and the job is unchanged; else it
-- is taken.
pub record Entries (j : Job) (e : Entry) : Type 0 where
  pub refused : (runner.number_of (take_of j e).answer ≡ some 11) ↔ (Permitted j e → ⊥)
  pub unchanged : (Permitted j e → ⊥) → (take_of j e).job ≡ j
  pub taken : Permitted j e → Takes e (record_of j) (take_of j e)

-- An answer that is no refusal, whatever its number.
pub data Judges : Answer → Type 0 where
  consistent : Judges (Ok Consistent)
  violated : (set : ℕ) → Judges (Ok (Violated set))

-- A verdict: 10 and then 12 for too short an area, then the file's number; a refusal leaves both areas as they were, and a plan file is judged.
pub record Areas (s work work' old new : List ℕ) (v : Answer) : Type 0 where
  pub short_work : (verdict.number_of v ≡ some 10) ↔ (length work < work_size)
  pub short_record : (verdict.number_of v ≡ some 12) ↔ ((work_size ≤ length work) × (length old < record_size))
  pub file : work_size ≤ length work → record_size ≤ length old → Files s (verdict.number_of v)
  pub unchanged : (n : ℕ) → verdict.number_of v ≡ some n → (work' ≡ work) × (new ≡ old)
  pub judged : work_size ≤ length work → record_size ≤ length old → PlanFile most_actions most_pairs s → Judges v

pub record Demand1 : Type 0 where
  -- reading a file: its number, and that a plan file is read as accepted
  pub reading : (s : List ℕ) → Bytes s → Files s (reader.number_of (reader.read_of s))
  pub accepting : (s : List ℕ) → Bytes s → PlanFile most_actions most_pairs s → (l : Layout) × (reader.read_of s ≡ Ok l)
  -- what is accepted is read as it stands: the bodies that are found are those of the file's four blocks, and in order
  pub bodies : (s : List ℕ) → Bytes s → (l : Layout) → reader.read_of s ≡ Ok l → InBlocks s l × Holds most_actions most_pairs s l
  -- starting a job from it: its number, and that a start on a plan file tells; beside a refusal stands a job that is none
  pub starting : (s : List ℕ) → Bytes s → Files s (runner.number_of (start_of s).answer)
  pub telling : (s : List ℕ) → Bytes s → PlanFile most_actions most_pairs s → (t : Told) × ((start_of s).answer ≡ Ok t)
  pub no_start : (s : List ℕ) (n : ℕ) → runner.number_of (start_of s).answer ≡ some n → (start_of s).job ≡ no_job
  pub no_job_lem : Real no_job → ⊥
  -- an entry to a job, whatever its value
  pub entering : (j : Job) → Sized j → (e : Entry) → Entries j e
  -- a verdict on it, by the contract of `verdict`
  pub judging : (s work work' old new : List ℕ) (v : Answer) → Bytes s → Judged s work work' old new v → Areas s work work' old new v
