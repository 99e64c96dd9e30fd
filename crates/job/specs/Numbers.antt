-- Document 01's number and values for each answer of the runner: "If an answer is an enum, a definition gives this paper's number and
-- values for each of its cases. The promises use this definition."
use Rattle.std.specs.Prelude.{◌≡◌, ℕ, Result, Ok, Err}
use Rattle.std.proofs.Math.Option.{Option, none, some}
use Rattle.plan.specs.Fault as plan
use Rattle.hours.specs.Fault as hours
use Rattle.job.specs.Job.{Answer}
use Rattle.job.specs.declared.Status.TheVariants.{Succeeded, Failed}
use Rattle.job.specs.declared.End.{End}
use Rattle.job.specs.declared.End.TheVariants.{Open, MayEnd}
use Rattle.job.specs.declared.Told.{Told}
use Rattle.job.specs.declared.Refusal.{Refusal}
use Rattle.job.specs.declared.Refusal.TheVariants.{Plan, Entry, Hours}
use Rattle.job.specs.declared.Job.{Job}
use Rattle.job.specs.declared.Taken.{Taken}

-- 1 to 9 for a plan file, 11 for an entry or a job, 21 to 23 for hours
abbrev pub number : Refusal → ℕ
number (Plan f) = plan.number f
number Entry = 11
number (Hours f) = hours.number f

-- the number of a refusal; what is told has none, so that no number passes for it
abbrev pub number_of : Answer → Option ℕ
number_of (Ok t) = none
number_of (Err r) = some (number r)

-- The answer with that number in the place of the refusal. Each refusal has a number of its own, so it is the same answer, told otherwise:
-- `one_answer` of proofs/Numbers is the proof.
abbrev pub numbered : Answer → Result Told ℕ
numbered (Ok t) = Ok t
numbered (Err r) = Err (number r)

-- "which leaves may come next, as 63 bits (bit n for node n)"
abbrev pub next_of : Answer → ℕ
next_of (Ok t) = t.next
next_of (Err r) = 0

-- "whether the run may end here, and if so whether it succeeded": 0 where it may not, and else the number that an entry has for such an
-- outcome, 1 or 2
abbrev pub end_number : End → ℕ
end_number Open = 0
end_number (MayEnd Succeeded) = 1
end_number (MayEnd Failed) = 2

abbrev pub end_of : Answer → ℕ
end_of (Ok t) = end_number t.end
end_of (Err r) = 0

-- "A refusal gives its number only; lent bytes and job are unchanged."
pub record Refuses (n : ℕ) (j : Job) (t : Taken) : Type 0 where
  pub number : number_of t.answer ≡ some n
  pub unchanged : t.job ≡ j
