-- Demand 3, over the runner's own entries: "consistent" is said exactly where every complete run of the plan leaves a set that satisfies
-- its rule; else the smallest set that breaks it is given, with the plainest complete run that leaves it (N7 of document 02), which a fresh job of the plan
-- takes entry by entry to its end. `demand3` in proofs/ proves it of every answer that the contract of `verdict` admits; of one input there is one.
use Rattle.std.specs.Prelude.{◌≡◌, Bool, true, false, List, ◌↔◌, ℕ, ◌≤◌, ◌<◌, length, take, Ok}
use Rattle.std.proofs.Math.Option.{none, some}
use Rattle.process.specs.Process.{Status, Run}
use Rattle.process.specs.Figure2.{Complete}
use Rattle.plan.specs.Reading.{bytes_of, read_of}
use Rattle.plan.specs.Reading as reading
use Rattle.plan.specs.declared.Layout.{Layout}
use Rattle.bodies.specs.Rule.{Rule}
use Rattle.meaning.specs.Meaning.{meaning}
use Rattle.state.specs.declared.Entry.{Entry}
use Rattle.job.specs.Offer.{started, TakesToEnd}
use Rattle.job.specs.Demand2.{plan_process}
use Rattle.judge.specs.Verdict.{Answer, work_size, record_size, verdict_of, number_of, says_consistent, set_given}
use Rattle.judge.specs.Shown.{shown_entries, shown_run, run_set, PlainestOf, OnlyShown}
use Rattle.judge.specs.Judged.{Judged, OneAnswer}

-- "A run is offered to a fresh job where its first entry goes to the job that the start gave and each later one to the job that the one
-- before it gave back": every entry of the whole run is taken, and after the last one the run may end with the status.
abbrev pub Replays : List ℕ → Layout → List Entry → Status → Type 0
Replays s l es status = TakesToEnd (started s l) es status

-- The rule of a plan file: how its bytes are put together, as demand 1 says that they are.
abbrev pub PlanRule : List ℕ → Layout → Type 0
PlanRule s l = Rule (length (bytes_of s l.types)) (bytes_of s l.rule)

-- "A set satisfies the rule where the positive value of the one part that remains is true for it; otherwise it breaks the rule, as does
-- each run that leaves it."
abbrev pub keeps : (s : List ℕ) (l : Layout) → PlanRule s l → ℕ → Bool
keeps s l rule set = (meaning (bytes_of s l.pairs) set rule).positive

-- Every complete run of the plan leaves a set that satisfies the rule.
abbrev pub AllKeep : (s : List ℕ) (l : Layout) → PlanRule s l → Type 0
AllKeep s l rule = (run : Run) (status : Status) → Complete (plan_process s l) run status → keeps s l rule (run_set s l run) ≡ true

-- The set, with the run in these record bytes, is what breaks the rule, and no complete run that breaks it leaves a smaller set.
pub record Violation (s : List ℕ) (l : Layout) (rule : PlanRule s l) (set : ℕ) (bytes : List ℕ) : Type 0 where
  -- the run is complete and leaves the set; no complete run that leaves it has fewer failed entries, and of none with as many the record bytes come first
  pub plainest : PlainestOf s l set (shown_run bytes)
  pub breaks : keeps s l rule set ≡ false
  pub replays : Replays s l (shown_entries bytes) plainest.status
  pub smallest : (run : Run) (t : Status) → Complete (plan_process s l) run t → keeps s l rule (run_set s l run) ≡ false → set ≤ run_set s l run

-- What an answer says, of an accepted plan file.
pub record Says (s : List ℕ) (l : Layout) (rule : PlanRule s l) (new : List ℕ) (v : Answer) : Type 0 where
  pub not_refused : number_of v ≡ none
  pub consistent : (says_consistent v ≡ true) ↔ AllKeep s l rule
  pub violated : says_consistent v ≡ false → Violation s l rule (set_given v) (take record_size new)

pub record Demand3 : Type 0 where
  -- an accepted file, and areas that are large enough
  pub says : (s work work' old new : List ℕ) (v : Answer) → Judged s work work' old new v → work_size ≤ length work → record_size ≤ length old
      → (l : Layout) → read_of s ≡ Ok l → (rule : PlanRule s l) → Says s l rule new v
  -- the run shown is the only one that may be, and so is the whole answer
  pub only_shown : OnlyShown
  pub one_answer : OneAnswer
  -- every other input is refused: 10, then 12, then by the file's number
  pub no_work : (s : List ℕ) (work records : ℕ) → work < work_size → number_of (verdict_of s work records) ≡ some 10
  pub no_record : (s : List ℕ) (work records : ℕ) → work_size ≤ work → records < record_size → number_of (verdict_of s work records) ≡ some 12
  pub no_plan : (s : List ℕ) (work records : ℕ) → work_size ≤ work → record_size ≤ records → (n : ℕ) → reading.number_of (read_of s) ≡ some n → number_of (verdict_of s work records) ≡ some n
