-- Demand 3: "For every accepted plan the verdict is "consistent" exactly when every complete run of it, whatever the interleaving, the
-- choices and the failures that the action types permit, leaves a set of finished actions that satisfies the normalised rule. Otherwise
-- the verdict gives a set number and shows a complete run of the plan that breaks the rule and leaves exactly that set. When this run is
-- offered to a fresh job of the plan, every entry is taken, and after the last the runner says that the run may end. And every other
-- complete run of the plan that breaks the rule leaves a set at least as large, read as a binary number." Document 02 (N7) adds: "Among complete runs with the smallest
-- violating set, show one with the fewest failed entries. If several have as few, show the one whose 126 record bytes come first in byte order. Which run is
-- shown is then no longer left free."
use Rattle.std.specs.Prelude.{◌≡◌, true, false, List, ℕ, ◌≤◌, length, take, drop, replicate, Ok}
use Rattle.plan.specs.Reading.{read_of}
use Rattle.plan.specs.declared.Layout.{Layout}
use Rattle.plainest.specs.Bytes.{record_bytes}
use Rattle.judge.specs.Verdict.{Answer, work_size, record_size, says_consistent}
use Rattle.judge.specs.Shown.{shown_run, OnlyShown}
use Rattle.judge.specs.Judged.{Judged, OneAnswer, cleared_work}
use Rattle.judge.specs.Demand3.{PlanRule, Says}

-- "After a verdict the first 65,536 work bytes are 0. The first 126 record bytes hold the run, then zeros; all zeros if consistent. ..
-- Later bytes are untouched."
pub record AfterVerdict (work work' old new : List ℕ) (v : Answer) : Type 0 where
  pub cleared : work' ≡ cleared_work work
  pub run : says_consistent v ≡ false → take record_size new ≡ record_bytes (shown_run (take record_size new))
  pub zeros : says_consistent v ≡ true → take record_size new ≡ replicate record_size 0
  pub later : drop record_size new ≡ drop record_size old

pub record Demand3 : Type 0 where
  -- the bytes of an accepted plan's rule are put together in some way
  pub rule : (s : List ℕ) (l : Layout) → read_of s ≡ Ok l → PlanRule s l
  -- by every such way the verdict says what it must, by the contract of `verdict`
  pub says : (s work work' old new : List ℕ) (v : Answer) → Judged s work work' old new v → work_size ≤ length work → record_size ≤ length old
      → (l : Layout) → read_of s ≡ Ok l → (rule : PlanRule s l) → Says s l rule new v
  -- and leaves in the lent areas
  pub leaves : (s work work' old new : List ℕ) (v : Answer) → Judged s work work' old new v → work_size ≤ length work → record_size ≤ length old
      → (l : Layout) → read_of s ≡ Ok l → AfterVerdict work work' old new v
  -- no other bytes may be shown, and on one input there is one answer and one thing left in each area
  pub only_shown : OnlyShown
  pub one_answer : OneAnswer
