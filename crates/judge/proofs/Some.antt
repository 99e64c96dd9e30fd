-- On every input some answer meets the contract of `verdict`: the one that is computed. Where it gives a set, a complete run leaves it, and the plainest is shown.
use mathlib.Core.Path.{◌≡◌, refl}
use mathlib.Core.Bool.{Bool, true, false, not, cond}
use mathlib.Core.List.{List, Memᴰ}
use Prim.Native.Nat.{ℕ}
use lib.Dec.{ltb}
use lib.ListN.{length}
use Rattle.plan.specs.Reading.{bytes_of, read_of}
use Rattle.plan.specs.declared.Layout.{Layout}
use Rattle.plan.specs.declared.Fault.{Fault}
use Rattle.std.specs.Prelude.{Option, Some, None, Result, Ok, Err}
use Rattle.plainest.specs.Shown.{LeftBy}
use Rattle.judge.specs.Verdict.{Answer, work_size, record_size, smallest, answer_of, keeps_rule, plan_sets_of, verdict_on}
use Rattle.judge.specs.Shown.{ShowsRun}
use Rattle.judge.specs.Judged.{RecordAfter}
use Rattle.judge.specs.Record.{shown_on, record_for, SomeAnswer}
use Rattle.judge.specs.declared.Refusal.TheVariants.{WorkArea, RecordArea}
use Rattle.judge.proofs.Smallest.{Tells, smallest_tells}
use Rattle.judge.proofs.PlanRuns.{left_by}
use Rattle.judge.proofs.Plain.{shows_plainest}

module _ (s old : List ℕ) where
  abbrev After : Answer → Type 0
  After v = RecordAfter s v old (record_for s v old)

  module _ (l : Layout) (h : read_of s ≡ Ok l) where
    shows : (set : ℕ) → Memᴰ set (plan_sets_of s l) → ShowsRun s l set (shown_on s (read_of s) set)
    shows set m =
        let (status, run, c, e) = left_by s l h set m in
        let x : LeftBy (bytes_of s l.types) (bytes_of s l.nodes) set = record { run = run; status = status; complete = c; leaves = e } in
        rw h (shows_plainest s l h set x)

    found : (x : Option ℕ) → Tells (λ t. not (keeps_rule s l t)) (λ t. Memᴰ t (plan_sets_of s l)) x → After (Ok (answer_of x))
    found None t = refl
    found (Some set) t = record { layout = l; accepted = h; bytes = shown_on s (read_of s) set; shows = shows set t.is; is = refl }

  after_reading : (r : Result Layout Fault) → read_of s ≡ r → After (verdict_on s r)
  after_reading (Ok l) h = found l h (smallest (λ t. not (keeps_rule s l t)) (plan_sets_of s l)) (smallest_tells (λ t. not (keeps_rule s l t)) (plan_sets_of s l))
  after_reading (Err f) h = refl

  -- short areas are refused, and change nothing
  after_checks : (work records : Bool) → After (cond work (Err WorkArea) (cond records (Err RecordArea) (verdict_on s (read_of s))))
  after_checks true records = refl
  after_checks false true = refl
  after_checks false false = after_reading (read_of s) refl

pub some_answer : SomeAnswer
some_answer s work old = record { answer = refl; area_after = refl; record_after = after_checks s old (ltb (length work) work_size) (ltb (length old) record_size) }
