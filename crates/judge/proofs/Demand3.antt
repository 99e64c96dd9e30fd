-- Demand 3, put together from its parts.
use mathlib.Core.Path.{◌≡◌, refl, sym, ap, subst, ◌∙◌}
use mathlib.Core.Bool.{Bool, true, false, not, true≢false}
use mathlib.Core.List.{List, ◌++◌, map, Memᴰ}
use mathlib.Core.Logic.{◌↔◌}
use mathlib.Core.Option as option
use Prim.Native.Nat.{ℕ, ◌≤◌, ◌<◌}
use native.Mathlib.Omega.{arith}
use lib.ListN.{length, take, drop}
use lib.Seq.{take-append_seam}
use borrow.Author.Tests.{lt-ltb, le-ltb, not-true, not-false}
use Rattle.process.specs.Process.{Status, Run}
use Rattle.process.specs.Figure2.{Complete}
use Rattle.plan.specs.Reading.{bytes_of, read_of}
use Rattle.plan.specs.declared.Layout.{Layout}
use Rattle.plan.specs.Reading as reading
use Rattle.plan.specs.declared.Fault.{Fault}
use Rattle.plan.proofs.Demand1.{demand1}
use Rattle.state.specs.State.{entries_from}
use Rattle.state.specs.declared.Entry.{Entry}
use Rattle.job.specs.Offer.{started}
use Rattle.job.specs.Lists.{offered}
use Rattle.job.specs.Demand2.{plan_process}
use Rattle.job.proofs.Standing.{started_fine}
use Rattle.job.proofs.TakesAll.{takes_to_end}
use Rattle.meaning.proofs.Laws.{laws}
use Rattle.std.specs.Prelude.{Option, Some, None, Result, Ok, Err}
use Rattle.judge.specs.Verdict.{Answer, smallest, answer_of, keeps_rule, plan_sets_of, work_size, record_size, verdict_on, verdict_of, number_of, says_consistent, set_given}
use Rattle.judge.specs.Shown.{shown_entries, shown_run, run_set, ShowsRun}
use Rattle.judge.specs.Judged.{Judged, Recorded, RecordAfter}
use Rattle.judge.specs.Demand3.{Replays, PlanRule, keeps, AllKeep, Violation, Says, Demand3}
use Rattle.judge.specs.declared.Judgement.{Judgement}
use Rattle.judge.specs.declared.Judgement.TheVariants.{Consistent, Violated}
use Rattle.judge.specs.declared.Refusal.TheVariants.{WorkArea, RecordArea, Plan}
use Rattle.judge.proofs.Smallest.{IsSmallest, Tells, smallest_tells}
use Rattle.judge.proofs.PlanRuns.{left_by, run_set_listed}
use Rattle.judge.proofs.Decoded.{shown_offered}
use Rattle.judge.proofs.Plain.{only_shown, one_answer}

front_of : (xs ys : List ℕ) → length xs ≡ record_size → take record_size (xs ++ ys) ≡ xs
front_of xs ys e = subst (λ (n : ℕ). take n (xs ++ ys) ≡ xs) e (take-append_seam xs ys)

-- a complete run, offered whole to a fresh job of its plan
replays : (s : List ℕ) (l : Layout) → read_of s ≡ Ok l → (run : Run) (status : Status) → Complete (plan_process s l) run status → Replays s l (map offered run) status
unfolding entries_from
replays s l h run status c = takes_to_end s l h run (started s l) (started_fine s l h) status c

abbrev layout_in : Layout → Result Layout Fault → Layout
layout_in l (Ok k) = k
layout_in l (Err f) = l

pub found_answer : (s : List ℕ) (work records : ℕ) → work_size ≤ work → record_size ≤ records → verdict_of s work records ≡ verdict_on s (read_of s)
found_answer s work records h k = rw (le-ltb work work_size h, le-ltb records record_size k)

pub short_work : (s : List ℕ) (work records : ℕ) → work < work_size → verdict_of s work records ≡ Err WorkArea
short_work s work records h = rw (lt-ltb work work_size h)

pub short_record : (s : List ℕ) (work records : ℕ) → work_size ≤ work → records < record_size → verdict_of s work records ≡ Err RecordArea
short_record s work records h k = rw (le-ltb work work_size h, lt-ltb records record_size k)

pub refused_file : (s : List ℕ) (work records : ℕ) → work_size ≤ work → record_size ≤ records → (f : Fault) → read_of s ≡ Err f → verdict_of s work records ≡ Err (Plan f)
refused_file s work records h k f e = found_answer s work records h k ∙ ap (verdict_on s) e

module _ (s : List ℕ) (l : Layout) (h : read_of s ≡ Ok l) (rule : PlanRule s l) where
  -- the stack's value is that of the rule's one part: its places are enough
  stack_keeps : (t : ℕ) → keeps_rule s l t ≡ keeps s l rule t
  stack_keeps t =
      let b = demand1.holds s l h in
      let few = b.types_hold.size in
      let short = b.rule_holds.size in
      (laws (bytes_of s l.pairs) t).satisfied rule (omega (arith, few.whole, few.few)) (omega (arith, short.whole, short.few))

  abbrev breaks : ℕ → Bool
  breaks t = not (keeps_rule s l t)

  abbrev found : Option ℕ
  found = smallest breaks (plan_sets_of s l)

  abbrev InList : ℕ → Type 0
  InList t = Memᴰ t (plan_sets_of s l)

  tells : Tells breaks InList found
  tells = smallest_tells breaks (plan_sets_of s l)

  all_keep : Tells breaks InList None → AllKeep s l rule
  all_keep none run status c = sym (stack_keeps (run_set s l run)) ∙ not-false _ (none (run_set s l run) (run_set_listed s l h run status c))

  not_all : (u : ℕ) → IsSmallest breaks InList u → AllKeep s l rule → ⊥
  not_all u m all =
      let (status, run, c, e) = left_by s l h u m.is in
      true≢false (sym (rw e at (all run status c)) ∙ sym (stack_keeps u) ∙ not-true _ m.holds)

  -- consistent, or violated: by what was found
  consistent_says : (x : Option ℕ) → Tells breaks InList x → (says_consistent (Ok (answer_of x)) ≡ true) ↔ AllKeep s l rule
  consistent_says None t = (λ e. all_keep t, λ a. refl)
  consistent_says (Some u) t = (λ e. absurd (true≢false (sym e)), λ a. absurd (not_all u t a))

  violated_says : (x : Option ℕ) → Tells breaks InList x → says_consistent (Ok (answer_of x)) ≡ false → (answer_of x ≡ Violated (set_given (Ok (answer_of x)))) × IsSmallest breaks InList (set_given (Ok (answer_of x)))
  violated_says None t e = absurd (true≢false e)
  violated_says (Some u) t e = (refl, t)

  never_refused : (x : Option ℕ) → number_of (Ok (answer_of x)) ≡ option.none
  never_refused None = refl
  never_refused (Some u) = refl

  -- the bytes that a violation leaves in the record area
  violation : (set : ℕ) (bytes : List ℕ) → IsSmallest breaks InList set → ShowsRun s l set bytes → Violation s l rule set bytes
  violation set bytes m r = record {
    plainest = r.plainest;
    breaks = sym (stack_keeps set) ∙ not-true _ m.holds;
    replays = subst (λ (es : List Entry). Replays s l es r.plainest.status) (sym (ap shown_entries r.padded ∙ shown_offered (shown_run bytes))) (replays s l h (shown_run bytes) r.plainest.status r.plainest.complete);
    smallest = λ run t c k. m.least (run_set s l run) (run_set_listed s l h run t c) (rw (stack_keeps (run_set s l run), k));
  }

  module _ (work work' old new : List ℕ) (v : Answer) (j : Judged s work work' old new v) (enough : work_size ≤ length work) (room : record_size ≤ length old) where
    is : v ≡ Ok (answer_of found)
    is = j.answer ∙ found_answer s (length work) (length old) enough room ∙ ap (verdict_on s) h

    same_layout : (k : Layout) → read_of s ≡ Ok k → k ≡ l
    same_layout k e = ap (layout_in l) (sym e ∙ h)

    recorded : (set : ℕ) → IsSmallest breaks InList set → Recorded s set old new → Violation s l rule set (take record_size new)
    recorded set m r =
        let x = r.shows in
        let y : ShowsRun s l set r.bytes = subst (λ (k : Layout). ShowsRun s k set r.bytes) (same_layout r.layout r.accepted) x in
        let front : take record_size new ≡ r.bytes = ap (take record_size) r.is ∙ front_of r.bytes (drop record_size old) x.long in
        rw front (violation set r.bytes m y)

    violated : says_consistent v ≡ false → Violation s l rule (set_given v) (take record_size new)
    violated e =
        let (a, m) = violated_says found tells (ap says_consistent (sym is) ∙ e) in
        let b : v ≡ Ok (Violated (set_given (Ok (answer_of found)))) = is ∙ ap Ok a in
        subst (λ (t : ℕ). Violation s l rule t (take record_size new)) (ap set_given (sym is))
        (recorded (set_given (Ok (answer_of found))) m (subst (λ (x : Answer). RecordAfter s x old new) b j.record_after))

    says : Says s l rule new v
    says = record {
      not_refused = ap number_of is ∙ never_refused found;
      consistent = rw is (consistent_says found tells);
      violated = violated;
    }

-- a file's own number
file_number : (s : List ℕ) (r : Result Layout Fault) (n : ℕ) → reading.number_of r ≡ option.some n → number_of (verdict_on s r) ≡ option.some n
file_number s (Err f) n e = e
file_number s (Ok l) n e = cc

pub demand3 : Demand3
demand3 = record {
  says = λ s work work' old new v j enough room l h rule. says s l h rule work work' old new v j enough room;
  only_shown = only_shown;
  one_answer = one_answer;
  no_work = λ s work records h. ap number_of (short_work s work records h);
  no_record = λ s work records h k. ap number_of (short_record s work records h k);
  no_plan = λ s work records h k n e. ap number_of (found_answer s work records h k) ∙ file_number s (read_of s) n e;
}
