-- What is promised of timed jobs, put together from its parts.
use Rattle.std.specs.Prelude.{Result, Ok, Err}
use mathlib.Core.Path.{◌≡◌, refl, sym, ap, ◌∙◌}
use mathlib.Core.Bool.{Bool, true, false, cond}
use mathlib.Core.List.{List}
use mathlib.Core.Logic.{◌⊎◌, inl, inr}
use Prim.Native.Nat.{ℕ}
use native.Mathlib.Omega.{arith}
use lib.Dec.{eqb}
use Rattle.blocks.proofs.Bounded.{decide}
use Rattle.hours.specs.Windows.{windows_ok, windows_checked, WindowFile}
use Rattle.hours.specs.Hours.{entry_checked}
use Rattle.hours.specs.declared.Fault as hours
use Rattle.hours.specs.declared.Fault.TheVariants.{Windows}
use Rattle.hours.proofs.ReadsWindows.{passes_file, file_passes}
use Rattle.plan.specs.Reading.{bytes_of, read_of}
use Rattle.plan.specs.Reading as plan
use mathlib.Core.Option.{some, some-ne-none}
use Rattle.plan.specs.declared.Layout.{Layout}
use Rattle.plan.specs.declared.Fault.{Fault}
use Rattle.state.specs.State.{entries_from}
use Rattle.state.specs.declared.Entry.{Entry}
use Rattle.job.specs.Job.{no_job, refusal, plan_of, zeros_from, tidy, take_on, take_of}
use Rattle.job.specs.Demand2.{Starts}
use Rattle.job.specs.Numbers.{Refuses}
use Rattle.job.specs.Offer.{Standing, started, Real, Sized}
use Rattle.job.specs.Timed.{struck_out, start_checked, start_timed_on, start_timed_of, windows_of, timed_tidy, kept_on, timed_test, at_minute, take_timed_on, take_timed_of}
use Rattle.job.specs.TimedRunner.{actions_of, TimedEntry, offer_timed, started_timed, RealTimed, SaysNoHours, TimedRunner}
use Rattle.job.specs.declared.Refusal.TheVariants as why
use Rattle.job.specs.declared.Job.{Job}
use Rattle.job.specs.declared.Taken.{Taken}
use Rattle.job.proofs.Tidy.{untimed_is}
use Rattle.job.proofs.Good.{Good}
use Rattle.job.proofs.Standing.{refuses_so}
use Rattle.job.proofs.Real.{real_good, refused_or_good, good_real}
use Rattle.job.proofs.Hourly.{for_layout, for_plan, struck_back, passes_test}
use Rattle.job.proofs.Hours.{takes_offered, Kept, started_kept, offered_kept, keeps_hours}
use Rattle.job.proofs.RealTimed.{passing_real}

no_file_fails : (n : ℕ) (w : List ℕ) → (WindowFile n w → ⊥) → windows_checked n w ≡ Err Windows
no_file_fails n w h = go (decide (windows_ok n w))
  where
    go : (windows_ok n w ≡ true) ⊎ (windows_ok n w ≡ false) → windows_checked n w ≡ Err Windows
    go (inl e) = absurd (h (passes_file n w (rw e)))
    go (inr e) = rw e

-- a start goes by what the plan file reads as, and then by the window file
module _ (s w : List ℕ) (l : Layout) (acc : read_of s ≡ Ok l) where
  started_with : (q : Result Unit hours.Fault) → windows_checked l.types.len w ≡ q → start_timed_of s w ≡ start_checked s w l q
  started_with q h = ap (start_timed_on s w) acc ∙ ap (start_checked s w l) h

  starts_so : WindowFile (actions_of s l) w → Starts (started_timed s l w) (start_timed_of s w)
  unfolding entries_from
  starts_so f =
      rw (started_with (Ok tt) (file_passes l.types.len w (for_layout s l acc w f))) (record { number = refl; next = refl; end = refl; job = refl; fresh = refl })

  no_windows_so : (WindowFile (actions_of s l) w → ⊥) → Refuses 23 no_job (start_timed_of s w)
  no_windows_so n =
      refuses_so (why.Hours Windows) no_job (start_timed_of s w) (started_with (Err Windows) (no_file_fails l.types.len w (λ f. n (for_plan s l acc w f))))

turns_away_so : (s w : List ℕ) (n : ℕ) (a : Result Layout Fault) → plan.number_of a ≡ some n → Refuses n no_job (start_timed_on s w a)
turns_away_so s w n (Ok l) h = absurd (some-ne-none n (sym h))
turns_away_so s w n (Err f) h = record { number = h; unchanged = refl }

-- what is real is kept
module _ (j : Job) (r : RealTimed j) where
  in_hours : WindowFile r.layout.types.len r.windows
  in_hours = for_layout r.file r.layout r.accepted r.windows r.window_file

  kept : Kept r.file r.layout r.accepted r.windows in_hours (offer_timed (started_timed r.file r.layout r.windows) r.entries)
  kept =
      offered_kept r.file r.layout r.accepted r.windows in_hours r.entries (started_timed r.file r.layout r.windows)
      (started_kept r.file r.layout r.accepted r.windows in_hours)

  passes : timed_test j ≡ true
  passes =
      ap timed_test (r.is ∙ ap (λ (x : Standing). x.job) kept.is)
      ∙ passes_test r.file r.layout r.accepted r.windows in_hours kept.untimed.job kept.fine.good kept.minute kept.came

  struck_real : Real (struck_out j)
  struck_real =
      let x = started r.file r.layout in
      record {
        file = r.file;
        layout = r.layout;
        accepted = r.accepted;
        entries = _;
        is =
            ap struck_out (r.is ∙ ap (λ (y : Standing). y.job) kept.is)
            ∙ struck_back r.file r.layout r.accepted r.windows in_hours kept.untimed.job kept.fine.good kept.minute
            ∙ ap (λ (y : Standing). y.job) (takes_offered x kept.untimed _ kept.accepted);
      }

  says_timed_so : j.timed ≡ true
  says_timed_so = ap (λ (i : Job). i.timed) (r.is ∙ ap (λ (x : Standing). x.job) kept.is)

-- an entry with a minute goes by the job's test, and then by the untimed runner's answer
module _ (j : Job) (e : Entry) (m : ℕ) where
  hour_on : Result Layout Fault → Result Unit hours.Fault
  hour_on (Ok l) = entry_checked (windows_of j) (bytes_of (plan_of j) l.nodes) e.leaf j.minute m
  hour_on (Err f) = Ok tt

  answered : Taken → Taken
  answered t = at_minute j (hour_on (read_of (plan_of j))) m t.job t.answer

  by_test : take_timed_of j e m ≡ cond (timed_test j) (answered (take_of (struck_out j) e)) (refusal why.Entry j)
  unfolding hour_on answered
  by_test = go (timed_tidy j) (read_of (plan_of j))
    where
      go : (t : Bool) (a : Result Layout Fault)
          → cond t (take_timed_on j e m a) (refusal why.Entry j)
          ≡ cond (cond t (kept_on j a) false) (at_minute j (hour_on a) m (take_of (struck_out j) e).job (take_of (struck_out j) e).answer) (refusal why.Entry j)
      go true (Ok l) = refl
      go true (Err f) = refl
      go false a = refl

  test_failed : timed_test j ≡ false → take_timed_of j e m ≡ refusal why.Entry j
  test_failed h = by_test ∙ ap (λ (t : Bool). cond t (answered (take_of (struck_out j) e)) (refusal why.Entry j)) h

  struck_refused : take_of (struck_out j) e ≡ refusal why.Entry (struck_out j) → take_timed_of j e m ≡ refusal why.Entry j
  unfolding answered
  struck_refused h = by_test ∙ ap (λ (t : Taken). cond (timed_test j) (answered t) (refusal why.Entry j)) h ∙ either (timed_test j)
    where
      either : (t : Bool) → cond t (refusal why.Entry j) (refusal why.Entry j) ≡ refusal why.Entry j
      either true = refl
      either false = refl

struck_sized : (j : Job) → Sized j → Sized (struck_out j)
struck_sized j z = record { file = z.file; entries = z.entries; windows = refl; minute = omega arith }

false_refused : (j : Job) → Sized j → (RealTimed j → ⊥) → (t : TimedEntry) → Refuses 11 j (take_timed_of j t.entry t.minute)
false_refused j z n t = refuses_so why.Entry j (take_timed_of j t.entry t.minute) (go (refused_or_good (struck_out j) (struck_sized j z) t.entry) (decide (timed_test j)))
  where
    go : (take_of (struck_out j) t.entry ≡ refusal why.Entry (struck_out j)) ⊎ ((l : Layout) × (acc : read_of (plan_of j) ≡ Ok l) × Good (plan_of j) l acc (struck_out j))
        → (timed_test j ≡ true) ⊎ (timed_test j ≡ false) → take_timed_of j t.entry t.minute ≡ refusal why.Entry j
    go (inl q) h = struck_refused j t.entry t.minute q
    go (inr g) (inr h) = test_failed j t.entry t.minute h
    go (inr (l, acc, g)) (inl h) =
        absurd (n (passing_real j z h (good_real (struck_out j) (struck_sized j z) l acc g)))

says_none_so : (j : Job) → Real j → SaysNoHours j
says_none_so j r =
    let g = real_good j r in
    let same = untimed_is j g.sized g.plain in
    record {
      timed = sym (ap (λ (i : Job). i.timed) same);
      windows = sym (ap (λ (i : Job). i.windows) same);
      windows_len = sym (ap (λ (i : Job). i.windows_len) same);
      minute = sym (ap (λ (i : Job). i.minute) same);
    }

minute_due_so : (j : Job) → j.timed ≡ true → (e : Entry) → Refuses 11 j (take_of j e)
minute_due_so j h e =
    refuses_so why.Entry j (take_of j e) (ap (λ (t : Bool). cond (cond t false (cond (eqb j.windows_len 0) (cond (eqb j.minute 0) (zeros_from j.windows 0) false) false)) (cond (tidy j) (take_on j e (read_of (plan_of j))) (refusal why.Entry j)) (refusal why.Entry j)) h)

no_minute_due_so : (j : Job) → j.timed ≡ false → (t : TimedEntry) → Refuses 11 j (take_timed_of j t.entry t.minute)
no_minute_due_so j h t = refuses_so why.Entry j (take_timed_of j t.entry t.minute) (test_failed j t.entry t.minute (rw h))

pub timed_runner : TimedRunner
timed_runner = record {
  minutes = refl;
  starts = starts_so;
  turns_away = λ s w n h. turns_away_so s w n (read_of s) h;
  no_windows = no_windows_so;
  keeps = λ s w l acc f ts.
      let g = for_layout s l acc w f in
      keeps_hours s l acc w g (offer_timed (started_timed s l w) ts) (offered_kept s l acc w g ts (started_timed s l w) (started_kept s l acc w g));
  false_jobs = false_refused;
  decides = λ j z. (λ r. (passes j r, struck_real j r), λ (h, r). passing_real j z h r);
  tested = λ j h t. refuses_so why.Entry j (take_timed_of j t.entry t.minute) (test_failed j t.entry t.minute h);
  minute_due = minute_due_so;
  no_minute_due = no_minute_due_so;
  says_none = says_none_so;
  says_timed = says_timed_so;
}
