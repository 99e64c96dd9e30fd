-- An entry with a minute to a good untimed job that was given hours: the untimed runner's answer, and then what the windows say of the minute.
use Rattle.std.specs.Prelude.{Result, Ok, Err}
use mathlib.Core.Path.{◌≡◌, sym, ap, ap₂, subst, ◌∙◌}
use mathlib.Core.Bool.{Bool, true, false, cond}
use mathlib.Core.List.{List}
use Prim.Native.Nat.{ℕ, ◌-◌, ◌≤◌}
use native.Mathlib.Omega.{arith}
use lib.Dec.{leb}
use lib.ListN.{length, replicate}
use lib.Seq.{take-append_seam}
use borrow.Author.Tests.{le-leb}
use Rattle.hours.specs.Windows.{WindowFile}
use Rattle.hours.specs.Hours.{entry_checked}
use Rattle.hours.specs.declared.Fault as hours
use Rattle.hours.specs.Kept.{kept, came_by}
use Rattle.hours.proofs.ReadsWindows.{reads_windows}
use Rattle.hours.proofs.Kept.{kept_holds}
use Rattle.plan.specs.Reading.{bytes_of, read_of}
use Rattle.plan.specs.declared.Layout.{Layout}
use Rattle.plan.proofs.Blocks.{body_length_lem}
use Rattle.plan.proofs.Inside.{types_inside}
use Rattle.state.specs.declared.Entry.{Entry}
use Rattle.job.specs.Job.{most_windows, refusal, plan_of, zeros_from, take_of}
use Rattle.job.specs.Timed.{struck_out, windows_of, timed_tidy, kept_on, timed_test, at_minute, take_timed_with, take_timed_on, take_timed_of, with_hours}
use Rattle.job.specs.TimedRunner.{actions_of}
use Rattle.job.specs.declared.Refusal.TheVariants as why
use Rattle.job.specs.declared.Job.{Job}
use Rattle.job.specs.declared.Taken.{Taken}
use Rattle.job.specs.declared.Told.{Told}
use Rattle.job.proofs.Areas.{padded_zeros}
use Rattle.job.proofs.Tidy.{untimed_is}
use Rattle.job.proofs.Good.{Good, runs_on, tidy_holds}

-- an accepted plan has as many actions as its layout says
types_long : (s : List ℕ) (l : Layout) → read_of s ≡ Ok l → actions_of s l ≡ l.types.len
types_long s l acc = body_length_lem s l.types (types_inside s l acc)

-- a window file for the plan's actions is one for as many as its layout says
pub for_layout : (s : List ℕ) (l : Layout) → read_of s ≡ Ok l → (w : List ℕ) → WindowFile (actions_of s l) w → WindowFile l.types.len w
for_layout s l acc w = subst (λ (n : ℕ). WindowFile n w) (types_long s l acc)

pub for_plan : (s : List ℕ) (l : Layout) → read_of s ≡ Ok l → (w : List ℕ) → WindowFile l.types.len w → WindowFile (actions_of s l) w
for_plan s l acc w = subst (λ (n : ℕ). WindowFile n w) (sym (types_long s l acc))

-- a window file for an accepted plan has room in a job
pub windows_room : (s : List ℕ) (l : Layout) → read_of s ≡ Ok l → (w : List ℕ) → WindowFile l.types.len w → length w ≤ most_windows
windows_room s l acc w f =
    omega (arith, reads_windows.most l.types.len w f, (runs_on s l acc).types_few, types_long s l acc)

module _ (s : List ℕ) (l : Layout) (acc : read_of s ≡ Ok l) (w : List ℕ) (f : WindowFile l.types.len w) (j : Job) (g : Good s l acc j) (m0 : ℕ) where
  abbrev N : List ℕ
  N = bytes_of s l.nodes

  -- the job with its hours
  abbrev J : Job
  J = with_hours w j m0

  pub struck_back : struck_out J ≡ j
  struck_back = untimed_is j g.sized g.plain

  windows_back : windows_of J ≡ w
  windows_back = take-append_seam w (replicate (most_windows - length w) 0)

  hours_tidy : timed_tidy J ≡ true
  hours_tidy =
      let room : Bool = leb (length w) most_windows in
      let zeros : Bool = zeros_from J.windows (length w) in
      ap (λ (t : Bool). cond t (cond room zeros false) false) (tidy_holds j g.neat)
      ∙ ap (λ (t : Bool). cond t zeros false) (le-leb (length w) most_windows (windows_room s l acc w f))
      ∙ padded_zeros w (most_windows - length w)

  read_so : read_of (plan_of J) ≡ Ok l
  read_so = ap read_of g.plan ∙ acc

  module _ (came : came_by w N j.entries j.taken m0 ≡ true) where
    kept_so : kept l.types.len w N j.entries j.taken m0 ≡ true
    kept_so = kept_holds l.types.len w N j.entries j.taken m0 f came

    pub passes_test : timed_test J ≡ true
    passes_test =
        ap (λ (t : Bool). cond t (kept_on J (read_of (plan_of J))) false) hours_tidy
        ∙ ap (kept_on J) read_so
        ∙ ap₂ (λ (v p : List ℕ). kept l.types.len v (bytes_of p l.nodes) j.entries j.taken m0) windows_back g.plan
        ∙ kept_so

    module _ (e : Entry) (m : ℕ) where
      abbrev hour : Result Unit hours.Fault
      hour = entry_checked w N e.leaf m0 m

      -- an entry goes by the untimed runner's answer, and what the windows are asked of the minute
      answers_at : take_timed_of J e m ≡ at_minute J hour m (take_of j e).job (take_of j e).answer
      answers_at =
          let on : Taken → Taken = λ (t : Taken). at_minute J hour m t.job t.answer in
          ap (λ (t : Bool). cond t (take_timed_on J e m (read_of (plan_of J))) (refusal why.Entry J)) hours_tidy
          ∙ ap (take_timed_on J e m) read_so
          ∙ ap₂ (λ (v p : List ℕ). take_timed_with l.types.len v (bytes_of p l.nodes) J e m) windows_back g.plan
          ∙ ap (λ (t : Bool). cond t (on (take_of (struck_out J) e)) (refusal why.Entry J)) kept_so
          ∙ ap (λ (i : Job). on (take_of i e)) struck_back

      pub refused_at : take_of j e ≡ refusal why.Entry j → take_timed_of J e m ≡ refusal why.Entry J
      refused_at h = answers_at ∙ ap (λ (t : Taken). at_minute J hour m t.job t.answer) h

      module _ (told : Told) (next : Job) (h : take_of j e ≡ record { answer = Ok told; job = next }) where
        told_at : take_timed_of J e m ≡ at_minute J hour m next (Ok told)
        told_at = answers_at ∙ ap (λ (t : Taken). at_minute J hour m t.job t.answer) h

        pub taken_at : hour ≡ Ok tt → take_timed_of J e m ≡ record { answer = Ok told; job = with_hours w next m }
        taken_at z = told_at ∙ ap (λ (x : Result Unit hours.Fault). at_minute J x m next (Ok told)) z

        pub faulted_at : (q : hours.Fault) → hour ≡ Err q → take_timed_of J e m ≡ refusal (why.Hours q) J
        faulted_at q z = told_at ∙ ap (λ (x : Result Unit hours.Fault). at_minute J x m next (Ok told)) z
