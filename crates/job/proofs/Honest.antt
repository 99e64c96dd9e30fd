-- Wherever a fresh job stands after some entries it is honest: its table stands for its record, and the theorem on beginnings says what the
-- table tells.
use Rattle.std.specs.Prelude.{Ok}
use mathlib.Core.Path.{◌≡◌, refl, ap, ◌∙◌}
use mathlib.Core.Bool.{true, false}
use mathlib.Core.List.{List}
use mathlib.Core.Logic.{◌⊎◌, inl, inr}
use Prim.Native.Nat.{ℕ}
use native.Mathlib.Omega.{arith}
use Rattle.blocks.proofs.Bounded.{decide}
use Rattle.process.specs.Process.{Status, ok, fail, Process, Run}
use Rattle.process.specs.Depth.{most_undos}
use Rattle.plan.specs.Reading.{read_of}
use Rattle.plan.specs.declared.Layout.{Layout}
use Rattle.runs.specs.Cells.{Holds, ending, told_ended, told_next}
use Rattle.runs.specs.declared.Ended.{Ended}
use Rattle.runs.specs.declared.Ended.TheVariants as ended
use Rattle.job.specs.Job.{end_of, saying, take_of}
use Rattle.job.specs.Offer.{Standing, status_number, record_of}
use Rattle.job.specs.Demand2.{plan_process, Continues, Takes, EndsOrGoesOn, may_end, goes_on, Honest}
use Rattle.job.specs.Numbers.{number_of, end_number, Refuses}
use Rattle.state.specs.declared.Entry.{Entry}
use Rattle.job.specs.declared.Refusal.TheVariants as why
use Rattle.job.specs.declared.Told.{Told}
use Rattle.job.specs.declared.Taken.{Taken}
use Rattle.job.proofs.Good.{not_taken, taken_so, record_more}
use Rattle.job.proofs.Standing.{refuses_so, tells, Fine, reached, may, continues, told_is}

-- what is told of an ending is told of no other, and it is its status's number
ending_told : (x : Ended) (s : Status) → end_number (end_of x) ≡ status_number s → x ≡ ending s
ending_told ended.Open ok e = absurd (omega arith)
ending_told ended.Open fail e = absurd (omega arith)
ending_told ended.Succeeded ok e = refl
ending_told ended.Succeeded fail e = absurd (omega arith)
ending_told ended.Failed ok e = absurd (omega arith)
ending_told ended.Failed fail e = refl

end_told : (x : Ended) (t : Status) → x ≡ ending t → end_number (end_of x) ≡ status_number t
end_told x ok e = rw e
end_told x fail e = rw e

module _ (s : List ℕ) (l : Layout) (acc : read_of s ≡ Ok l) (x : Standing) (f : Fine s l acc x) where
  abbrev P : Process
  P = plan_process s l

  abbrev w : Run
  w = record_of x.job

  takes_so : (e : Entry) → Continues P w e → Takes e w (take_of x.job e)
  takes_so e c =
      let h = (continues s l acc x f e).1 c in
      let is = taken_so s l acc x.job f.good e h in
      record {
        number = ap (λ (t : Taken). number_of t.answer) is;
        recorded = ap (λ (t : Taken). record_of t.job) is ∙ record_more s l acc x.job f.good e h;
      }

  refused_so : (e : Entry) → (Continues P w e → ⊥) → Refuses 11 x.job (take_of x.job e)
  refused_so e n = go (decide (may s l acc x f e))
    where
      go : (may s l acc x f e ≡ true) ⊎ (may s l acc x f e ≡ false) → Refuses 11 x.job (take_of x.job e)
      go (inl h) = absurd (n ((continues s l acc x f e).0 h))
      go (inr h) = refuses_so why.Entry x.job (take_of x.job e) (not_taken s l acc x.job f.good e h)

  abbrev T : Told
  T = saying (record { ended = told_ended most_undos P w; next = told_next most_undos P w })

  ends_or_goes_on : EndsOrGoesOn x.told
  ends_or_goes_on = rw (told_is s l acc x f) (go (told_ended most_undos P w) refl ((tells s l acc).goes_on w (reached s l acc x f).begins))
    where
      ended_so : (t : Status) → told_ended most_undos P w ≡ ending t → EndsOrGoesOn T
      ended_so t e = may_end t (end_told (told_ended most_undos P w) t e) ((tells s l acc).over w t e)

      go : (y : Ended) → told_ended most_undos P w ≡ y → ((t : Status) × (told_ended most_undos P w ≡ ending t)) ⊎ ((n : ℕ) × Holds (told_next most_undos P w) n) → EndsOrGoesOn T
      go y e (inl (t, h)) = ended_so t h
      go ended.Open e (inr (n, h)) = goes_on (rw e) n h
      go ended.Succeeded e (inr h) = ended_so ok e
      go ended.Failed e (inr h) = ended_so fail e

  pub honest : Honest P x
  honest =
      let begun = (reached s l acc x f).begins in
      let is = told_is s l acc x f in
      record {
        begins = begun;
        takes = takes_so;
        refuses = refused_so;
        ends = λ t. (
          λ h. ((tells s l acc).ends w begun t).0 (ending_told (told_ended most_undos P w) t (rw is at h)),
          λ c. rw is (end_told (told_ended most_undos P w) t (((tells s l acc).ends w begun t).1 c)),
        );
        next = λ n. (
          λ h.
              let k : Holds (told_next most_undos P w) n = rw is at h in
              let (t, p) = (tells s l acc).told_leaf w begun n k in
              (t, ((tells s l acc).next w begun n t).1 (k, p)),
          λ (t, z). rw is (((tells s l acc).next w begun n t).0 z).0,
        );
        one_of = ends_or_goes_on;
      }
