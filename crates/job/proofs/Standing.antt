-- Wherever a fresh job stands after some entries it is good, and what was last told is told by its table.
use Rattle.std.specs.Prelude.{Ok}
use mathlib.Core.Path.{◌≡◌, refl, sym, ap, subst, ◌∙◌}
use mathlib.Core.Bool.{Bool, true, false}
use mathlib.Core.List.{List, [], ◌∷◌}
use mathlib.Core.Logic.{◌↔◌, ◌⊎◌, inl, inr}
use Prim.Native.Nat.{ℕ}
use Rattle.blocks.proofs.Bounded.{decide}
use Rattle.process.specs.Process.{Process, Run}
use Rattle.process.specs.Depth.{most_undos}
use Rattle.plan.specs.Reading.{bytes_of, read_of}
use Rattle.plan.specs.declared.Layout.{Layout}
use Rattle.runs.specs.Beginnings.{Beginnings}
use Rattle.runs.specs.Cells.{told_ended, told_next}
use Rattle.state.specs.State.{told_by, may_come}
use Rattle.job.specs.Job.{saying, refusal}
use Rattle.job.specs.Offer.{Standing, on_answer, next, offer, started, record_of}
use Rattle.job.specs.Demand2.{plan_process, Continues}
use Rattle.job.specs.Numbers.{number, number_of, Refuses}
use Rattle.state.specs.declared.Entry.{Entry}
use Rattle.job.specs.declared.Taken.{Taken}
use Rattle.job.specs.declared.Job.{Job}
use Rattle.job.specs.declared.Refusal.{Refusal}
use Rattle.job.proofs.Outcomes.{told_of}
use Rattle.job.proofs.Comes.{comes, told_begins}
use Rattle.job.proofs.Followed.{Reached}
use Rattle.job.proofs.Good.{Good, runs_on, good_reached, fresh_good, not_taken, taken_so, next_good}

pub refuses_so : (r : Refusal) (j : Job) (t : Taken) → t ≡ refusal r j → Refuses (number r) j t
refuses_so r j t e = record { number = ap (λ (x : Taken). number_of x.answer) e; unchanged = ap (λ (x : Taken). x.job) e }

module _ (s : List ℕ) (l : Layout) (acc : read_of s ≡ Ok l) where
  abbrev T : List ℕ
  T = bytes_of s l.types

  abbrev N : List ℕ
  N = bytes_of s l.nodes

  abbrev P : Process
  P = plan_process s l

  -- the theorem on beginnings, of the plan
  pub tells : Beginnings most_undos P
  tells = told_begins T N (runs_on s l acc)

  pub record Fine (x : Standing) : Type 0 where
    pub good : Good s l acc x.job
    pub told : x.told ≡ saying (told_by N good.table)

  module _ (x : Standing) (f : Fine x) where
    abbrev w : Run
    w = record_of x.job

    pub reached : Reached T N (runs_on s l acc) w f.good.table
    reached = good_reached s l acc x.job f.good

    abbrev pub may : Entry → Bool
    may e = may_come T N f.good.table e.leaf e.outcome

    -- an entry may come exactly where it continues the record
    pub continues : (e : Entry) → (may e ≡ true) ↔ Continues P w e
    continues e =
        let (to, from) = comes T N (runs_on s l acc) w f.good.table reached.stands reached.begins e.leaf e.outcome in
        (λ h. let (t, o, z) = to h in record { status = t; outcome = o; begins = z }, λ c. from (c.status, c.outcome, c.begins))

    pub told_is : x.told ≡ saying (record { ended = told_ended most_undos P w; next = told_next most_undos P w })
    told_is = f.told ∙ ap saying (told_of T N (runs_on s l acc) w f.good.table reached.stands)

    pub next_fine : (e : Entry) → Fine (next x e)
    unfolding next_good
    next_fine e = go (decide (may e))
      where
        go : (may e ≡ true) ⊎ (may e ≡ false) → Fine (next x e)
        go (inl h) =
            let step : Taken → Standing = λ (t : Taken). on_answer t.answer t.job x.told in
            subst Fine (sym (ap step (taken_so s l acc x.job f.good e h))) (record { good = next_good s l acc x.job f.good e h; told = refl })
        go (inr h) =
            let step : Taken → Standing = λ (t : Taken). on_answer t.answer t.job x.told in
            subst Fine (sym (ap step (not_taken s l acc x.job f.good e h))) (record { good = f.good; told = f.told })

  pub started_fine : Fine (started s l)
  unfolding fresh_good
  started_fine = record { good = fresh_good s l acc; told = refl }

  pub offered_fine : (es : List Entry) (x : Standing) → Fine x → Fine (offer x es)
  unfolding offer
  offered_fine [] x f = f
  offered_fine (e ∷ es) x f = offered_fine es (next x e) (next_fine x f e)
