-- What brings a job's record to a beginning of a run is taken whole, each entry by the job that the one before it gave back: each continues the
-- record. Where it brings it to a complete run, the run may end after the last one.
use Rattle.std.specs.Prelude.{Ok}
use mathlib.Core.Path.{◌≡◌, refl, sym, ap, ap₂, subst, ◌∙◌}
use mathlib.Core.List.{List, [], ◌∷◌, ◌++◌, map, append-nil, append_assoc}
use Prim.Native.Nat.{ℕ}
use Rattle.process.specs.Process.{Status, Process, entry, Run}
use Rattle.process.specs.Figure2.{Complete}
use Rattle.plan.specs.Reading.{read_of}
use Rattle.plan.specs.declared.Layout.{Layout}
use Rattle.runs.specs.Beginnings.{Begins}
use Rattle.job.specs.Offer.{Standing, next, offer, TakesAll, no_more, one_more, TakesToEnd, run_entry, record_of}
use Rattle.job.specs.Lists.{offered}
use Rattle.job.specs.Demand2.{plan_process}
use Rattle.job.proofs.Followed.{status_back}
use Rattle.job.proofs.Standing.{tells, Fine, next_fine, offered_fine}
use Rattle.job.proofs.Honest.{honest}
use Rattle.job.proofs.Real.{next_job}

pub offered_back : (z : Run) → map run_entry (map offered z) ≡ z
offered_back [] = refl
offered_back (entry n s ∷ z) = ap₂ (λ (t : Status) (y : Run). entry n t ∷ y) (status_back s) (offered_back z)

-- The entries of z are taken from x on, and the record has them more.
pub record TakesOn (x : Standing) (z : Run) : Type 0 where
  pub takes : TakesAll x (map offered z) (offer x (map offered z))
  pub recorded : record_of (offer x (map offered z)).job ≡ record_of x.job ++ z

module _ (s : List ℕ) (l : Layout) (acc : read_of s ≡ Ok l) where
  abbrev P : Process
  P = plan_process s l

  pub takes_on : (z : Run) (x : Standing) → Fine s l acc x → Begins P (record_of x.job ++ z) → TakesOn x z
  unfolding offer
  takes_on [] x f b = record { takes = no_more; recorded = sym (append-nil (record_of x.job)) }
  takes_on (entry n t ∷ z) x f b =
      let w = record_of x.job in
      let e = offered (entry n t) in
      let d : Begins P ((w ++ (entry n t ∷ [])) ++ z) = rw append_assoc b in
      let taken = (honest s l acc x f).takes e (record { status = t; outcome = refl; begins = (tells s l acc).cut (w ++ (entry n t ∷ [])) z d }) in
      let same : record_of (next x e).job ≡ w ++ (entry n t ∷ []) = ap record_of (next_job x e) ∙ taken.recorded ∙ rw (status_back t) in
      let rest = takes_on z (next x e) (next_fine s l acc x f e) (subst (λ (v : Run). Begins P (v ++ z)) (sym same) d) in
      record { takes = one_more taken.number rest.takes; recorded = rest.recorded ∙ ap (λ (v : Run). v ++ z) same ∙ append_assoc w (entry n t ∷ []) z }

  pub takes_to_end : (z : Run) (x : Standing) → Fine s l acc x → (status : Status) → Complete P (record_of x.job ++ z) status → TakesToEnd x (map offered z) status
  takes_to_end z x f status c =
      let es = map offered z in
      let t = takes_on z x f ([], status, rw append-nil c) in
      record { last = offer x es; takes = t.takes; ends = ((honest s l acc (offer x es) (offered_fine s l acc es x f)).ends status).1 (rw t.recorded c) }
