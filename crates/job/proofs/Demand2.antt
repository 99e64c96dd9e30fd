-- Demand 2, put together from its parts.
use Rattle.std.specs.Prelude.{Result, Ok, Err}
use mathlib.Core.Path.{◌≡◌, refl, sym, ap, ap₂, ◌∙◌}
use mathlib.Core.List.{List, [], ◌++◌}
use Prim.Native.Nat.{ℕ, ◌-◌, ◌*◌, ◌≤◌}
use native.Mathlib.Omega.{arith}
use lib.ListN.{length, replicate}
use lib.Seq.{length-take-le}
use Rattle.plan.specs.PlanFile.{most_bytes}
use Rattle.plan.specs.Reading.{read_of}
use Rattle.plan.specs.Reading as plan
use Rattle.plan.specs.declared.Fault.{Fault}
use mathlib.Core.Option.{some, some-ne-none}
use Rattle.job.specs.Numbers.{Refuses}
use Rattle.plan.specs.declared.Layout.{Layout}
use Rattle.job.specs.Job.{untimed_job, no_job, start_on, start_of}
use Rattle.job.specs.Offer.{Real, offer, started}
use Rattle.state.specs.State.{entries_from}
use Rattle.job.specs.Demand2.{Starts, Carries, Demand2}
use Rattle.job.proofs.Standing.{tells, started_fine, offered_fine}
use Rattle.job.proofs.Honest.{honest}
use Rattle.job.proofs.Real.{real_good, false_refused, tidy_file}
use Rattle.job.specs.declared.Job.{Job}
use Rattle.job.proofs.Areas.{zero_past}
use Rattle.job.proofs.Tidy.{untimed_is}
use Rattle.job.proofs.Good.{Good}
use Rattle.job.proofs.Lists.{whole_lists}

-- no file is empty
not_empty : (l : Layout) → read_of [] ≡ Ok l → ⊥
not_empty l h = let z : ◌≡◌ {A = ℕ} 0 1 = cc in omega arith

no_job_real : Real no_job → ⊥
no_job_real r = not_empty r.layout (ap read_of (real_good no_job r).plan ∙ r.accepted)

starts_so : (s : List ℕ) (l : Layout) → read_of s ≡ Ok l → Starts (started s l) (start_of s)
unfolding entries_from
starts_so s l h = rw h (record { number = refl; next = refl; end = refl; job = refl; fresh = refl })

turns_away_so : (s : List ℕ) (n : ℕ) (a : Result Layout Fault) → plan.number_of a ≡ some n → Refuses n no_job (start_on s a)
turns_away_so s n (Ok l) h = absurd (some-ne-none n (sym h))
turns_away_so s n (Err f) h = record { number = h; unchanged = refl }

carries_so : (s : List ℕ) (l : Layout) (acc : read_of s ≡ Ok l) (j : Job) → Good s l acc j → Carries s j
carries_so s l acc j g =
    let z = g.sized in
    let t = g.neat in
    let fits : j.file_len ≤ length j.file = omega (arith, z.file, t.file_fits) in
    let len : j.file_len ≡ length s = sym (length-take-le j.file_len j.file fits) ∙ ap length g.plan in
    let file : j.file ≡ s ++ replicate (most_bytes - length s) 0 = sym (tidy_file j z t) ∙ ap (λ (p : List ℕ). p ++ replicate (most_bytes - length p) 0) g.plan in
    record {
      plan = sym (untimed_is j z g.plain) ∙ ap₂ (λ (f : List ℕ) (n : ℕ). untimed_job f n j.entries j.taken) file len;
      long = z.entries;
      zeros = λ i h k. zero_past j.entries (2 * j.taken) t.entries_zeros i (omega (arith, z.entries)) h;
    }

pub demand2 : Demand2
demand2 = record {
  starts = starts_so;
  turns_away = λ s n h. turns_away_so s n (read_of s) h;
  honest = λ s l h es. honest s l h (offer (started s l) es) (offered_fine s l h es (started s l) (started_fine s l h));
  lists = whole_lists;
  carries = λ s l h es. carries_so s l h _ (offered_fine s l h es (started s l) (started_fine s l h)).good;
  no_prefix = λ s l h. (tells s l h).no_prefix;
  false_jobs = false_refused;
  no_job_lem = no_job_real;
}
