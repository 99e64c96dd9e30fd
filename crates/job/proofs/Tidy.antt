-- What it says of a job that it is tidy, that it is untimed, and that it is timed and tidy.
use mathlib.Core.Path.{◌≡◌, refl, sym, ◌∙◌}
use mathlib.Core.Bool.{Bool, true, false, cond, true≢false}
use Prim.Native.Nat.{◌*◌, ◌≤◌, ◌<◌}
use native.Mathlib.Omega.{arith}
use lib.ListN.{replicate}
use lib.Seq.{ext_get_or}
use borrow.Author.Tests.{leb-true, ltb-true, eqb-true}
use Rattle.plan.specs.PlanFile.{most_bytes}
use Rattle.blocks.proofs.Bounded.{both_true}
use Rattle.job.specs.Job.{most_windows, untimed_job, zeros_from, tidy, untimed}
use Rattle.job.specs.Offer.{Sized}
use Rattle.job.specs.Timed.{timed_tidy}
use Rattle.job.specs.declared.Job.{Job}
use Rattle.job.proofs.Areas.{zero_past}
use Rattle.job.proofs.Outcomes.{zeros_at}

pub record Tidy (j : Job) : Type 0 where
  pub file_fits : j.file_len ≤ most_bytes
  pub few : j.taken < 63
  pub file_zeros : zeros_from j.file j.file_len ≡ true
  pub entries_zeros : zeros_from j.entries (2 * j.taken) ≡ true

pub tidy_says : (j : Job) → tidy j ≡ true → Tidy j
tidy_says j h =
    let (a, h1) = both_true _ _ h in
    let (b, h2) = both_true _ _ h1 in
    let (c, d) = both_true _ _ h2 in
    record { file_fits = leb-true _ _ a; few = ltb-true _ _ b; file_zeros = c; entries_zeros = d }

not_first : (a b : Bool) → cond a false b ≡ true → (a ≡ false) × (b ≡ true)
not_first true b e = absurd (true≢false (sym e))
not_first false b e = (refl, e)

pub record Untimed (j : Job) : Type 0 where
  pub no_hours : j.timed ≡ false
  pub no_windows : j.windows_len ≡ 0
  pub no_minute : j.minute ≡ 0
  pub zeros : zeros_from j.windows 0 ≡ true

untimed_says : (j : Job) → untimed j ≡ true → Untimed j
untimed_says j h =
    let (a, h1) = not_first j.timed _ h in
    let (b, h2) = both_true _ _ h1 in
    let (c, d) = both_true _ _ h2 in
    record { no_hours = a; no_windows = eqb-true _ _ b; no_minute = eqb-true _ _ c; zeros = d }

-- an untimed job is told by its plan and its record
pub untimed_is : (j : Job) → Sized j → untimed j ≡ true → untimed_job j.file j.file_len j.entries j.taken ≡ j
untimed_is j z h =
    let u = untimed_says j h in
    let none : replicate most_windows 0 ≡ j.windows =
    ext_get_or 0 (replicate most_windows 0) j.windows (sym z.windows) (λ i l. zeros_at most_windows i ∙ sym (zero_past j.windows 0 u.zeros i (omega (arith, z.windows)) (omega arith))) in
    rw (none, u.no_hours, u.no_windows, u.no_minute)

pub record TimedTidy (j : Job) : Type 0 where
  pub hours : j.timed ≡ true
  pub neat : Tidy j
  pub windows_fit : j.windows_len ≤ most_windows
  pub windows_zeros : zeros_from j.windows j.windows_len ≡ true

pub timed_says : (j : Job) → timed_tidy j ≡ true → TimedTidy j
timed_says j h =
    let (a, h1) = both_true j.timed _ h in
    let (b, h2) = both_true (tidy j) _ h1 in
    let (c, d) = both_true _ _ h2 in
    record { hours = a; neat = tidy_says j b; windows_fit = leb-true _ _ c; windows_zeros = d }
