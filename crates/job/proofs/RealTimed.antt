-- A timed job that passes its own test, and whose plan and record are those of a real untimed job, is one that a start and timed entries give: each
-- entry but the last at the earliest minute that it can have had, and the last at the job's. So the test decides which timed jobs are real.
use Rattle.std.specs.Prelude.{Ok, Err}
use mathlib.Core.Path.{◌≡◌, refl, sym, ap, subst, ◌∙◌}
use mathlib.Core.Bool.{true}
use mathlib.Core.List.{List, [], ◌∷◌, ◌++◌}
use Prim.Native.Nat.{ℕ, zero, suc, ◌+◌, ◌-◌, ◌*◌, ◌≤◌, ◌<◌}
use native.Mathlib.Omega.{arith}
use lib.ListN.{length, replicate}
use lib.Seq.{length-take-le}
use borrow.Author.Tests.{eqb-true}
use Rattle.blocks.proofs.Bounded.{both_true}
use Rattle.hours.specs.Windows.{WindowFile}
use Rattle.hours.specs.Hours.{leaf_window, inside}
use Rattle.hours.specs.Kept.{leaf_of, soonest, came_by}
use Rattle.hours.proofs.Kept.{kept_says, came_same, came_last, came_soonest, no_fault}
use Rattle.plan.specs.Reading.{bytes_of, read_of}
use Rattle.plan.specs.declared.Layout.{Layout}
use Rattle.state.specs.State.{told_by, entry_at, state_after}
use Rattle.job.specs.Job.{Answer, most_windows, most_minute, saying, plan_of, with_entry}
use Rattle.job.specs.Offer.{Standing, on_answer, Real, Sized}
use Rattle.job.specs.Timed.{struck_out, windows_of, timed_tidy, kept_on, timed_test, take_timed_of, with_hours}
use Rattle.job.specs.TimedRunner.{TimedEntry, next_timed, offer_timed, started_timed, RealTimed}
use Rattle.job.specs.declared.Job.{Job}
use Rattle.job.specs.declared.Taken.{Taken}
use Rattle.job.proofs.Tidy.{timed_says}
use Rattle.job.proofs.Areas.{padded_back}
use Rattle.job.proofs.Good.{after, taken_so}
use Rattle.job.proofs.Real.{firsts, firsts_in, at, may_next, at_more, led, tidy_file, tidy_entries, real_good}
use Rattle.job.proofs.Hourly.{for_plan, taken_at}

-- one entry more, offered after the others
offered_last : (x : Standing) (ts : List TimedEntry) (t : TimedEntry) → offer_timed x (ts ++ (t ∷ [])) ≡ next_timed (offer_timed x ts) t
unfolding offer_timed
offered_last x [] t = refl
offered_last x (d ∷ ts) t = offered_last (next_timed x d) ts t

-- the next entry goes to the job that is handed back
handed_back : (x : Standing) (t : TimedEntry) → (next_timed x t).job ≡ (take_timed_of x.job t.entry t.minute).job
handed_back x t = go (take_timed_of x.job t.entry t.minute).answer
  where
    go : (a : Answer) → (on_answer a (take_timed_of x.job t.entry t.minute).job x.told).job ≡ (take_timed_of x.job t.entry t.minute).job
    go (Ok told) = refl
    go (Err r) = refl

module _ (s : List ℕ) (l : Layout) (acc : read_of s ≡ Ok l) (w : List ℕ) (f : WindowFile l.types.len w)
    (r : List ℕ) (taken : ℕ) (few : taken < 63)
    (last : List ℕ) (whole : state_after (bytes_of s l.types) (bytes_of s l.nodes) r taken ≡ Ok last) where
  abbrev N : List ℕ
  N = bytes_of s l.nodes

  abbrev soon : ℕ → ℕ
  soon k = soonest w N r k

  -- the untimed job of the first k entries
  abbrev first : ℕ → Job
  first k = at s l acc r taken few last whole k

  -- one entry more is taken from the earliest minute of those before it on, where its window is open
  one_later : (k m : ℕ) → k < taken → soon k ≤ m → inside (leaf_window w N (leaf_of r k)) m ≡ true
      → (take_timed_of (with_hours w (first k) (soon k)) (entry_at r k) m).job ≡ with_hours w (first (suc k)) m
  one_later k m h late open_then =
      let g = (led s l acc r taken few last whole k (omega arith)).good in
      let e = entry_at r k in
      let may = may_next s l acc r taken few last whole k h g in
      let came : came_by w N (firsts r k) k (soon k) ≡ true =
      came_same w N (firsts r k) r k (soon k) (λ i q. firsts_in r k (2 * i) (omega arith) (omega arith)) ∙ came_soonest l.types.len w f N r k in
      let told = saying (told_by N (after s l acc (first k) g e may)) in
      ap (λ (t : Taken). t.job) (taken_at s l acc w f (first k) g (soon k) came e m told (with_entry (first k) e) (taken_so s l acc (first k) g e may) (no_fault w N e.leaf (soon k) m late open_then))
      ∙ ap (λ (j : Job). with_hours w j m) (at_more s l acc r taken few last whole k)

  -- the first n entries and a minute by which they can have come are reached
  reached : (n : ℕ) → n ≤ taken → (m : ℕ) → m ≤ most_minute → came_by w N r n m ≡ true
      → (ts : List TimedEntry) × ((offer_timed (started_timed s l w) ts).job ≡ with_hours w (first n) m)
  unfolding firsts offer_timed
  reached zero h m fit c = ([], ap (λ (i : ℕ). with_hours w (first 0) i) (sym (eqb-true m 0 c)))
  reached (suc k) h m fit c = go (came_last w N r k m (rw next c)) (reached k (omega arith))
    where
      next : k + 1 ≡ suc k
      next = omega arith

      go : (soon k ≤ m) × (inside (leaf_window w N (leaf_of r k)) m ≡ true)
          → ((i : ℕ) → i ≤ most_minute → came_by w N r k i ≡ true → (ts : List TimedEntry) × ((offer_timed (started_timed s l w) ts).job ≡ with_hours w (first k) i))
          → (ts : List TimedEntry) × ((offer_timed (started_timed s l w) ts).job ≡ with_hours w (first (suc k)) m)
      go (late, open_then) before =
          let (ts, there) = before (soon k) (omega (arith, late, fit)) (came_soonest l.types.len w f N r k) in
          let t : TimedEntry = record { entry = entry_at r k; minute = m; fits = fit } in
          let x = offer_timed (started_timed s l w) ts in (
            ts ++ (t ∷ []),
            ap (λ (z : Standing). z.job) (offered_last (started_timed s l w) ts t)
                ∙ handed_back x t
                ∙ ap (λ (j : Job). (take_timed_of j t.entry m).job) there
                ∙ one_later k m (omega arith) late open_then,
          )

-- a job that passes the test, and whose plan and record are a real job's, is real
pub passing_real : (j : Job) → Sized j → timed_test j ≡ true → Real (struck_out j) → RealTimed j
passing_real j z h real =
    let (a, b) = both_true (timed_tidy j) _ h in
    let t = timed_says j a in
    let g = real_good (struck_out j) real in
    let s = plan_of j in
    let l = real.layout in
    let acc : read_of s ≡ Ok l = ap read_of g.plan ∙ real.accepted in
    let whole : state_after (bytes_of s l.types) (bytes_of s l.nodes) j.entries j.taken ≡ Ok g.table =
    subst (λ (p : List ℕ). state_after (bytes_of p l.types) (bytes_of p l.nodes) j.entries j.taken ≡ Ok g.table) (sym g.plan) g.state in
    let kept_so = kept_says l.types.len (windows_of j) (bytes_of s l.nodes) j.entries j.taken j.minute (sym (ap (kept_on j) acc) ∙ b) in
    let (ts, there) = reached s l acc (windows_of j) kept_so.0 j.entries j.taken t.neat.few g.table whole j.taken (omega arith) j.minute z.minute kept_so.1 in
    let long : length s ≡ j.file_len = length-take-le j.file_len j.file (omega (arith, z.file, t.neat.file_fits)) in
    let wide : length (windows_of j) ≡ j.windows_len = length-take-le j.windows_len j.windows (omega (arith, z.windows, t.windows_fit)) in
    let area : windows_of j ++ replicate (most_windows - j.windows_len) 0 ≡ j.windows =
    rw (← z.windows) (padded_back j.windows j.windows_len (omega (arith, z.windows, t.windows_fit)) t.windows_zeros) in
    let same : with_hours (windows_of j) (at s l acc j.entries j.taken t.neat.few g.table whole j.taken) j.minute ≡ j =
    rw (tidy_file j z t.neat, tidy_entries j z t.neat, long, wide, area, t.hours) in
    record { file = s; layout = l; accepted = acc; windows = windows_of j; window_file = for_plan s l acc (windows_of j) kept_so.0; entries = ts; is = sym (there ∙ same) }
