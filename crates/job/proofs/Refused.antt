-- Where a timed job's entry is refused, the job is handed back unchanged.
use mathlib.Core.Path.{◌≡◌, ap}
use mathlib.Core.Bool.{Bool, true, false, cond}
use Prim.Native.Nat.{ℕ}
use Rattle.std.specs.Prelude.{Result, Ok, Err}
use Rattle.hours.specs.declared.Fault as hours
use Rattle.hours.specs.Kept.{kept}
use Rattle.plan.specs.Reading.{bytes_of, read_of}
use Rattle.plan.specs.declared.Fault.{Fault}
use Rattle.plan.specs.declared.Layout.{Layout}
use Rattle.state.specs.declared.Entry.{Entry}
use Rattle.job.specs.Job.{Answer, refusal, plan_of}
use Rattle.job.specs.Timed.{windows_of, timed_tidy, at_minute, take_timed_on, take_timed_of}
use Rattle.job.specs.declared.Refusal.{Refusal}
use Rattle.job.specs.declared.Job.{Job}
use Rattle.job.specs.declared.Taken.{Taken}

module _ (j : Job) where
  abbrev Unchanged : Taken → Type 0
  Unchanged t = (r : Refusal) → t.answer ≡ Err r → t ≡ refusal r j

  refused : (q : Refusal) → Unchanged (refusal q j)
  refused q r h = let same : q ≡ r = cc in ap (λ (x : Refusal). refusal x j) same

  either : (b : Bool) {x y : Taken} → Unchanged x → Unchanged y → Unchanged (cond b x y)
  either true p q = p
  either false p q = q

  at_a_minute : (hour : Result Unit hours.Fault) (m : ℕ) (next : Job) (a : Answer) → Unchanged (at_minute j hour m next a)
  at_a_minute hour m next (Err q) r h = refused q r h
  at_a_minute (Err f) m next (Ok t) r h = refused _ r h
  at_a_minute (Ok u) m next (Ok t) r h = cc

  on_plan : (e : Entry) (m : ℕ) (x : Result Layout Fault) → Unchanged (take_timed_on j e m x)
  on_plan e m (Ok l) = either (kept l.types.len (windows_of j) (bytes_of (plan_of j) l.nodes) j.entries j.taken j.minute) (at_a_minute _ m _ _) (refused _)
  on_plan e m (Err f) = refused _

  pub timed_refused : (e : Entry) (m : ℕ) → Unchanged (take_timed_of j e m)
  timed_refused e m = either (timed_tidy j) (on_plan e m (read_of (plan_of j))) (refused _)
