-- Demand 2: "For every list of entries offered to a fresh job, the runner lets through exactly the beginnings of the runs that Figure 2
-- gives for the plan, passing over refused entries, and says that a run may end exactly where that figure has a complete one." By document
-- 02 (N6) both sides of a parallel begin, so that where a run may end nothing may come next.
use Rattle.std.specs.Prelude.{◌≡◌, List, ℕ, Ok}
use Rattle.plan.specs.Reading.{read_of}
use Rattle.plan.specs.declared.Layout.{Layout}
use Rattle.runs.specs.Beginnings.{NoPrefix}
use Rattle.state.specs.declared.Entry.{Entry}
use Rattle.job.specs.Job.{start_of}
use Rattle.job.specs.Offer.{offer, started}
use Rattle.job.specs.Lists.{WholeLists}
use Rattle.job.specs.Demand2.{plan_process, Starts, Honest, Carries}

pub record Demand2 : Type 0 where
  -- the fresh job of an accepted plan, and what its start tells
  pub starts : (s : List ℕ) (l : Layout) → read_of s ≡ Ok l → Starts (started s l) (start_of s)
  -- wherever it stands after any list of entries, refused ones passed over
  pub honest : (s : List ℕ) (l : Layout) → read_of s ≡ Ok l → (es : List Entry) → Honest (plan_process s l) (offer (started s l) es)
  -- of the list itself: the runner "lets through exactly the beginnings of the runs that Figure 2 gives for the plan, passing over refused entries"
  pub lists : (s : List ℕ) (l : Layout) → read_of s ≡ Ok l → WholeLists (plan_process s l) (started s l)
  -- "A job carries its plan and its record so far", whatever is offered
  pub carries : (s : List ℕ) (l : Layout) → read_of s ≡ Ok l → (es : List Entry) → Carries s (offer (started s l) es).job
  -- no complete run of the plan is a proper beginning of another
  pub no_prefix : (s : List ℕ) (l : Layout) → read_of s ≡ Ok l → NoPrefix (plan_process s l)
