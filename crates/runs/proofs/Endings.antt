-- Statuses, endings and tests: which exclude each other, and what a test says.
use mathlib.Core.Path.{◌≡◌, refl, sym, ◌∙◌, ap}
use mathlib.Core.Bool.{Bool, true, false, not, ◌||◌, true≢false}
use Rattle.process.specs.Process.{Status, ok, fail}
use Rattle.process.specs.Figure2.{both}
use Rattle.runs.specs.declared.Ended.{Ended}
use Rattle.runs.specs.declared.Ended.TheVariants.{Open, Succeeded, Failed}
use Rattle.runs.specs.Cells.{ending, is_succeeded, is_failed, parallel_ended}

abbrev pub has_run : Ended → Bool
has_run Open = false
has_run Succeeded = true
has_run Failed = true

pub not_both : {A : Type 0} {test : Bool} → test ≡ true → test ≡ false → A
not_both p q = absurd (true≢false (sym p ∙ q))

pub of_not : {test : Bool} → not test ≡ true → test ≡ false
of_not {test = true} e = sym e
of_not {test = false} e = refl

pub ending_run : (s : Status) → has_run (ending s) ≡ true
ending_run ok = refl
ending_run fail = refl

pub not_open : {A : Type 0} {x : Ended} (s : Status) → x ≡ Open → x ≡ ending s → A
not_open s p q = not_both (ap has_run q ∙ ending_run s) (ap has_run p)

pub not_failed : {A : Type 0} {x : Ended} → x ≡ Succeeded → x ≡ Failed → A
not_failed p q = not_both (ap is_succeeded p) (ap is_succeeded q)

pub or_true : (a : Bool) → (a || true) ≡ true
or_true true = refl
or_true false = refl

pub or_false : (a b : Bool) → (a || b) ≡ false → (a ≡ false) × (b ≡ false)
or_false true b h = (h, cc)
or_false false b h = (refl, h)

pub ending_one : (s t : Status) → ending s ≡ ending t → s ≡ t
ending_one ok ok h = refl
ending_one ok fail h = not_failed refl h
ending_one fail ok h = not_failed refl (sym h)
ending_one fail fail h = refl

pub of_succeeded : (x : Ended) → is_succeeded x ≡ true → x ≡ Succeeded
of_succeeded Open e = not_both e refl
of_succeeded Succeeded e = refl
of_succeeded Failed e = not_both e refl

pub of_failed : (x : Ended) → is_failed x ≡ true → x ≡ Failed
of_failed Open e = not_both e refl
of_failed Succeeded e = not_both e refl
of_failed Failed e = refl

-- A parallel that has ended: both sides have.
pub record ParallelEnds (x y : Ended) (u : Status) : Type 0 where
  pub left : Status
  pub right : Status
  pub left_ends : x ≡ ending left
  pub right_ends : y ≡ ending right
  pub is_both : both left right ≡ u

pub parallel_ends : (x y : Ended) (u : Status) → parallel_ended x y ≡ ending u → ParallelEnds x y u
parallel_ends Open y u h = not_open u refl h
parallel_ends Succeeded y u h = record { left = ok; right = u; left_ends = refl; right_ends = h; is_both = refl }
parallel_ends Failed Open u h = not_open u refl h
parallel_ends Failed Succeeded u h = record { left = fail; right = ok; left_ends = refl; right_ends = refl; is_both = ending_one fail u h }
parallel_ends Failed Failed u h = record { left = fail; right = fail; left_ends = refl; right_ends = refl; is_both = ending_one fail u h }
