-- `class::verdicts` meets its contract: each refusal in its order changes nothing; else each place is filled, and the work area is cleared where no verdict has done so.
use mathlib.Core.Path.{◌≡◌, refl, sym, ap, subst, ◌∙◌}
use mathlib.Core.Bool.{not}
use mathlib.Core.List.{◌++◌}
use Prim.Native.Nat.{ℕ}
use native.Mathlib.Omega.{arith}
use lib.ListN.{length, drop, replicate}
use lib.Seq.{length-take-le}
use Rattle.std.specs.Prelude.{Option}
use Rattle.judge.specs.Verdict.{work_size}
use Rattle.judge.proofs.Areas.{all_zeros, zeros_first}
use Rattle.class.specs.Outcome.{no_work, no_class, no_room}
use Rattle.handed.specs.Cursor.{Counted, CountOf}
use Rattle.place.proofs.Places.{not_cleared, is_cleared}
use Rattle.class.proofs.Outcomes.{all_filled}
use Rattle.class.proofs.verdicts.Goals as goal

pub returns-then-work-lt-WORK : goal.returns-then-work-lt-WORK
returns-then-work-lt-WORK c = record { why = no_work (omega arith); works = refl; answers = refl }

pub returns-in_default : goal.returns-in_default
returns-in_default c =
    let s = c.args.input.now in
    record { why = no_class (omega arith) (subst (λ (x : Option ℕ). CountOf s x) c.in_default.is c.count_files.ensures); works = refl; answers = refl }

pub overflow_mul-n : goal.overflow_mul-n
overflow_mul-n c = let k : Counted c.args.input.now c.in-Some.n = c.in-Some.ensures in omega (arith, k.count, k.class.few)

pub returns-then-answers-n : goal.returns-then-answers-n
returns-then-answers-n c =
    let k : Counted c.args.input.now c.in-Some.n = c.in-Some.ensures in
    record { why = no_room (omega arith) k.files k.class (omega (arith, k.count)); works = refl; answers = refl }

pub fill_all-requires : goal.fill_all-requires
fill_all-requires c =
    let k : Counted c.args.input.now c.in-Some.n = c.in-Some.ensures in
    record { work_size_in_bounds = omega arith; ready = record { files = k.files; holds = k.class.holds; room = omega (arith, k.count) } }

-- no verdict has cleared the work area
pub slice_bounds-fill-end-then-not-fill_all : goal.slice_bounds-fill-end-then-not-fill_all
slice_bounds-fill-end-then-not-fill_all c =
    let f = c.fill_all in
    let kept : f.new.work ≡ c.args.work.now = f.ensures.work_after ∙ not_cleared f.result c.args.work.now (ap not c.if-not-fill_all.true) in
    sym (length-take-le 65536 f.new.work (omega (arith, ap length kept)))

pub returns-then-not-fill_all : goal.returns-then-not-fill_all
returns-then-not-fill_all c =
    let k : Counted c.args.input.now c.in-Some.n = c.in-Some.ensures in
    let a = c.args in
    let f = c.fill_all in
    let kept : f.new.work ≡ a.work.now = f.ensures.work_after ∙ not_cleared f.result a.work.now (ap not c.if-not-fill_all.true) in
    let zeros = all_zeros 65536 f.new.work c.fill.new.self (omega (arith, ap length kept)) (c.fill.ensures.after (λ y z. z)) in
    all_filled a.input.now a.work.now _ a.answers.now f.new.answers _ k (omega arith) (omega arith) (zeros_first 65536 f.new.work a.work.now c.fill.new.self zeros kept) f.ensures.places_after

-- one has
pub returns-else-not-fill_all : goal.returns-else-not-fill_all
returns-else-not-fill_all c =
    let k : Counted c.args.input.now c.in-Some.n = c.in-Some.ensures in
    let a = c.args in
    let f = c.fill_all in
    all_filled a.input.now a.work.now f.new.work a.answers.now f.new.answers _ k (omega arith) (omega arith)
    (f.ensures.work_after ∙ is_cleared f.result a.work.now (ap not c.if-not-fill_all.false)) f.ensures.places_after
