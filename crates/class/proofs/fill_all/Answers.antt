-- `class::fill_all` meets its contract. The invariant: the files before the cursor have their places, and the work area is cleared where a verdict has cleared it (`Sofar`).
use mathlib.Core.Path.{refl, sym, ap, ◌∙◌}
use mathlib.Core.Bool.{Bool}
use Prim.Native.Nat.{◌+◌}
use lib.ListN.{length}
use native.Mathlib.Omega.{arith}
use Rattle.place.specs.Work.{work_left}
use Rattle.place.proofs.Places.{left_more, left_long}
use Rattle.class.proofs.Filling.{sofar_none, cursor, lent_room, sofar_more, sofar_all}
use Rattle.class.proofs.fill_all.Goals as goal

pub loop-at-init : goal.loop-at-init
loop-at-init c = (refl, sofar_none _ _ c.requires.ready)

pub overflow_add-start : goal.overflow_add-start
overflow_add-start c = omega (arith, cursor c.args.input.now c.args.answers.now c.loop-at.at c.loop-at.to c.loop-at.answers c.loop-at.invariant.1 (omega arith))

pub number_at-requires : goal.number_at-requires
number_at-requires c = omega (arith, cursor c.args.input.now c.args.answers.now c.loop-at.at c.loop-at.to c.loop-at.answers c.loop-at.invariant.1 (omega arith))

pub overflow_add-end : goal.overflow_add-end
overflow_add-end c = omega (arith, cursor c.args.input.now c.args.answers.now c.loop-at.at c.loop-at.to c.loop-at.answers c.loop-at.invariant.1 (omega arith))

pub slice_bounds-fill-end : goal.slice_bounds-fill-end
slice_bounds-fill-end c = omega (arith, cursor c.args.input.now c.args.answers.now c.loop-at.at c.loop-at.to c.loop-at.answers c.loop-at.invariant.1 (omega arith), c.number_at.ensures.0)

pub fill-cleared-requires : goal.fill-cleared-requires
fill-cleared-requires c =
    let l = c.loop-at in
    record {
      work_size_in_bounds = rw l.invariant.0 (omega (arith, left_long l.cleared c.args.work.now c.requires.work_size_in_bounds, c.requires.work_size_in_bounds));
      place_size_in_bounds = lent_room c.args.input.now c.args.answers.now l.at l.to l.answers l.invariant.1 (omega arith);
    }

pub loop-at-smaller : goal.loop-at-smaller
loop-at-smaller c =
    let l = c.loop-at in
    omega (arith, cursor c.args.input.now c.args.answers.now l.at l.to l.answers l.invariant.1 (omega arith), c.number_at.ensures.0)

pub loop-at-preserved : goal.loop-at-preserved
loop-at-preserved c =
    let l = c.loop-at in
    let n = c.number_at in
    let f = c.fill-cleared in (
      f.ensures.work_after ∙ ap (work_left f.result) l.invariant.0 ∙ left_more l.cleared f.result c.args.work.now,
      sofar_more c.args.input.now c.args.answers.now l.at l.to l.answers l.invariant.1 (omega arith) (l.at + 2 + n.result) (ap (λ k. l.at + 2 + k) n.ensures.0) f.new.part f.ensures.place_after,
    )

pub shape_of-work : goal.shape_of-work
shape_of-work c = ap length c.loop-at.invariant.0 ∙ left_long c.loop-at.cleared c.args.work.now c.requires.work_size_in_bounds

pub returns : goal.returns
returns c =
    let l = c.loop-at in
    record { work_after = l.invariant.0; places_after = sofar_all c.args.input.now c.args.answers.now l.at l.to l.answers l.invariant.1 (omega arith) }
