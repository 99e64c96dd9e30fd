-- `place::fill` meets its contract: the record bytes are cleared, the part after the first four is lent to the verdict, and comes back.
use mathlib.Core.Path.{ap, ◌∙◌}
use native.Mathlib.Omega.{arith}
use lib.ListN.{drop, length-drop}
use Rattle.judge.proofs.Areas.{all_zeros}
use Rattle.place.specs.Work.{clears_work}
use Rattle.place.proofs.Places.{set_small, verdict_is, work_is, filled}
use Rattle.place.proofs.fill.Goals as goal

pub heading-first-requires : goal.heading-first-requires
heading-first-requires c =
    let a = c.args in
    let v = c.verdict-a in
    let zeros = all_zeros 126 (drop 4 a.part.now) c.fill.new.self (omega (arith, length-drop 4 a.part.now, c.requires.place_size_in_bounds)) (c.fill.ensures.after (λ y k. k)) in
    set_small a.file.now a.part.now _ a.work.now v.new.work v.new.«record» v.result c.requires.work_size_in_bounds c.requires.place_size_in_bounds zeros v.ensures

pub returns : goal.returns
returns c =
    let a = c.args in
    let v = c.verdict-a in
    let n = c.entry_count in
    let zeros = all_zeros 126 (drop 4 a.part.now) c.fill.new.self (omega (arith, length-drop 4 a.part.now, c.requires.place_size_in_bounds)) (c.fill.ensures.after (λ y k. k)) in record {
      value = c.is_ok.ensures.value ∙ ap clears_work (verdict_is a.file.now a.part.now _ a.work.now v.new.work v.new.«record» v.result c.requires.work_size_in_bounds c.requires.place_size_in_bounds zeros v.ensures);
      work_after = rw c.is_ok.ensures.value (work_is a.file.now a.part.now _ a.work.now v.new.work v.new.«record» v.result c.requires.work_size_in_bounds c.requires.place_size_in_bounds zeros v.ensures);
      place_after = rw (c.copy_from_slice.ensures.after, c.heading-first.ensures) (filled a.file.now a.part.now _ a.work.now v.new.work v.new.«record» v.result c.requires.work_size_in_bounds c.requires.place_size_in_bounds zeros v.ensures n.result n.ensures.value);
    }
