-- `comparison::lines::put_name` meets its contract: by whether the name is there.
use mathlib.Core.Path.{refl, sym, ap, ◌∙◌}
use Prim.Native.Nat.{◌+◌}
use native.Mathlib.Omega.{arith}
use Rattle.text.specs.Text.{appended}
use Rattle.comparison.specs.Data.{name_at}
use Rattle.comparison.proofs.Vectors.{named_says, started, not_started, part_is}
use Rattle.comparison.proofs.lines.put_name.Goals as goal

pub slice_bounds-put-end : goal.slice_bounds-put-end
slice_bounds-put-end c = let (named, is) = started c.args.s.now c.args.at c.in-Some.start (sym c.body_start.ensures ∙ c.in-Some.is) in omega (arith, (named_says _ _ named).1)

pub returns-in-Some : goal.returns-in-Some
unfolding name_at
returns-in-Some c =
    let (named, is) = started c.args.s.now c.args.at c.in-Some.start (sym c.body_start.ensures ∙ c.in-Some.is) in
    rw named (c.put.ensures ∙ ap (appended c.args.t.now) (part_is c.args.s.now (c.args.at + 8) _ (c.args.at + 8) _ refl is))

pub returns-in_default : goal.returns-in_default
unfolding name_at appended
returns-in_default c = rw (not_started c.args.s.now c.args.at (sym c.body_start.ensures ∙ c.in_default.is))
