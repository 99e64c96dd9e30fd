-- `product::is_unit` meets its contract: word 0 is 1, and the words after it are 0.
use mathlib.Core.Path.{◌≡◌}
use lib.ListN.{get_or}
use mir.Val.{Fits}
use mir.Syntax.{w64}
use borrow.Author.Rules.{rules}
use borrow.Author.Tests.{tests, ne_eqb}
use native.Mathlib.Omega.{arith}
use Rattle.std.proofs.lemmas.Iterator.{cases_from_all, YieldsList-from_slice}
use Rattle.product.proofs.Unit.{tells_other, tells_unit}
use Rattle.product.proofs.is_unit.Goals as goal

pub returns-then-f-eq1 : goal.returns-then-f-eq1
returns-then-f-eq1 c =
    tells_unit c.args.f (omega arith) (λ k. let fits : Fits w64 (get_or c.args.f k 0) = search rules in fits.fits) _ c.if-f-eq1.true
    (cases_from_all _ _ _ (λ w. w ≡ 0) (λ w. ¬ (w ≡ 0)) c.all.ensures.ran (YieldsList-from_slice _ c.iter.ensures.rest) (λ x q k. search (rules, tests)) (λ x q k. search (rules, tests)))

pub returns-else-f-eq1 : goal.returns-else-f-eq1
returns-else-f-eq1 c =
    rw (ne_eqb _ _ c.if-f-eq1.false) (tells_other c.args.f (omega arith) (λ k. let fits : Fits w64 (get_or c.args.f k 0) = search rules in fits.fits) c.if-f-eq1.false)
