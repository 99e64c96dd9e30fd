-- `family::is_empty` meets its contract: where all words are 0 there is no set; a word that is not 0 has one.
use mathlib.Core.Path.{◌≡◌}
use lib.ListN.{get_or}
use mir.Val.{Fits}
use mir.Syntax.{w64}
use borrow.Author.Rules.{rules}
use borrow.Author.Tests.{tests}
use native.Mathlib.Omega.{arith}
use Rattle.std.proofs.lemmas.Iterator.{cases_from_all, YieldsList-from_slice}
use Rattle.family.proofs.Words.{tells_empty}
use Rattle.family.proofs.is_empty.Goals as goal

pub returns : goal.returns
returns c =
    tells_empty _ _ (omega arith) (λ k. let fits : Fits w64 (get_or c.args.f k 0) = search rules in fits.fits)
    (cases_from_all _ _ _ (λ w. w ≡ 0) (λ w. ¬ (w ≡ 0)) c.all.ensures.ran (YieldsList-from_slice c.args.f cc) (λ x q k. search (rules, tests)) (λ x q k. search (rules, tests)))
