-- `judge::entry_count` meets its contract: the search ends where the first entry stands that is not shown.
use Rattle.std.proofs.Common.{rules, ◌+◌, ◌*◌, ◌/◌}
use mathlib.Core.Path.{refl, ◌∙◌}
use native.Mathlib.Omega.{arith}
use lib.Dec.{eqb}
use lib.ListN.{length, get_or}
use borrow.Author.Tests.{tests}
use Rattle.std.proofs.lemmas.Iterator.{YieldsList-from_range}
use Rattle.std.proofs.lemmas.Iterator.Search.{position_from_yields_List}
use Rattle.judge.proofs.Entries.{stop_found, shown_few}
use Rattle.judge.proofs.entry_count.Goals as goal

pub returns : goal.returns
returns c =
    let s = c.args.run.now in
    let n = length s / 2 in
    let at = position_from_yields_List (λ i. eqb (get_or s (2 * i + 1) 0) 0) _ _ c.position.result c.position.ensures.ran (YieldsList-from_range 0 n n refl (omega arith)) (λ x b q k. search (rules, tests)) in
    let found = c.unwrap_or.ensures ∙ stop_found s c.position.result at in
    record { value = found; upper_bound = omega (arith, found, shown_few s) }
