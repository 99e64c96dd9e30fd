-- `formula::rule_of` meets its contract: the pass tells which texts are typed rules and how many bytes they become, so the readers meet only those that fit.
use mathlib.Core.Path.{sym, ◌∙◌}
use native.Mathlib.Omega.{arith}
use Rattle.formula.proofs.Turning as turning
use Rattle.formula.proofs.rule_of.Goals as goal

pub returns-in-None : goal.returns-in-None
returns-in-None c = c.refused.ensures ∙ sym (turning.outside_14 _ (turning.is_outside _ (sym c.count_of.ensures ∙ c.in-None.is)))

pub returns-in-Some : goal.returns-in-Some
returns-in-Some c =
    let b = turning.becomes _ _ (sym c.count_of.ensures ∙ c.in-Some.is) in
    let e = b.bytes in
    let h = c.if-n-gt-ROOM.true in
    c.refused-in-Some.ensures ∙ sym (turning.too_long _ b.postfix b.typed (omega arith))

pub read-requires-clause-becomes : goal.read-requires-clause-becomes
read-requires-clause-becomes c = turning.becomes _ _ (sym c.count_of.ensures ∙ c.in-Some.is)
