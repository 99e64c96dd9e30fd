-- The rules that are tried at their sets, computed.
use mathlib.Core.Path.{refl}
use Rattle.blocks.specs.Bounded.{every, total}
use Rattle.meaning.specs.Value.{values, satisfies}
use Rattle.meaning.specs.TriedRules.{TriedRules}

pub tried_rules : TriedRules
unfolding every total values satisfies
tried_rules = record { p1 = refl; p2 = refl; p7 = refl; three = refl; three_not = refl; three_or = refl }
