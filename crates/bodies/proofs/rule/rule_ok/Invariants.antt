-- `bodies::rule::rule_ok` meets its contract: what is left of the rule, from the values so far, is what the whole rule is from none.
use Rattle.std.proofs.Common.{◌≡◌, ◌≤◌, drop}
use Rattle.bodies.specs.Rule.{rule_from}
use Rattle.bodies.proofs.rule.rule_ok.Given as goal

abbrev pub invariant-loop-t : goal.invariant-loop-t
invariant-loop-t l = (l.depth ≤ l.t-index) × (rule_from l.actions 0 l.b ≡ rule_from l.actions l.depth (drop l.t-index l.b))
