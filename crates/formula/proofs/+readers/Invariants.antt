-- The five readers call each other. Each call is at a lower rank: behind a token, or at the same place by a tighter reader. The invariant of a chain's
-- loop is `Turn`, and the loop goes on with less of the text left.
use Prim.Native.Nat.{◌-◌}
use lib.ListN.{length}
use Rattle.grammar.specs.Token.{and, or}
use Rattle.grammar.specs.Readings.{chain, implication, negation, operand}
use Rattle.formula.proofs.Steps.{rank}
use Rattle.formula.proofs.Chains.{Turn}
use Rattle.formula.proofs.+readers.Given as goal

abbrev pub decreases-bracket : goal.decreases-bracket
decreases-bracket l = rank operand l.text.now l.from

abbrev pub decreases-conjunction : goal.decreases-conjunction
decreases-conjunction l = rank (chain and) l.text.now l.from

abbrev pub decreases-disjunction : goal.decreases-disjunction
decreases-disjunction l = rank (chain or) l.text.now l.from

abbrev pub decreases-implication : goal.decreases-implication
decreases-implication l = rank implication l.text.now l.from

abbrev pub decreases-negation : goal.decreases-negation
decreases-negation l = rank negation l.text.now l.from

abbrev pub invariant-conjunction-loop-t : goal.invariant-conjunction-loop-t
invariant-conjunction-loop-t l = Turn and l.text l.depth l.initial.r l.r l.t

abbrev pub decreases-conjunction-loop-t : goal.decreases-conjunction-loop-t
decreases-conjunction-loop-t l = length l.text - l.r.at

abbrev pub invariant-disjunction-loop-t : goal.invariant-disjunction-loop-t
invariant-disjunction-loop-t l = Turn or l.text l.depth l.initial.r l.r l.t

abbrev pub decreases-disjunction-loop-t : goal.decreases-disjunction-loop-t
decreases-disjunction-loop-t l = length l.text - l.r.at
