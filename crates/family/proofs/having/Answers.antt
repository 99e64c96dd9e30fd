-- `family::having` meets its contract: by the place below 6, and else by the word.
use native.Mathlib.Omega.{arith}
use borrow.Author.Rules.{rules}
use Rattle.family.proofs.Patterns.{by_place, by_word_none, by_word_all, by_word_past}
use Rattle.family.proofs.having.Goals.{else-high-lt64-via-then-high-lt64+else-w-high-eq1, else-high-lt64-via-else-high-lt64}
use Rattle.family.proofs.having.Goals as goal

pub returns-then-action-lt6 : goal.returns-then-action-lt6
returns-then-action-lt6 c = by_place c.args.action c.args.w c.pattern.result c.if-action-lt6.true c.pattern.ensures

pub returns-then-w-high-eq1 : goal.returns-then-w-high-eq1
returns-then-w-high-eq1 c = by_word_all c.args.action c.args.w c.if-action-lt6.false c.if-w-high-eq1.true

pub returns-else-high-lt64 : goal.returns-else-high-lt64
returns-else-high-lt64 c = elim c.else-high-lt64.branch [
  | else-high-lt64-via-then-high-lt64+else-w-high-eq1 w ↦ by_word_none c.args.action c.args.w c.if-action-lt6.false (omega arith)
  | else-high-lt64-via-else-high-lt64 w ↦ by_word_past c.args.action c.args.w c.if-action-lt6.false (omega arith) (search rules)
]
