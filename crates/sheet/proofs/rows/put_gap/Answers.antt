-- `sheet::rows::put_gap` meets its contract: by the test whether it is the first.
use native.Mathlib.Omega.{arith}
use borrow.Author.Tests.{eq-eqb, ne_eqb}
use Rattle.text.specs.Text.{appended}
use Rattle.sheet.proofs.rows.put_gap.Goals as goal

pub returns-then-i-gt0 : goal.returns-then-i-gt0
unfolding appended
returns-then-i-gt0 c = rw (ne_eqb c.args.i 0 (λ e. omega (arith, e))) c.push.ensures

pub returns-else-i-gt0 : goal.returns-else-i-gt0
unfolding appended
returns-else-i-gt0 c = rw (eq-eqb c.args.i 0 (omega arith))
