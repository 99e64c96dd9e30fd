-- `product::with_action` meets its contract: a shift and a mask (`action_added_lem`).
use lib.Pow.{pow-lt}
use Rattle.std.proofs.lemmas.Nat.{one_shl}
use Rattle.product.proofs.Masks.{action_added_lem}
use native.Mathlib.Omega.{arith}
use borrow.Author.Rules.{rules}
use Rattle.product.proofs.with_action.Goals as goal

pub overflow_shl-result-2 : goal.overflow_shl-result-2
overflow_shl-result-2 c = rw (one_shl c.args.k 64 (omega arith)) (pow-lt {i = c.args.k} {j = 6} (search rules))

pub returns : goal.returns
returns c =
    let a = c.args in
    rw (one_shl a.k 64 (omega arith)) (action_added_lem a.w a.k c.pattern.result (search rules) c.pattern.ensures)
