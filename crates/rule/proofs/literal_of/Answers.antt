-- `rule::literal_of` meets its contract: the values from the sets that have the action and those that have some undo of it, and more than one.
use Rattle.std.proofs.Common.{subst, ℕ, get_or, rules}
use Rattle.meaning.specs.Literal.{finished}
use Rattle.rule.specs.Words.{shared, Tells, TellsNumber}
use Rattle.rule.proofs.Words.{literal_told}
use Rattle.rule.proofs.Gathered.{having_told}
use Rattle.rule.proofs.literal_of.Goals as goal

pub returns : goal.returns
returns c = λ pairs m.
    let a = c.args in
    literal_told pairs a.masks.now m a.w a.action (search rules) (search rules) c.having-finished.result c.meeting-some.result (search rules) (search rules) (search rules)
    (subst (λ (k : ℕ). Tells a.w c.having-finished.result (λ set. finished set k)) c.from.ensures (having_told c.having-finished.ensures))
    (subst (λ (k : ℕ). TellsNumber a.w c.meeting-some.result (λ set. shared set (get_or a.masks.now k 0))) c.from-2.ensures c.meeting-some.ensures)
