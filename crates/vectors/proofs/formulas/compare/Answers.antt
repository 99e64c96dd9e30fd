-- `vectors::formulas::compare` meets its contract: the number expected is the first four bytes, the text what comes after the 131st.
use mathlib.Core.Path.{◌≡◌, ap, ◌∙◌}
use lib.ListN.{length, drop}
use Rattle.fields.specs.Number.{four_at}
use Rattle.formula.specs.Answer.{room, answer_of}
use Rattle.formula.specs.declared.Turned.{Turned}
use Rattle.vectors.specs.Formulas.{code_of}
use Rattle.vectors.proofs.Rest.{rest}
use borrow.Author.Rules.{rules}
use borrow.Author.Tests.{le-ltb}
use Rattle.vectors.proofs.formulas.compare.Goals as goal

pub returns : goal.returns
returns c =
    let body = c.args.body.now in
    let full : length c.rule_of-turned.result.bytes ≡ room = search (rules, c.rule_of-turned.type_inv.1) in
    let turned : c.rule_of-turned.result ≡ answer_of (drop 131 body) = rw (← rest 131 body) c.rule_of-turned.ensures in
    let code : c.code.result ≡ code_of (answer_of (drop 131 body)).answer = c.code.ensures ∙ ap (λ (t : Turned). code_of t.answer) turned in
    let due : c.from.result ≡ four_at body 0 = c.from.ensures ∙ c.four_at.ensures in
    rw (le-ltb _ _ c.if-body-lt131.false, ← code, ← due, ← turned) (rw full at c.held_answer.ensures)
