-- `vectors::verdicts::compare` meets its contract: the number expected is the first four bytes, and number and record area found are those of the
-- verdict on the bytes after the 131st.
use mathlib.Core.Path.{◌≡◌, ◌∙◌}
use lib.ListN.{length, get_or, drop}
use Rattle.judge.specs.Verdict.{record_size, code_of}
use Rattle.fields.specs.Number.{four_at}
use Rattle.vectors.specs.Verdicts.{verdict_with, record_with}
use Rattle.vectors.proofs.Rest.{rest}
use borrow.Author.Tests.{le-ltb}
use Rattle.vectors.proofs.verdicts.compare.Goals as goal

pub returns : goal.returns
returns c =
    let body = c.args.body.now in
    let short = get_or body 4 0 in
    let code : c.code_in-found.result ≡ code_of (verdict_with short (drop 131 body)) = rw (← rest 131 body) c.code_in-found.ensures.value in
    let shown : c.code_in-found.new.«record» ≡ record_with short (drop 131 body) = rw (← rest 131 body) c.code_in-found.ensures.record_after in
    let long : length c.code_in-found.new.«record» ≡ record_size = c.code_in-found.auto.«record» in
    let due : c.from.result ≡ four_at body 0 = c.from.ensures ∙ c.four_at.ensures in
    rw (le-ltb _ _ c.if-body-lt131.false, ← code, ← shown, ← due) (rw long at c.held_answer.ensures)
