-- `vectors::verdicts::code_in` meets its contract: the verdict's own, over the beginnings of the two areas.
use mathlib.Core.Path.{◌≡◌, ap, ap₂, ◌∙◌}
use mathlib.Core.List.{List, ◌++◌}
use Prim.Native.Nat.{ℕ, ◌-◌}
use lib.ListN.{length, take, drop}
use lib.Seq.{length-take-le}
use Rattle.judge.specs.Verdict.{Answer, verdict_of}
use Rattle.judge.specs.Record.{record_for}
use Rattle.judge.proofs.Plain.{record_is}
use native.Mathlib.Omega.{arith}
use Rattle.vectors.proofs.verdicts.code_in.Goals as goal

pub returns-clause-record_after : goal.returns-clause-record_after
returns-clause-record_after c =
    let a = c.args in
    let w = length a.work.now - c.from.result in
    let r = length a.«record».now - c.from-2.result in
    let v = c.verdict in
    let is : v.result ≡ verdict_of a.file.now w r = v.ensures.answer ∙ ap₂ (verdict_of a.file.now) (length-take-le w a.work.now (omega arith)) (length-take-le r a.«record».now (omega arith)) in
    let after = record_is a.file.now _ _ (take r a.«record».now) _ v.result v.ensures ∙ ap (λ (x : Answer). record_for a.file.now x (take r a.«record».now)) is in
    rw (← c.from.ensures, ← c.from-2.ensures) (ap (λ (bytes : List ℕ). bytes ++ drop r a.«record».now) after)
