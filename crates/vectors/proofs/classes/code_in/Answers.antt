-- `vectors::classes::code_in` meets its contract: the answer and the area are those that are computed, with the beginning of the work area.
use mathlib.Core.Path.{◌≡◌, ap, ◌∙◌}
use mathlib.Core.List.{List}
use Prim.Native.Nat.{ℕ, ◌-◌, ◌%◌}
use native.Mathlib.Omega.{arith}
use lib.ListN.{length, take}
use lib.Seq.{length-take-le}
use Rattle.std.specs.Prelude.{Result}
use Rattle.class.specs.Outcome.{told, code_told}
use Rattle.class.specs.Computed.{call_of, answer_of, area_of}
use Rattle.class.specs.declared.Refusal.{Refusal}
use Rattle.vectors.proofs.Calls.{as_computed}
use Rattle.vectors.proofs.classes.code_in.Goals as goal

pub returns : goal.returns
returns c =
    let a = c.args in
    let w = length a.work.now - c.from.result in
    let v = c.verdicts in
    let found = as_computed a.input.now (take w a.work.now) _ a.answers.now _ v.result v.ensures in
    let long : length (take w a.work.now) ≡ length a.work.now - a.short % 2 = length-take-le w a.work.now (omega arith) ∙ ap (λ (k : ℕ). length a.work.now - k) c.from.ensures in
    let call = ap (λ (n : ℕ). call_of a.input.now n (length a.answers.now)) long in
    record {
      value = c.from-2.ensures ∙ c.code.ensures ∙ ap code_told (c.told.ensures ∙ ap told (found.answers ∙ ap answer_of call));
      answers_after = found.areas ∙ ap (λ (x : Result (List (List ℕ)) Refusal). area_of x a.answers.now) call;
    }
