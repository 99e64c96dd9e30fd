-- `Kind::body_at` meets its contract: what a check of the contents finds is what the reader answers.
use mathlib.Core.Path.{◌≡◌, sym, ◌∙◌}
use mathlib.Core.Bool.{true}
use mathlib.Core.List.{List}
use Prim.Native.Nat.{ℕ, ◌+◌}
use native.Mathlib.Nat.{add-sub_cancel_left}
use native.Mathlib.Omega.{arith}
use lib.ListN.{take, drop}
use borrow.Author.Tests.{eq-eqb}
use Rattle.std.specs.Prelude.{Some, Err}
use Rattle.std.proofs.lemmas.Result.{err_from_is_err_and}
use Rattle.blocks.specs.Block.{heading_at, body_fits}
use Rattle.blocks.specs.declared.Heading.{Heading}
use Rattle.plan.specs.Reading.{length_ok, contents, block_at}
use Rattle.plan.specs.declared.Fault.{Fault}
use Rattle.plan.proofs.Kind.body_at.Goals as goal

broken : (s : List ℕ) (at kind most actions : ℕ) (h : Heading) (f : Fault) → heading_at s at ≡ Some h → h.kind ≡ kind → length_ok kind most h.len ≡ true
    → body_fits s at h.len ≡ true → contents kind actions (take h.len (drop (at + 4) s)) ≡ Err f → block_at s at kind most actions ≡ Err f
broken s at kind most actions h f e k l b x = rw (e, eq-eqb _ _ k, l, b, x)

pub returns-in_err-check-clause-value : goal.returns-in_err-check-clause-value
returns-in_err-check-clause-value c =
    let a = c.args in
    let p = err_from_is_err_and c.from_residual-in_err-check.result c.from_residual-in_err-check.ensures.1 in
    let head : heading_at a.file.now a.at ≡ Some c.in_ok-kind.field-0 = grind arith in
    rw (p.1, p.2) (sym (broken a.file.now a.at _ a.most a.actions c.in_ok-kind.field-0 _ head (c.if-kind-number.false ∙ c.number.ensures)
    (sym c.length_ok.ensures ∙ c.if-not-length_ok.false) (sym c.body_fits.ensures ∙ c.if-not-body_fits.false)
    (sym (rw add-sub_cancel_left at c.in_err-check.ensures))))
