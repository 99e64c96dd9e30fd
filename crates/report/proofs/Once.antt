-- A file has one finding, and so one text.
use mathlib.Core.Path.{◌≡◌, sym, ap, ap₂, ◌∙◌}
use mathlib.Core.List.{List, ◌++◌}
use Prim.Native.Nat.{ℕ}
use Rattle.text.specs.Text.{empty, appended, text_of}
use Rattle.text.specs.Lines.{line}
use Rattle.judge.specs.declared.Finding.{Finding}
use Rattle.judge.proofs.Plain.{one_answer}
use Rattle.report.specs.Lines.{verdict_lines}
use Rattle.report.specs.Tells.{Finds, OneText, OneNamedText}

same_lines : (s : List ℕ) (f g : Finding) → Finds s f → Finds s g → verdict_lines f.judgement f.run ≡ verdict_lines g.judgement g.run
same_lines s f g x y =
    let e = one_answer s _ _ _ _ _ _ f.judgement g.judgement x.judged y.judged in
    ap₂ verdict_lines e.answers e.records

pub one_text : OneText
one_text s t t' x y = x.is ∙ ap text_of (same_lines s x.finding y.finding x.finds y.finds) ∙ sym y.is

pub one_named_text : OneNamedText
one_named_text name s t t' x y = x.is ∙ ap (λ (b : List ℕ). appended empty (line name ++ b)) (same_lines s x.finding y.finding x.finds y.finds) ∙ sym y.is
