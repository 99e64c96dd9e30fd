-- What is told of a place is what is told of its file: the place says the verdict of the file (`place_says`), and a file has one (`one_answer`).
use mathlib.Core.Path.{◌≡◌, refl, sym, ap, ap₂, ◌∙◌}
use mathlib.Core.List.{List, ◌∷◌, ◌++◌}
use Prim.Native.Nat.{ℕ}
use lib.ListN.{length}
use lib.Seq.{take-append_seam}
use Rattle.text.specs.declared.Text.{Text}
use Rattle.judge.specs.declared.Finding.{Finding}
use Rattle.judge.specs.declared.Judgement.{Judgement}
use Rattle.judge.proofs.Plain.{one_answer}
use Rattle.std.specs.Prelude.{Result, Ok}
use Rattle.judge.specs.Verdict.{told}
use Rattle.report.specs.Lines.{told_lines}
use Rattle.report.specs.Tells.{Finds, Tells}
use Rattle.handed.specs.Files.{handed}
use Rattle.place.specs.Place.{zero_work, zero_record, Placed}
use Rattle.class.specs.Promises.{place_in}
use Rattle.handed.proofs.Files.{handed_holds}
use Rattle.class.proofs.Promises.{promised}
use Rattle.sheet.specs.Said.{judgement_in, run_in}
use Rattle.sheet.specs.Lines.{plan_line, plan_lines}
use Rattle.sheet.specs.Row.{row_of}
use Rattle.sheet.specs.Tells.{bytes_in, EachTold, ClassTells}
use Rattle.sheet.proofs.Says.{place_says, whole}

module _ (f p : List ℕ) (x : Placed f p) where
  -- whatever is said by verdict and run
  as_found : (say : Result Judgement ℕ → List ℕ → List ℕ) (found : Finding) → Finds f found → say (judgement_in p) (run_in p) ≡ say (told found.judgement) found.run
  as_found say found y =
      let e = one_answer f zero_work zero_work y.work zero_record x.shown found.run x.verdict found.judgement x.alone y.judged in
      ap₂ say ((place_says f p x).0 ∙ ap told e.answers) ((place_says f p x).1 ∙ e.records)

  lines : (i : ℕ) (t : Text) → Tells f t → plan_lines i p ≡ plan_line i ++ bytes_in t
  lines i t y =
      let said = told_lines (told y.finding.judgement) y.finding.run in
      let read : bytes_in t ≡ said = ap bytes_in y.is ∙ take-append_seam said _ in
      ap (λ (l : List ℕ). plan_line i ++ l) (as_found told_lines y.finding y.finds ∙ sym read)

each : EachTold
each before after f work work' old new n x t y =
    let s = handed (before ++ f ∷ after) in
    let place = (promised s work work' old new (Ok n) x).each n refl before after f (handed_holds (before ++ f ∷ after)) in
    lines f (place_in new (length before)) place (length before) t y

pub class_tells : ClassTells
class_tells = record { says = place_says; whole = whole; lines = lines; row = λ f p x found y. as_found f p x row_of found y; each = each }
