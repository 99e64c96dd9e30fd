-- Document 01's chart is exact for plans without a compensation in an undo side: its 245 cells are those of two levels, so it is the whole of the chart of two levels; the sets
-- under 1 are those that succeeding runs leave, the sets under 5 and 6 those that failing runs leave.
use mathlib.Core.Path.{◌≡◌, refl, sym, ◌∙◌}
use mathlib.Core.Bool.{true}
use mathlib.Core.List.{[], ◌∷◌}
use mathlib.Core.Logic.{◌↔◌}
use Prim.Native.Nat.{ℕ}
use Rattle.process.specs.Process.{Status, ok, fail, Process}
use Rattle.process.specs.Depth.{Flat}
use Rattle.outcomes.specs.Codes.{Code, Ends, ends_ok, ends_fail, number, Final, final_1, final_5, final_6}
use Rattle.outcomes.specs.Sets.{Sets, Lawful, Leaves}
use Rattle.outcomes.specs.Families.{document_chart, InPlan}
use Rattle.outcomes.proofs.Cells.{document_cell}
use Rattle.outcomes.proofs.Parts.{PartOf, exact_part}

two_levels : PartOf 1 (λ c. true) document_chart
two_levels = record {
  finished_in = λ c i. i;
  failed_in = λ c i. i;
  finished_kept = λ c k i. i;
  failed_kept = λ c k i. i;
  cell_in = λ f l r c hl hr e h. (sym (document_cell f l r hl hr) ∙ e, h);
  cell_kept = λ f l r c hl hr k e h. (document_cell f l r hl hr ∙ e, h, refl, refl);
}

-- the numbers of codes that end, and back
final_number : {c : Code} {s : Status} → Ends c s → Final (number 2 c) s
final_number ends_ok = final_1
final_number (ends_fail ends_ok) = final_5
final_number (ends_fail (ends_fail e)) = final_6

final_code : {c : ℕ} {s : Status} → Final c s → (d : Code) × Ends d s × (number 2 d ≡ c)
final_code final_1 = (ok ∷ [], ends_ok, refl)
final_code final_5 = (fail ∷ ok ∷ [], ends_fail ends_ok, refl)
final_code final_6 = (fail ∷ fail ∷ ok ∷ [], ends_fail (ends_fail ends_ok), refl)

pub plan_exact : (S : Sets) → Lawful S → (P : Process) (s : Status) (X : S.Set) → Flat P → InPlan S P s X ↔ Leaves S P s X
plan_exact S laws P s X h = exact_part two_levels S (record { of_code = final_number; code = final_code; kept = λ f. refl }) laws P s X h
