-- The verdict's sets are just those that complete runs leave. Of the chart of three levels the settled codes are a part: one test computes, at the 1,125 places of the five forms,
-- that the sides of a settled code are settled.
use mathlib.Core.Path.{◌≡◌, refl, sym, ◌∙◌}
use mathlib.Core.Bool.{Bool, true, false, cond, not, ◌&&◌, ◌||◌, true≢false}
use mathlib.Core.List.{[], ◌∷◌, Memᴰ}
use mathlib.Core.Logic.{◌↔◌}
use Prim.Native.Nat.{ℕ, ◌<◌}
use native.Mathlib.Omega.{arith}
use lib.Dec.{T, ltb}
use borrow.Author.Tests.{le-ltb, not-true}
use Rattle.process.specs.Process.{Status, ok, fail, Form, sequence, parallel, choice, compensation, handler, Process}
use Rattle.process.specs.Forms.{form_number, form_of}
use Rattle.process.specs.Depth.{Shallow}
use Rattle.outcomes.specs.Codes.{Code, Ends, ends_ok, ends_fail, number}
use Rattle.outcomes.specs.Sets.{Sets, Lawful, Leaves}
use Rattle.outcomes.specs.LevelCells.{cell_at}
use Rattle.outcomes.specs.ThreeLevels.{unsettled, settled_cell, cell3, three_levels, Final3, final_1, final_9, final_13, final_14, finals, InPlan3, plan_sets}
use Rattle.outcomes.proofs.Table.{both_hold, below, at_number}
use Rattle.outcomes.proofs.Cells.{same_form, form_low}
use Rattle.outcomes.proofs.Members.{in_sets_under, out_sets_under}
use Rattle.outcomes.proofs.Parts.{PartOf, exact_part}

-- a code that is settled, and not 15, has settled sides
abbrev settled : ℕ → Bool
settled c = not (unsettled c)

abbrev closed : Form → ℕ → ℕ → Bool
closed f l r = unsettled (cell_at 2 f l r) || (ltb 14 (cell_at 2 f l r) || (settled l && settled r))

tested : (f : Form) → T (below 15 (λ l. below 15 (λ r. closed f l r)))
unfolding cell_at
tested sequence = tt
tested parallel = tt
tested choice = tt
tested compensation = tt
tested handler = tt

T_true : (b : Bool) → T b → b ≡ true
T_true true t = refl
T_true false t = absurd t

sides_settled : (a b c d : Bool) → T (a || (b || (c && d))) → a ≡ false → b ≡ false → (c ≡ true) × (d ≡ true)
sides_settled true b c d t x y = absurd (true≢false x)
sides_settled false true c d t x y = absurd (true≢false y)
sides_settled false false c d t x y = let (u, v) = both_hold c d t in (T_true c u, T_true d v)

closed_sides : (f : Form) (l r c : ℕ) → l < 15 → r < 15 → settled c ≡ true → cell_at 2 f l r ≡ c → c < 15 → (settled l ≡ true) × (settled r ≡ true)
closed_sides f l r c hl hr k e h =
    sides_settled (unsettled (cell_at 2 f l r)) (ltb 14 (cell_at 2 f l r)) (settled l) (settled r)
    (at_number 15 (λ r. closed f l r) (at_number 15 (λ l. below 15 (λ r. closed f l r)) (tested f) l hl) r hr) (rw e (not-true (unsettled c) k)) (rw e (le-ltb 14 c (omega arith)))

-- the table's cell of a form is that of three levels, where it is settled
cell_of_form : (f : Form) (l r : ℕ) → l < 15 → r < 15 → cell3 (form_number f) l r ≡ settled_cell f l r
unfolding cell3
cell_of_form f l r hl hr =
    let (a, b) = form_low f in
    simp (le-ltb (form_number f) 3 a, le-ltb 7 (form_number f) b, le-ltb 14 l (omega arith), le-ltb 14 r (omega arith), same_form f)

-- no cell gives a code that is not settled
settled_unless : (b : Bool) (c : ℕ) → (b ≡ false → unsettled c ≡ false) → unsettled (cond b 15 c) ≡ false
settled_unless true c h = refl
settled_unless false c h = h refl

pub cell_settled : (form l r : ℕ) → unsettled (cell3 form l r) ≡ false
unfolding cell3
cell_settled form l r =
    settled_unless (ltb form 3) _ (λ e₁. settled_unless (ltb 7 form) _ (λ e₂. settled_unless (ltb 14 l) _ (λ e₃. settled_unless (ltb 14 r) _ (λ e₄.
    settled_unless (unsettled (cell_at 2 (form_of form) l r)) (cell_at 2 (form_of form) l r) (λ e. e)))))

taken : (b : Bool) (n c : ℕ) → cond b 15 n ≡ c → c < 15 → n ≡ c
taken true n c e h = absurd (omega arith)
taken false n c e h = e

pub three : PartOf 2 settled three_levels
three = record {
  finished_in = λ c i. i;
  failed_in = λ c i. Memᴰ.tail i;
  finished_kept = λ c k i. i;
  failed_kept = kept;
  cell_in = λ f l r c hl hr e h. (taken (unsettled (cell_at 2 f l r)) (cell_at 2 f l r) c (sym (cell_of_form f l r hl hr) ∙ e) h, h);
  cell_kept = λ f l r c hl hr k e h. (cell_of_form f l r hl hr ∙ rw (e, not-true (unsettled c) k), h, (closed_sides f l r c hl hr k e h).0, (closed_sides f l r c hl hr k e h).1);
}
  where
    kept : (c : ℕ) → settled c ≡ true → Memᴰ c (8 ∷ 9 ∷ 10 ∷ []) → Memᴰ c (9 ∷ 10 ∷ [])
    kept c k (Memᴰ.head e) = absurd (true≢false (sym (rw e at k)))
    kept c k (Memᴰ.tail i) = i

-- the numbers of codes that end, and back
pub final_number : {c : Code} {s : Status} → Ends c s → Final3 (number 3 c) s
final_number ends_ok = final_1
final_number (ends_fail ends_ok) = final_9
final_number (ends_fail (ends_fail ends_ok)) = final_13
final_number (ends_fail (ends_fail (ends_fail e))) = final_14

pub final_code : {c : ℕ} {s : Status} → Final3 c s → (d : Code) × Ends d s × (number 3 d ≡ c)
final_code final_1 = (ok ∷ [], ends_ok, refl)
final_code final_9 = (fail ∷ ok ∷ [], ends_fail ends_ok, refl)
final_code final_13 = (fail ∷ fail ∷ ok ∷ [], ends_fail (ends_fail ends_ok), refl)
final_code final_14 = (fail ∷ fail ∷ fail ∷ ok ∷ [], ends_fail (ends_fail (ends_fail ends_ok)), refl)

final_settled : {c : ℕ} {s : Status} → Final3 c s → settled c ≡ true
final_settled final_1 = refl
final_settled final_9 = refl
final_settled final_13 = refl
final_settled final_14 = refl

pub sets_exact : (S : Sets) → Lawful S → (P : Process) (s : Status) (X : S.Set) → Shallow P → InPlan3 S P s X ↔ Leaves S P s X
sets_exact S laws P s X h = exact_part three S (record { of_code = final_number; code = final_code; kept = final_settled }) laws P s X h

-- the plan's list of sets
final_member : {c : ℕ} {s : Status} → Final3 c s → Memᴰ c finals
final_member final_1 = Memᴰ.head refl
final_member final_9 = Memᴰ.tail (Memᴰ.head refl)
final_member final_13 = Memᴰ.tail (Memᴰ.tail (Memᴰ.head refl))
final_member final_14 = Memᴰ.tail (Memᴰ.tail (Memᴰ.tail (Memᴰ.head refl)))

member_final : {c : ℕ} → Memᴰ c finals → (s : Status) × Final3 c s
member_final (Memᴰ.head e) = (ok, rw e final_1)
member_final (Memᴰ.tail (Memᴰ.head e)) = (fail, rw e final_9)
member_final (Memᴰ.tail (Memᴰ.tail (Memᴰ.head e))) = (fail, rw e final_13)
member_final (Memᴰ.tail (Memᴰ.tail (Memᴰ.tail (Memᴰ.head e)))) = (fail, rw e final_14)
member_final (Memᴰ.tail (Memᴰ.tail (Memᴰ.tail (Memᴰ.tail m)))) = elim m [ ]

module _ (S : Sets) where
  pub in_plan_sets : (P : Process) {X : S.Set} (s : Status) → InPlan3 S P s X → Memᴰ X (plan_sets S P)
  in_plan_sets P s (c, f, m) = in_sets_under three_levels S finals P (final_member f) m

  pub out_plan_sets : (P : Process) {X : S.Set} → Memᴰ X (plan_sets S P) → (s : Status) × InPlan3 S P s X
  out_plan_sets P m = let (c, i, k) = out_sets_under three_levels S finals P m in let (s, f) = member_final i in (s, (c, f, k))
