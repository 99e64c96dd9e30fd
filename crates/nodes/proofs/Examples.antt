-- Worked examples of check 8, by the bytes of node lists. Document 01's example for it passes, since document 02 (N14) has 8 fall on a third level only. Right sides of
-- compensations count, wherever they stand; left sides do not, nor do the sides of other forms.
use mathlib.Core.Path.{◌≡◌, refl}
use mathlib.Core.Bool.{true}
use mathlib.Core.List.{List, [], ◌∷◌, ◌++◌}
use Prim.Native.Nat.{ℕ}
use native.Mathlib.Omega.{arith}
use Rattle.blocks.specs.Bounded.{every}
use Rattle.nodes.specs.Nodes.{on_left, itself, named, alone, nested, NotTooDeep}
use Rattle.nodes.specs.Fold.{fold_from}
use Rattle.nodes.specs.NodeTests.{forms_ok, nested_ok}
use Rattle.nodes.proofs.Forms.{forms_say}
use Rattle.nodes.proofs.Depth.{nested_say}

passes : (b : List ℕ) → forms_ok 0 b ≡ true → nested_ok b ≡ true → NotTooDeep b
passes b forms deep = (nested_say b (λ i c f. ((forms_say 0 b).0 forms i c).parts f)).0 deep

-- document 01's example for 8: skips, and a compensation that is the right side of another
abbrev second : List ℕ
second = 1 ∷ 0 ∷ 0 ∷ 1 ∷ 0 ∷ 0 ∷ 6 ∷ 0 ∷ 1 ∷ 1 ∷ 0 ∷ 0 ∷ 6 ∷ 3 ∷ 2 ∷ []

second_passes : NotTooDeep second
unfolding every fold_from
second_passes = passes second refl refl

-- three compensations, each the left side of the next
abbrev to_the_left : List ℕ
to_the_left = 1 ∷ 0 ∷ 0 ∷ 1 ∷ 0 ∷ 0 ∷ 6 ∷ 0 ∷ 1 ∷ 1 ∷ 0 ∷ 0 ∷ 6 ∷ 2 ∷ 3 ∷ 1 ∷ 0 ∷ 0 ∷ 6 ∷ 4 ∷ 5 ∷ []

to_the_left_passes : NotTooDeep to_the_left
unfolding every fold_from
to_the_left_passes = passes to_the_left refl refl

-- the example as the left side of a form with a skip, and that as the right side of the form with another
abbrev in_form : ℕ → List ℕ
in_form f = second ++ (1 ∷ 0 ∷ 0 ∷ f ∷ 4 ∷ 5 ∷ 1 ∷ 0 ∷ 0 ∷ f ∷ 7 ∷ 6 ∷ [])

other_forms_pass : NotTooDeep (in_form 3) × NotTooDeep (in_form 4) × NotTooDeep (in_form 5) × NotTooDeep (in_form 7)
unfolding every fold_from
other_forms_pass = (passes (in_form 3) refl refl, passes (in_form 4) refl refl, passes (in_form 5) refl refl, passes (in_form 7) refl refl)

-- a third level: the example in the right side of one more, there the left side of a sequence; and all of it in the left side of a compensation, which will never have it run
abbrev third : List ℕ
third = second ++ (1 ∷ 0 ∷ 0 ∷ 3 ∷ 4 ∷ 5 ∷ 1 ∷ 0 ∷ 0 ∷ 6 ∷ 7 ∷ 6 ∷ 1 ∷ 0 ∷ 0 ∷ 6 ∷ 8 ∷ 9 ∷ [])

third_falls : NotTooDeep third → ⊥
third_falls h =
    h 8
    (nested {j = 4} (omega arith) refl (named {s = on_left} itself (record { present = omega arith; composite = omega arith; is = refl }))
    (nested {j = 2} (omega arith) refl itself (alone (omega arith) refl)))
