-- The codes of three levels, which the verdict is over: the statuses of a process, of its undo and of that undo's own undo, as far as they ran. By `number 3` they are
-- 0 not run; 1 to 7 succeeded, [ok] 1, [ok, ok] 2, [ok, ok, ok] 3, [ok, ok, fail] 4, [ok, fail] 5, [ok, fail, ok] 6, [ok, fail, fail] 7; and 8 to 14 failed, likewise.
--
-- Three of them are no part of a complete run, and have no sets here: those of which the last level failed and its undo has not run, [ok, fail], [fail] and
-- [fail, fail]. For in a complete run whatever fails is undone in its turn.
use Rattle.std.specs.Prelude.{◌≡◌, refl, Bool, cond, List, [], ◌∷◌, map, ℕ, suc, ltb}
use Rattle.process.specs.Process.{Status, ok, fail, Form, Process}
use Rattle.process.specs.Forms.{form_number, form_of}
use Rattle.process.specs.Depth.{most_undos}
use Rattle.outcomes.specs.Codes.{number}
use Rattle.outcomes.specs.Sets.{Sets}
use Rattle.outcomes.specs.Cells.{among}
use Rattle.outcomes.specs.LevelCells.{cell_at}
use Rattle.outcomes.specs.Families.{Numbered, InFamilyBy, sets_under}

-- The code is not settled.
abbrev pub unsettled : ℕ → Bool
unsettled c = among c (5 ∷ 8 ∷ 12 ∷ [])

three_unsettled : map (number (suc most_undos)) ((ok ∷ fail ∷ []) ∷ (fail ∷ []) ∷ (fail ∷ fail ∷ []) ∷ []) ≡ 5 ∷ 8 ∷ 12 ∷ []
three_unsettled = refl

-- The cell of a form number, a left code and a right code: 15 where the two cannot occur, or what they give is not settled, and outside the forms 3 to 7 and the
-- codes 0 to 14.
abbrev pub settled_cell : Form → ℕ → ℕ → ℕ
settled_cell f l r = cond (unsettled (cell_at most_undos f l r)) 15 (cell_at most_undos f l r)

unfoldable pub cell3 : ℕ → ℕ → ℕ → ℕ
cell3 form l r = cond (ltb form 3) 15 (cond (ltb 7 form) 15 (cond (ltb 14 l) 15 (cond (ltb 14 r) 15 (settled_cell (form_of form) l r))))

-- A leaf has [ok], [ok, ok] and [ok, ok, ok] where it finished, [fail, ok] and [fail, ok, ok] where it failed: its undo is nothing, and succeeds.
abbrev pub three_levels : Numbered
three_levels = record { codes = 15; finished = 1 ∷ 2 ∷ 3 ∷ []; failed = 9 ∷ 10 ∷ []; cell_of = λ f. cell3 (form_number f) }

-- The codes of complete runs: [ok], [fail, ok], [fail, fail, ok] and [fail, fail, fail], whose own undo is empty, and succeeds.
pub data Final3 : ℕ → Status → Type 0 where
  final_1 : Final3 1 ok
  final_9 : Final3 9 fail
  final_13 : Final3 13 fail
  final_14 : Final3 14 fail

abbrev pub finals : List ℕ
finals = 1 ∷ 9 ∷ 13 ∷ 14 ∷ []

-- X is a set of P under the code c.
abbrev pub InFamily3 : (S : Sets) → Process → ℕ → S.Set → Type 0
InFamily3 S P c X = InFamilyBy three_levels S P c X

-- The whole plan's sets, by the status of the runs that leave them.
abbrev pub InPlan3 : (S : Sets) → Process → Status → S.Set → Type 0
InPlan3 S P s X = (c : ℕ) × Final3 c s × InFamily3 S P c X

-- The whole plan's sets as a list.
abbrev pub plan_sets : (S : Sets) → Process → List S.Set
plan_sets S P = sets_under three_levels S finals P
