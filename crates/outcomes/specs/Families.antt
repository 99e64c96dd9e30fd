-- The families of sets that a chart over the numbers of codes computes, by the rule of document 01's "Outcome chart": for each process the list of its sets with
-- their codes. Document 01's own chart has the 245 cells, and the whole plan's sets are those under 1, 5 and 6.
use Rattle.std.specs.Prelude.{◌≡◌, Bool, true, false, cond, ℕ, ltb}
use mathlib.Core.List.{List, [], ◌∷◌, ◌++◌, map, flat_map, Memᴰ}
use Rattle.process.specs.Process.{Status, ok, fail, permits, Form, Process, done, leaf, node}
use Rattle.process.specs.Forms.{form_number}
use Rattle.outcomes.specs.Codes.{Final}
use Rattle.outcomes.specs.Sets.{Sets}
use Rattle.outcomes.specs.Cells.{among, cell}

-- A chart over numbers: how many there are, any other standing for what cannot occur; those of a leaf that finished, and of one that failed; and a node's from
-- those of its sides.
pub record Numbered : Type 0 where
  pub codes : ℕ
  pub finished : List ℕ
  pub failed : List ℕ
  pub cell_of : Form → ℕ → ℕ → ℕ

-- What a chart gives a leaf that may finish, and may fail: under 0, not run, the empty set; under the codes of one that finished its own set; under those of one that failed
-- the empty set.
pub data LeafSet (N : Numbered) {Set : Type 0} (empty own : Set) (finishes fails : Bool) (c : ℕ) (X : Set) : Type 0 where
  not_run : c ≡ 0 → X ≡ empty → LeafSet N empty own finishes fails c X
  finished : finishes ≡ true → Memᴰ c N.finished → X ≡ own → LeafSet N empty own finishes fails c X
  failed : fails ≡ true → Memᴰ c N.failed → X ≡ empty → LeafSet N empty own finishes fails c X

module _ (N : Numbered) (S : Sets) where
  -- A code and a set under it.
  abbrev pub Outcome : Type 0
  Outcome = ℕ × S.Set

  -- Where a leaf may end so, each of the codes, with the set A.
  abbrev pub ending : Bool → List ℕ → S.Set → List Outcome
  ending true codes A = map (λ c. (c, A)) codes
  ending false codes A = []

  -- The union of a left set and a right set, under their cell's code, where that can occur.
  abbrev pub joint : Form → Outcome → Outcome → List Outcome
  joint f x y = cond (ltb (N.cell_of f x.0 y.0) N.codes) ((N.cell_of f x.0 y.0, S.union x.1 y.1) ∷ []) []

  -- Code 0 has the empty set only. A leaf that finishes has its own set alone (skip: the empty set), one that fails the empty set, under each of its codes.
  -- "A node of forms 3 to 7 has, under a cell's code, every union of one left set under the cell's left code and one right set under its right code". `done`,
  -- the undo of a leaf, is as a skip.
  unfoldable pub outcomes_by : Process → List Outcome
  outcomes_by done = (0, S.empty) ∷ ending true N.finished S.empty
  outcomes_by (leaf n k) = (0, S.empty) ∷ (ending (permits k ok) N.finished (S.single n) ++ ending (permits k fail) N.failed S.empty)
  outcomes_by (node f P Q) = flat_map (λ x. flat_map (joint f x) (outcomes_by Q)) (outcomes_by P)

  -- X is a set of P under the code c.
  abbrev pub InFamilyBy : Process → ℕ → S.Set → Type 0
  InFamilyBy P c X = Memᴰ (c, X) (outcomes_by P)

  -- The sets under some codes as a list.
  abbrev pub under : List ℕ → Outcome → List S.Set
  under codes o = cond (among o.0 codes) (o.1 ∷ []) []

  unfoldable pub sets_under : List ℕ → Process → List S.Set
  sets_under codes P = flat_map (under codes) (outcomes_by P)

-- Document 01's chart: "A finishing leaf has codes 1 and 2 ..; a failing one has 4 and 5".
abbrev pub document_chart : Numbered
document_chart = record { codes = 7; finished = 1 ∷ 2 ∷ []; failed = 4 ∷ 5 ∷ []; cell_of = λ f. cell (form_number f) }

abbrev pub InFamily : (S : Sets) → Process → ℕ → S.Set → Type 0
InFamily S P c X = InFamilyBy document_chart S P c X

-- "The whole plan's sets are those under 1, 5 and 6": under 1, where it succeeds, and under 5 and 6, where it fails.
abbrev pub InPlan : (S : Sets) → Process → Status → S.Set → Type 0
InPlan S P s X = (c : ℕ) × Final c s × InFamily S P c X
