-- Summaries are exact: a leaf's since its sets are those that the chart gives it; a node's, under the settled codes above 0, by the members of its computed family, under 0
-- since only the cell (0,0) gives 0, and under the others since no cell gives them.
use mathlib.Core.Path.{◌≡◌, refl, sym, ◌∙◌, subst}
use mathlib.Core.Bool.{Bool, true, false, not, ◌&&◌, ◌||◌}
use mathlib.Core.Logic.{inl, inr}
use Prim.Native.Nat.{ℕ, ◌+◌, ◌-◌, ◌≤◌, ◌<◌}
use native.Mathlib.Omega.{arith}
use borrow.Author.Tests.{eq-eqb}
use lib.Dec.{T, eqb, eqb→eq}
use Rattle.family.specs.Family.{In}
use Rattle.std.proofs.lemmas.Bool.{cases_eq, cases_lt}
use Rattle.process.specs.Process.{ok, fail, Kind, permits, Process, leaf, node}
use Rattle.process.specs.Forms.{form_of, form_number}
use Rattle.outcomes.specs.Sets.{numbers}
use Rattle.outcomes.specs.Families.{LeafSet, not_run, finished, failed}
use Rattle.outcomes.specs.LevelCells.{cell_at}
use Rattle.outcomes.specs.ThreeLevels.{unsettled, cell3, three_levels, InFamily3}
use Rattle.outcomes.proofs.Table.{both_hold, below, at_number}
use Rattle.outcomes.proofs.ThreeLevels.{cell_settled}
use Rattle.outcomes.proofs.Members.{from_sides, in_leaf_family, out_leaf_family, in_node_family, out_node_family}
use Rattle.summary.specs.declared.Summary.{Summary}
use Rattle.summary.specs.Summary.{family_of, LeafSummary}
use Rattle.summary.specs.Node.{NodeSummary}
use Rattle.summary.specs.Exact.{Exact, Computes}
use Rattle.summary.proofs.Codes.{empty_set_lem, beyond, none_unsettled}

-- the forms 3 to 7: each is the number of its form, and its cell (0,0) is 0; only that cell is
abbrev form_test : ℕ → Bool
form_test form = eqb (form_number (form_of form)) form && eqb (cell3 form 0 0) 0

abbrev cell_test : ℕ → ℕ → ℕ → Bool
cell_test form l r = not (eqb (cell3 form l r) 0) || eqb (l + r) 0

cells_tested : T (below 5 (λ n. below 15 (λ l. below 15 (λ r. cell_test (n + 3) l r))))
unfolding cell3 cell_at
cells_tested = tt

module _ (form : ℕ) (h : 3 ≤ form) (l : form ≤ 7) where
  place : form - 3 + 3 ≡ form
  place = omega arith

  form_tests : T (eqb (form_number (form_of form)) form) × T (eqb (cell3 form 0 0) 0)
  unfolding cell3 cell_at
  form_tests =
      both_hold (eqb (form_number (form_of form)) form) (eqb (cell3 form 0 0) 0) (subst (λ (n : ℕ). T (form_test n)) place (at_number 5 (λ n. form_test (n + 3)) tt (form - 3) (omega arith)))

  pub same_number : form_number (form_of form) ≡ form
  same_number = eqb→eq _ _ form_tests.0

  cell_none : cell3 form 0 0 ≡ 0
  cell_none = eqb→eq _ _ form_tests.1

  cell_zero : (left right : ℕ) → left < 15 → right < 15 → cell3 form left right ≡ 0 → left + right ≡ 0
  cell_zero left right a b e =
      let at_form : T (below 15 (λ l. below 15 (λ r. cell_test form l r))) =
      subst (λ (n : ℕ). T (below 15 (λ l. below 15 (λ r. cell_test n l r)))) place (at_number 5 (λ n. below 15 (λ l. below 15 (λ r. cell_test (n + 3) l r))) cells_tested (form - 3) (omega arith)) in
      let at_cell : T (cell_test form left right) = at_number 15 (λ r. cell_test form left r) (at_number 15 (λ l. below 15 (λ r. cell_test form l r)) at_form left a) right b in
      eqb→eq _ _ (rw (eq-eqb (cell3 form left right) 0 e) at at_cell)

-- a leaf
module _ (single : ℕ → ℕ) (n : ℕ) (k : Kind) where
  small_set : {code t : ℕ} → single n < 1024 → LeafSet three_levels 0 (single n) (permits k ok) (permits k fail) code t → t < 1024
  small_set l (not_run c z) = omega arith
  small_set l (finished m c z) = omega arith
  small_set l (failed m c z) = omega arith

  of_leaf : (s : Summary) → single n < 1024 → LeafSummary (single n) (permits k ok) (permits k fail) s → Exact single s (leaf n k)
  of_leaf s l h code t = (
    (λ on. in_leaf_family three_levels (numbers single) n k (h.sound code t on)),
    λ m. let o = out_leaf_family three_levels (numbers single) n k m in h.complete code t (small_set l o) o,
  )

-- a node
module _ (single : ℕ → ℕ) (form : ℕ) (P Q : Process) (a b s : Summary) (h : 3 ≤ form) (l : form ≤ 7) (p : Exact single a P) (q : Exact single b Q) (under : NodeSummary (cell3 form) a b s) where
  abbrev Family : ℕ → ℕ → Type 0
  Family = InFamily3 (numbers single) (node (form_of form) P Q)

  none_listed : Family 0 0
  none_listed =
      let z = empty_set_lem.complete (omega arith) in
      in_node_family three_levels (numbers single) (form_of form) P Q (from_sides ((p 0 0).0 z) ((q 0 0).0 z) (rw (same_number form h l) (cell_none form h l)) (omega arith) refl)

  settled_sound : (code t : ℕ) → code < 15 → (b : Bool) → unsettled code ≡ b → In (family_of s code) t → Family code t
  settled_sound code t small true u on = absurd (none_unsettled s code u t on)
  settled_sound code t small false u on = elim (cases_eq code 0) [
    | inl none ↦ let z = (empty_set_lem.sound t (rw none at on)).0 in rw (none, z) none_listed
    | inr d ↦ let f = (under code (omega arith) small u).sound t on in
        in_node_family three_levels (numbers single) (form_of form) P Q
        (from_sides ((p f.left f.union.x).0 f.union.in_left) ((q f.right f.union.y).0 f.union.in_right) (rw (same_number form h l) f.is_cell) small f.union.is)
  ]

  node_sound : (code t : ℕ) → In (family_of s code) t → Family code t
  node_sound code t on = elim (cases_lt code 15) [
    | inl small ↦ settled_sound code t small (unsettled code) refl on
    | inr large ↦ absurd (beyond s code large t on)
  ]

  code_small : (c : Summary) (R : Process) → Exact single c R → {code t : ℕ} → InFamily3 (numbers single) R code t → code < 15
  code_small c R e {code} {t} m = elim (cases_lt code 15) [ inl small ↦ small | inr large ↦ absurd (beyond c code large t ((e code t).1 m)) ]

  zero_set : (c : Summary) (R : Process) → Exact single c R → {code t : ℕ} → code ≡ 0 → InFamily3 (numbers single) R code t → t ≡ 0
  zero_set c R e {code} {t} z m = (empty_set_lem.sound t (rw z at ((e code t).1 m))).0

  node_complete : (code t : ℕ) → Family code t → In (family_of s code) t
  node_complete code t m = elim (out_node_family three_levels (numbers single) (form_of form) P Q m) [
    | from_sides {l = left} {r = right} {A = A} {B = B} i j e small u ↦
        let cell : cell3 form left right ≡ code = rw (same_number form h l) at e in
        elim (cases_eq code 0) [
          | inl none ↦
              let sum = cell_zero form h l left right (code_small a P p i) (code_small b Q q j) (cell ∙ none) in
              let x = zero_set a P p (omega arith) i in
              let y = zero_set b Q q (omega arith) j in
              rw (none, sym u, x, y) (empty_set_lem.complete (omega arith))
          | inr d ↦ rw (sym u) ((under code (omega arith) small (rw cell at (cell_settled form left right))).complete left right A B cell ((p left A).1 i) ((q right B).1 j))
        ]
  ]

  of_node : Exact single s (node (form_of form) P Q)
  of_node code t = (node_sound code t, node_complete code t)

pub computes : Computes
computes = record { of_leaf = of_leaf; of_node = of_node }
