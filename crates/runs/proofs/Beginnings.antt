-- The theorem of specs/Beginnings: the tree that a beginning reaches is the process with the outcomes that the run has set, the cells
-- show that tree, and its steps and ends are those of the runs.
use mathlib.Core.Path.{◌≡◌, refl, sym, ◌∙◌, ap₂}
use mathlib.Core.List.{[], ◌∷◌, ◌++◌, append_assoc, append-nil}
use mathlib.Core.Logic.{◌⊎◌, inl, inr, ◌↔◌}
use Prim.Native.Nat.{ℕ}
use mathlib.Core.Bool.{Bool, true, false}
use lib.Dec.{eqb}
use borrow.Author.Tests.{eqb-true, eqb-false}
use Rattle.process.specs.Process.{Status, ok, Process, done, leaf, node, entry, Run}
use Rattle.process.specs.Figure2.{Complete}
use Rattle.runs.specs.Cells.{ending, Outcomes, none_run, set_outcome, outcomes_after, Holds, cells_of, told_ended, told_next}
use Rattle.runs.specs.Beginnings.{Begins, NoPrefix, Beginnings, BeginningsTold}
use Rattle.runs.proofs.Marked.{Marked, m_node, fresh, unmarked, WholeEnds, mark, whole, Steps, still, first, r_going}
use Rattle.runs.proofs.Undo.{Within, step_permits, permits_leaf, step_marks}
use Rattle.runs.proofs.Reached.{reach_fresh}
use Rattle.runs.proofs.Whole.{join, split, reach_steps, WholeRuns}
use Rattle.runs.proofs.Forms.{permitted, all_runs}
use Rattle.runs.proofs.Counts.{complete_length, complete_once}
use Rattle.runs.proofs.Endings.{ending_one}
use Rattle.runs.proofs.Leaves.{holds_none}
use Rattle.runs.proofs.Over.{over}
use Rattle.runs.proofs.Shown.{marked_by, unmarked_by, Fits, Goes, ShowsAll, shows, next_iff, ended_iff}
use Rattle.process.specs.Leaves.{AsWritten, HasLeaf, LeafPermits, Distinct}

fresh_is : (P : Process) → fresh P ≡ marked_by none_run P
fresh_is done = refl
fresh_is (leaf n k) = refl
fresh_is (node f P Q) = ap₂ (m_node f) (fresh_is P) (fresh_is Q)

mark_is : (table : Outcomes) (n : ℕ) (s : Status) (P : Process) → mark n s (marked_by table P) ≡ marked_by (set_outcome table n s) P
mark_is table n s done = refl
mark_is table n s (leaf m k) = refl
mark_is table n s (node f P Q) = ap₂ (m_node f) (mark_is table n s P) (mark_is table n s Q)

-- Leaves are distinct: where the leaf n permits s, so does each leaf n.
module _ (n : ℕ) (s : Status) where
  fits_other : (P : Process) → ¬ HasLeaf n P → Fits n s P
  fits_other done h = tt
  fits_other (leaf m k) h = λ e. absurd (h e)
  fits_other (node f P Q) h = (fits_other P (λ x. h (inl x)), fits_other Q (λ x. h (inr x)))

  fits : (P : Process) → Distinct P → LeafPermits n s P → Fits n s P
  fits done d h = tt
  fits (leaf m k) d h = λ e. h.1
  fits (node f P Q) d (inl h) = (fits P d.0 h, fits_other Q (d.2 n (permits_leaf n s P h)))
  fits (node f P Q) d (inr h) = (fits_other P (λ x. d.2 n x (permits_leaf n s Q h)), fits Q d.1 h)

a_leaf : (P : Process) → AsWritten P → (n : ℕ) × (s : Status) × LeafPermits n s P
a_leaf done w = absurd w
a_leaf (leaf n k) w = let (s, h) = permitted k in (n, s, (refl, h))
a_leaf (node f P Q) w = let (n, s, h) = a_leaf P w.0 in (n, s, inl h)

-- node n is a leaf that permits some status, or no leaf at all
leaf_or_none : (n : ℕ) (P : Process) → ((s : Status) × LeafPermits n s P) ⊎ Fits n ok P
leaf_or_none n done = inr tt
leaf_or_none n (leaf m k) = go (eqb n m) refl
  where
    go : (t : Bool) → eqb n m ≡ t → ((s : Status) × LeafPermits n s (leaf m k)) ⊎ Fits n ok (leaf m k)
    go true e = let (s, h) = permitted k in inl (s, (eqb-true n m e, h))
    go false e = inr (λ z. absurd (eqb-false n m e z))
leaf_or_none n (node f P Q) = go (leaf_or_none n P) (leaf_or_none n Q)
  where
    go : ((s : Status) × LeafPermits n s P) ⊎ Fits n ok P → ((s : Status) × LeafPermits n s Q) ⊎ Fits n ok Q → ((s : Status) × LeafPermits n s (node f P Q)) ⊎ Fits n ok (node f P Q)
    go (inl (s, h)) y = inl (s, inl h)
    go (inr x) (inl (s, h)) = inl (s, inr h)
    go (inr x) (inr y) = inr (x, y)

module _ (k : ℕ) (P : Process) (g : Within k P) where
  R : WholeRuns P
  R = all_runs k P g

  abbrev after : Run → Outcomes
  after w = outcomes_after none_run w

  marked_within : (table : Outcomes) → Within k (unmarked (marked_by table P))
  marked_within table = rw (unmarked_by table P) g

  steps_after : {w : Run} {X T : Marked} (table : Outcomes) → X ≡ marked_by table P → Steps whole X w T → T ≡ marked_by (outcomes_after table w) P
  steps_after table e still = e
  steps_after table e (first {e = entry n s} r t) = steps_after (set_outcome table n s) (step_marks n s (rw e at r) (marked_within table).distinct ∙ mark_is table n s P) t

  reached : (w : Run) → Begins P w → Steps whole (fresh P) w (marked_by (after w) P)
  reached w (z, s, c) =
      let (T, t, x) = R.to c in
      let (B, y, y') = split w t in
      rw (steps_after none_run (fresh_is P) y) at y

  begins : (w : Run) {T : Marked} → Steps whole (fresh P) w T → Begins P w
  begins w t =
      let (z, T', s, t', x) = R.go (reach_steps t (r_going (reach_fresh P))) in
      (z, s, R.from (reach_steps (join t t') (r_going (reach_fresh P))) x)

  shown : (n : ℕ) (s : Status) (w : Run) → LeafPermits n s P → ShowsAll n s (cells_of k (after w) P) (marked_by (after w) P)
  shown n s w p = shows n s k (after w) P g (fits n s P g.distinct p)

  module _ (w : Run) (b : Begins P w) where
    abbrev T : Marked
    T = marked_by (after w) P

    nexts : (n : ℕ) (s : Status) → Begins P (w ++ (entry n s ∷ [])) ↔ (Holds (told_next k P w) n × LeafPermits n s P)
    nexts n s = (to, from)
      where
        tells : LeafPermits n s P → Holds (told_next k P w) n ↔ Goes n s whole T
        tells p = next_iff n s k T (cells_of k (after w) P) (shown n s w p) (marked_within (after w))

        one : {X Y : Marked} → Steps whole X (entry n s ∷ []) Y → X ≡ T → Holds (told_next k P w) n × LeafPermits n s P
        one (first r t) e =
            let r' = rw e at r in
            let p : LeafPermits n s P = rw (unmarked_by (after w) P) at (step_permits n s r') in
            ((tells p).1 (_, r'), p)

        to : Begins P (w ++ (entry n s ∷ [])) → Holds (told_next k P w) n × LeafPermits n s P
        to c = let (B, x, y) = split w (reached (w ++ (entry n s ∷ [])) c) in one y (steps_after none_run (fresh_is P) x)

        from : Holds (told_next k P w) n × LeafPermits n s P → Begins P (w ++ (entry n s ∷ []))
        from h = begins (w ++ (entry n s ∷ [])) (join (reached w b) (first ((tells h.1).0 h.0).1 still))

    told_leaves : (n : ℕ) → Holds (told_next k P w) n → (s : Status) × LeafPermits n s P
    told_leaves n h = go (leaf_or_none n P)
      where
        go : ((s : Status) × LeafPermits n s P) ⊎ Fits n ok P → (s : Status) × LeafPermits n s P
        go (inl p) = p
        go (inr f) =
            let (X, r) = (next_iff n ok k T (cells_of k (after w) P) (shows n ok k (after w) P g f) (marked_within (after w))).0 h in
            (ok, rw (unmarked_by (after w) P) at (step_permits n ok r))

    ends_told : (s : Status) → (told_ended k P w ≡ ending s) ↔ Complete P w s
    ends_told s = (λ h. R.from (reach_steps (reached w b) (r_going (reach_fresh P))) (tells.0 h), λ c. let (X, t, x) = R.to c in tells.1 (rw (steps_after none_run (fresh_is P) t) at x))
      where
        tells : (told_ended k P w ≡ ending s) ↔ WholeEnds T s
        tells = let (n, t, p) = a_leaf P g.written in ended_iff n t k T (cells_of k (after w) P) (shown n t w p) (marked_within (after w)) s

  goes : (w : Run) → Begins P w → ((s : Status) × (told_ended k P w ≡ ending s)) ⊎ ((n : ℕ) × Holds (told_next k P w) n)
  goes w ([], s, c) = inl (s, (ends_told w ([], s, c) s).1 (rw append-nil at c))
  goes w (entry n t ∷ z, s, c) = inr (n, ((nexts w (entry n t ∷ z, s, c) n t).0 (z, s, rw append_assoc c)).0)

  ended : (w : Run) (s : Status) → told_ended k P w ≡ ending s → told_next k P w ≡ 0
  ended w s h = over k (after w) P g.written s h

  alone : NoPrefix P
  alone w [] s t c d =
      let b : Begins P w = ([], t, d) in
      (refl, ending_one s t (sym ((ends_told w b s).1 c) ∙ (ends_told w b t).1 (rw append-nil at d)))
  alone w (entry n u ∷ z) s t c d =
      let b : Begins P w = (entry n u ∷ z, t, d) in
      let h = ((nexts w b n u).0 (z, t, rw append_assoc d)).0 in
      absurd (holds_none n (rw (ended w s ((ends_told w b s).1 c)) at h))

  pub told : Beginnings k P
  told = record {
    start = begins [] still;
    cut = λ w z b. (z ++ b.0, b.1, rw append_assoc at b.2);
    next = λ w b n s. nexts w b n s;
    told_leaf = λ w b n h. told_leaves w b n h;
    ends = λ w b s. ends_told w b s;
    reaches = λ w b. (b.0, b.1, b.2, complete_length w b.0 b.2);
    goes_on = λ w b. goes w b;
    over = ended;
    no_prefix = alone;
    once = λ w b n. complete_once n w b.0 g.distinct b.2;
  }

pub beginnings : BeginningsTold
beginnings depth P w d h = told depth P (record { written = w; distinct = d; depth = h })
