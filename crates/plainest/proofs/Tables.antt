-- A table that stands for a beginning has exactly the outcomes of its entries, as no leaf occurs twice: a run has the outcomes of the table exactly
-- where it holds the entries. The entries of complete runs are of the plan's leaves, each of which permits what it did; they are at most 63.
use mathlib.Core.Path.{◌≡◌, refl, sym, ◌∙◌, ap}
use mathlib.Core.Bool.{Bool, true, false, cond}
use mathlib.Core.List.Memᴰ
use mathlib.Core.List.{List, [], ◌∷◌, ◌++◌, append_assoc, append-nil}
use mathlib.Core.Logic.{◌⊎◌, inl, inr}
use Prim.Native.Nat.{ℕ, ◌+◌, ◌≤◌, ◌<◌}
use native.Mathlib.Omega.{arith}
use borrow.Author.Tests.{eqb-true, eqb-false, eq-eqb, ne_eqb}
use lib.Dec.{eqb}
use lib.ListN.{length}
use Rattle.process.specs.Process.{Status, ok, fail, Process, Entry, entry, Run}
use Rattle.process.specs.Figure2.{Complete}
use Rattle.nodes.specs.Nodes.{count, form}
use Rattle.plan.specs.PlanFile.{Runnable}
use Rattle.plan.specs.Tree.{process_of}
use Rattle.runs.specs.Cells.{Outcomes, ended_of, ending, none_run, set_outcome, outcomes_after}
use Rattle.runs.specs.Beginnings.{Begins, occurrences}
use Rattle.runs.specs.declared.Ended.TheVariants.{Open, Succeeded, Failed}
use Rattle.runs.proofs.Endings.{ending_one, not_open, not_failed}
use Rattle.job.proofs.Outcomes.{Stands}
use Rattle.job.proofs.Comes.{told_begins, OfLeaf, next_leaf}
use Rattle.job.proofs.Room.{Below, once_few}
use Rattle.reorder.specs.Entries.{Occurs, AllIn}
use Rattle.reorder.proofs.Lists.{joined, occurs_left}
use Rattle.fewest.specs.Leaving.{outcome_at, Has}

-- what the outcomes after a run say of its entries
module _ (n : ℕ) (s : Status) where
  after_occurs : (table : Outcomes) (w : Run) → outcomes_after table w n ≡ ending s → Occurs (entry n s) w ⊎ (table n ≡ ending s)
  after_occurs table [] e = inr e
  after_occurs table (entry m t ∷ w) e = by (eqb m n) refl (after_occurs (set_outcome table m t) w e)
    where
      by : (b : Bool) → eqb m n ≡ b → Occurs (entry n s) w ⊎ (cond (eqb m n) (ending t) (table n) ≡ ending s)
          → Occurs (entry n s) (entry m t ∷ w) ⊎ (table n ≡ ending s)
      by b i (inl o) = inl (Memᴰ.tail o)
      by true i (inr x) =
          let z : entry n s ≡ entry m t = rw (eqb-true m n i, ending_one t s (rw i at x)) in
          inl (Memᴰ.head z)
      by false i (inr x) = inr (rw i at x)

absent_after : (n : ℕ) (table : Outcomes) (w : Run) → occurrences n w ≡ 0 → outcomes_after table w n ≡ table n
absent_after n table [] h = refl
absent_after n table (entry m t ∷ w) h = by (eqb n m) refl h (λ x. absent_after n (set_outcome table m t) w x)
  where
    by : (b : Bool) → eqb n m ≡ b → cond b 1 0 + occurrences n w ≡ 0
        → (occurrences n w ≡ 0 → outcomes_after (set_outcome table m t) w n ≡ cond (eqb m n) (ending t) (table n))
        → outcomes_after (set_outcome table m t) w n ≡ table n
    by true i x f = absurd (omega arith)
    by false i x f = f (omega arith) ∙ rw (ne_eqb m n (λ z. eqb-false n m i (sym z)))

occurs_after : (n : ℕ) (s : Status) (table : Outcomes) (w : Run) → occurrences n w ≤ 1 → Occurs (entry n s) w → outcomes_after table w n ≡ ending s
occurs_after n s table [] h o = absurd (Memᴰ.not-nil o)
occurs_after n s table (entry m t ∷ w) h (Memᴰ.head e) =
    let i : n ≡ m = cc in
    let j : s ≡ t = cc in
    rw (← i, ← j) (absent_after n (set_outcome table n s) w (omega (arith, rw (← i, eq-eqb n n refl) at h)) ∙ rw (eq-eqb n n refl))
occurs_after n s table (entry m t ∷ w) h (Memᴰ.tail o) = occurs_after n s (set_outcome table m t) w (omega arith) o

-- a table's numbers as outcomes
finished_number : (x : ℕ) → ended_of x ≡ Succeeded → x ≡ 1
finished_number x h = by (eqb x 0) (eqb x 1) refl h
  where
    by : (a b : Bool) → eqb x 1 ≡ b → cond a Open (cond b Succeeded Failed) ≡ Succeeded → x ≡ 1
    by true b e h = not_open ok refl h
    by false true e h = eqb-true x 1 e
    by false false e h = not_failed h refl

failed_number : (x : ℕ) → (x ≡ 0 → ⊥) → (x ≡ 1 → ⊥) → ended_of x ≡ Failed
failed_number x h k = rw (ne_eqb x 0 h, ne_eqb x 1 k)

-- a run that has a table's outcomes has each of them as an entry
pub has_entry : (b table : List ℕ) (r : Run) (n : ℕ) (s : Status) → n < count b → form b n < 3 → ended_of (outcome_at table n) ≡ ending s → Has b table r
    → Occurs (entry n s) r
has_entry b table r n ok l f e h = h.finished n l f (finished_number (outcome_at table n) e)
has_entry b table r n fail l f e h = h.failed n l f (λ z. not_open fail (ap ended_of z) e) (λ z. not_failed (ap ended_of z) e)

module _ (w : Run) (table : List ℕ) (stands : Stands w table) where
  -- the outcomes of the table are those after the entries: each is one of them
  pub outcome_is : (n : ℕ) → ended_of (outcome_at table n) ≡ outcomes_after none_run w n
  outcome_is n = ap (λ (f : Outcomes). f n) stands.same

  in_entries : (n : ℕ) (s : Status) → ended_of (outcome_at table n) ≡ ending s → Occurs (entry n s) w
  in_entries n s e = by (after_occurs n s none_run w (sym (outcome_is n) ∙ e))
    where
      by : Occurs (entry n s) w ⊎ (Open ≡ ending s) → Occurs (entry n s) w
      by (inl o) = o
      by (inr x) = not_open s refl x

  pub entries_has : (b : List ℕ) (r : Run) → AllIn w r → Has b table r
  entries_has b r h = record {
    finished = λ n c f e. h (entry n ok) (in_entries n ok (ap ended_of e));
    failed = λ n c f x y. h (entry n fail) (in_entries n fail (failed_number (outcome_at table n) x y));
  }

module _ (types b : List ℕ) (plan : Runnable types b) where
  abbrev P : Process
  P = process_of types b

  occurs_begins : (x q : Run) (t : Status) (e : Entry) → Complete P (x ++ q) t → Occurs e q → (y : Run) × Begins P (y ++ (e ∷ []))
  occurs_begins x [] t e c o = absurd (Memᴰ.not-nil o)
  occurs_begins x (d ∷ q) t e c (Memᴰ.head i) = (x, (q, t, rw (append_assoc x (e ∷ []) q, i) c))
  occurs_begins x (d ∷ q) t e c (Memᴰ.tail o) = occurs_begins (x ++ (d ∷ [])) q t e (rw (append_assoc x (d ∷ []) q) c) o

  -- each entry of a complete run is of a leaf that permits it
  pub complete_of_leaf : (q : Run) (t : Status) (n : ℕ) (s : Status) → Complete P q t → Occurs (entry n s) q → OfLeaf types b plan n s
  complete_of_leaf q t n s c o = let (y, z) = occurs_begins [] q t (entry n s) c o in next_leaf types b plan y n s z

  all_below : (q : Run) → ((n : ℕ) (s : Status) → Occurs (entry n s) q → n < 63) → Below 63 q
  all_below [] h = tt
  all_below (entry n s ∷ q) h = (h n s (Memᴰ.head refl), all_below q (λ m t o. h m t (Memᴰ.tail o)))

  pub leaf_low : (n : ℕ) → n < count b → n < 63
  leaf_low n h = omega (arith, plan.nodes_few)

  pub complete_short : (q : Run) (t : Status) → Complete P q t → length q ≤ 63
  complete_short q t c =
      once_few 63 q (all_below q (λ n s o. leaf_low n (complete_of_leaf q t n s c o).present))
      ((told_begins types b plan).once q ([], t, rw append-nil c))

  pub has_entries : (w : Run) (table : List ℕ) → Stands w table → Begins P w → (r : Run) → Has b table r → AllIn w r
  has_entries w table stands begun r h (entry n s) o =
      let l = complete_of_leaf (w ++ begun.0) begun.1 n s begun.2 (occurs_left (joined w begun.0 refl) o) in
      let e = outcome_is w table stands n ∙ occurs_after n s none_run w ((told_begins types b plan).once w begun n) o in
      has_entry b table r n s l.present l.plain e h
