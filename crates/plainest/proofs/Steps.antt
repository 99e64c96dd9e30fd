-- One step of the plainest run: the entry that is looked up, of the leaves ascending, is the least with which the entries so far still go on; or none
-- is found, and they do not go on.
use mathlib.Core.Path.{◌≡◌, refl, sym, ◌∙◌, ap}
use mathlib.Core.Bool.{Bool, true, false, cond, true≢false}
use mathlib.Core.List.{List, [], ◌∷◌, ◌++◌}
use mathlib.Core.Logic.{◌⊎◌, inl, inr}
use Prim.Native.Nat.{ℕ, zero, suc, ◌+◌, ◌<◌}
use native.Mathlib.Omega.{arith}
use borrow.Author.Tests.{eqb-true, eq-eqb, ltb-true, ltb-false}
use lib.Dec.{ltb}
use Rattle.std.proofs.Common.{Option, None, Some}
use Rattle.process.specs.Process.{Status, ok, fail, entry, Run}
use Rattle.process.specs.Depth.{most_undos}
use Rattle.process.specs.Process as process
use Rattle.nodes.specs.Nodes.{count}
use Rattle.plan.specs.Tree.{process_of}
use Rattle.runs.specs.Cells.{told_next}
use Rattle.runs.specs.Beginnings.{Begins}
use Rattle.runs.specs.declared.Told.{Told}
use Rattle.state.specs.State.{is_next, told_by}
use Rattle.state.specs.declared.Entry.{Entry}
use Rattle.job.specs.Offer.{status_number}
use Rattle.job.proofs.Outcomes.{Stands, told_of}
use Rattle.job.proofs.Comes.{told_begins, next_leaf}
use Rattle.sets.specs.PlanSets.{leaf_set}
use Rattle.plainest.specs.Greedy.{Sooner, by_leaf, by_outcome, Next}
use Rattle.plainest.specs.Shown.{fits, outcome_for, or_later, entry_from, next_entry}
use Rattle.plainest.proofs.Tables.{leaf_low}
use Rattle.plainest.proofs.Left.{Searched, LeadsOn, leads_begins, leads_fits, fits_leads}

module _ (types b : List ℕ) (S k : ℕ) (known : Searched types b S k) where
  abbrev Goes : Run → ℕ → Status → Type 0
  Goes w n s = LeadsOn types b S k (w ++ (entry n s ∷ []))

  -- what the outcome that is looked up for a leaf says
  data ByLeaf (w : Run) (n : ℕ) (o : Option ℕ) : Type 0 where
    neither : o ≡ None → ((s : Status) → ¬ Goes w n s) → ByLeaf w n o
    finishes : o ≡ Some 1 → Goes w n ok → ByLeaf w n o
    only_fails : o ≡ Some 2 → ¬ Goes w n ok → Goes w n fail → ByLeaf w n o

  -- what the entry that is looked up of the leaves below a bound says
  pub data Step (w : Run) (bound : ℕ) (e : Option Entry) : Type 0 where
    stops : e ≡ None → ((n : ℕ) (s : Status) → n < bound → ¬ Goes w n s) → Step w bound e
    goes : (n : ℕ) (s : Status) → n < bound → e ≡ Some (record { leaf = n; outcome = status_number s }) → Next (process_of types b) (leaf_set b) S k w (entry n s)
        → Step w bound e

  first_goes : (w : Run) (n : ℕ) (s : Status) → ((i : ℕ) (t : Status) → i < n → ¬ Goes w i t) → Goes w n s
      → ((t : Status) → Goes w n t → (entry n s ≡ entry n t) ⊎ Sooner (entry n s) (entry n t)) → Next (process_of types b) (leaf_set b) S k w (entry n s)
  first_goes w n s none g here = record { leads = g; soonest = soonest }
    where
      by : (i : ℕ) (t : Status) → Goes w i t → (x : Bool) → ltb i n ≡ x → (y : Bool) → ltb n i ≡ y → (entry n s ≡ entry i t) ⊎ Sooner (entry n s) (entry i t)
      by i t h true e y f = absurd (none i t (ltb-true i n e) h)
      by i t h false e true f = inr (by_leaf (ltb-true n i f))
      by i t h false e false f = let z : i ≡ n = omega (arith, ltb-false i n e, ltb-false n i f) in rw z (here t (rw z at h))

      soonest : (f : process.Entry) → LeadsOn types b S k (w ++ (f ∷ [])) → (entry n s ≡ f) ⊎ Sooner (entry n s) f
      soonest (entry i t) h = by i t h (ltb i n) refl (ltb n i) refl

  pub leads_low : (w : Run) (n : ℕ) (s : Status) → Goes w n s → n < count b
  leads_low w n s g = (next_leaf types b known.plan w n s (leads_begins types b S k (w ++ (entry n s ∷ [])) g)).present

  module _ (w : Run) (table : List ℕ) (stands : Stands w table) (begun : Begins (process_of types b) w) where
    abbrev next : ℕ
    next = (told_by b table).next

    abbrev fit : ℕ → ℕ → Bool
    fit n o = fits types b S k table n o

    next_is : next ≡ told_next most_undos (process_of types b) w
    next_is = ap (λ (t : Told). t.next) (told_of types b known.plan w table stands)

    goes_next : (n : ℕ) (s : Status) → Goes w n s → is_next next n ≡ true
    goes_next n s g = rw next_is (eq-eqb _ _ (((told_begins types b known.plan).next w begun n s).0 (leads_begins types b S k (w ++ (entry n s ∷ [])) g)).0)

    goes_fits : (n : ℕ) (s : Status) → Goes w n s → fit n (status_number s) ≡ true
    goes_fits n s g = eq-eqb _ _ (leads_fits types b S k known w table stands n s (leaf_low types b known.plan n (leads_low w n s g)) g)

    fits_goes : (n : ℕ) (s : Status) → is_next next n ≡ true → fit n (status_number s) ≡ true → Goes w n s
    fits_goes n s h f = fits_leads types b S k known w table stands n s begun (eqb-true _ _ (rw next_is at h)) (eqb-true _ _ f)

    leaf_outcome : (n : ℕ) → ByLeaf w n (outcome_for types b S k table next n)
    leaf_outcome n = by (is_next next n) (fit n 1) (fit n 2) refl refl refl
      where
        unfit : fit n 1 ≡ false → fit n 2 ≡ false → (s : Status) → ¬ Goes w n s
        unfit f h ok g = true≢false (sym (goes_fits n ok g) ∙ f)
        unfit f h fail g = true≢false (sym (goes_fits n fail g) ∙ h)

        by : (x y z : Bool) → is_next next n ≡ x → fit n 1 ≡ y → fit n 2 ≡ z → ByLeaf w n (cond x (cond y (Some 1) (cond z (Some 2) None)) None)
        by false y z e f h = neither refl (λ s g. true≢false (sym (goes_next n s g) ∙ e))
        by true true z e f h = finishes refl (fits_goes n ok e f)
        by true false true e f h = only_fails refl (λ g. true≢false (sym (goes_fits n ok g) ∙ f)) (fits_goes n fail e h)
        by true false false e f h = neither refl (unfit f h)

    looked_up : (bound m n : ℕ) → n + m ≡ bound → ((i : ℕ) (t : Status) → i < n → ¬ Goes w i t) → Step w bound (entry_from types b S k table next n m)
    unfolding entry_from
    looked_up bound zero n e none = stops refl (λ i t h. none i t (omega arith))
    looked_up bound (suc m) n e none = by (outcome_for types b S k table next n) (leaf_outcome n) (looked_up bound m (suc n) (omega arith))
      where
        below : ((t : Status) → ¬ Goes w n t) → (i : ℕ) (t : Status) → i < suc n → ¬ Goes w i t
        below f i t h g = go (ltb i n) refl
          where
            go : (x : Bool) → ltb i n ≡ x → ⊥
            go true e = none i t (ltb-true i n e) g
            go false e = let z : i ≡ n = omega (arith, ltb-false i n e) in f t (rw z at g)

        after_ok : (t : Status) → Goes w n t → (entry n ok ≡ entry n t) ⊎ Sooner (entry n ok) (entry n t)
        after_ok ok g = inl refl
        after_ok fail g = inr (by_outcome refl)

        after_fail : ¬ Goes w n ok → (t : Status) → Goes w n t → (entry n fail ≡ entry n t) ⊎ Sooner (entry n fail) (entry n t)
        after_fail f ok g = absurd (f g)
        after_fail f fail g = inl refl

        by : (o : Option ℕ) → ByLeaf w n o → (((i : ℕ) (t : Status) → i < suc n → ¬ Goes w i t) → Step w bound (entry_from types b S k table next (suc n) m))
            → Step w bound (or_later types b S k n o (entry_from types b S k table next (suc n) m))
        by o (neither z f) rest = rw z (rest (below f))
        by o (finishes z g) rest = rw z (goes n ok (omega arith) refl (first_goes w n ok none g after_ok))
        by o (only_fails z f g) rest = rw z (goes n fail (omega arith) refl (first_goes w n fail none g (after_fail f)))

    pub next_step : Step w (count b) (next_entry types b S k table)
    next_step = looked_up (count b) (count b) 0 (omega arith) (λ i t h. absurd (omega arith))
