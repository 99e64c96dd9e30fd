-- What may follow a run names leaves of the plan that the run does not name, each once. So no more entries follow than there are unused
-- leaves: counted leaf by leaf.
use mathlib.Core.Path.{◌≡◌, refl, ap}
use mathlib.Core.Bool.{Bool, true, false, cond}
use mathlib.Core.List.{List, [], ◌∷◌, ◌++◌, append_assoc}
use mathlib.Core.Logic.{◌⊎◌, inl, inr}
use Prim.Native.Nat.{ℕ, ◌+◌, ◌≤◌, ◌<◌}
use native.Mathlib.Omega.{arith}
use lib.Dec.{ltb, eqb}
use lib.ListN.{length}
use borrow.Author.Tests.{ltb-false, eqb-false, eq-eqb, ne_eqb}
use Rattle.blocks.specs.Bounded.{one}
use Rattle.blocks.proofs.Bounded.{decide}
use Rattle.process.specs.Process.{Status, Process, entry, Run}
use Rattle.nodes.specs.Nodes.{count, form}
use Rattle.plan.specs.PlanFile.{Runnable}
use Rattle.plan.specs.Tree.{process_of}
use Rattle.runs.specs.Beginnings.{Begins, occurrences}
use Rattle.runs.proofs.Counts.{sum_append}
use Rattle.job.specs.PromisedEnd.{is_unused, unused_leaves}
use Rattle.job.proofs.Comes.{told_begins, next_leaf}
use Rattle.job.proofs.Room.{Below, counted, total_most}

module _ (types b : List ℕ) (r : Runnable types b) where
  abbrev P : Process
  P = process_of types b

  -- each entry names a leaf of the plan
  abbrev NamesLeaves : Run → Type 0
  NamesLeaves [] = Unit {0}
  NamesLeaves (entry n s ∷ z) = (n < count b) × (form b n < 3) × NamesLeaves z

  names_leaves : (w z : Run) → Begins P (w ++ z) → NamesLeaves z
  names_leaves w [] h = tt
  names_leaves w (entry n s ∷ z) h =
      let longer : Begins P ((w ++ (entry n s ∷ [])) ++ z) = rw append_assoc h in
      let x = next_leaf types b r w n s ((told_begins types b r).cut (w ++ (entry n s ∷ [])) z longer) in
      (x.present, x.plain, names_leaves (w ++ (entry n s ∷ [])) z longer)

  present : (z : Run) → NamesLeaves z → Below (count b) z
  present [] h = tt
  present (entry n s ∷ z) (c, f, h) = (c, present z h)

  no_composite : (i : ℕ) (z : Run) → NamesLeaves z → 3 ≤ form b i → occurrences i z ≡ 0
  no_composite i [] h k = refl
  no_composite i (entry n s ∷ z) (c, f, h) k = rw (ne_eqb i n (λ e. absurd (omega (arith, ap (form b) e)))) (omega (arith, no_composite i z h k))

  module _ (w z : Run) (h : Begins P (w ++ z)) where
    -- a leaf follows once where it is unused, and else not at all
    follows_once : (i : ℕ) → occurrences i z ≤ one (is_unused b w i)
    follows_once i = go (decide (ltb (form b i) 3)) (decide (eqb (occurrences i w) 0))
      where
        together : occurrences i w + occurrences i z ≤ 1
        together = omega (arith, (told_begins types b r).once (w ++ z) h i, sum_append (λ m. cond (eqb i m) 1 0) w z)

        go : (ltb (form b i) 3 ≡ true) ⊎ (ltb (form b i) 3 ≡ false) → (eqb (occurrences i w) 0 ≡ true) ⊎ (eqb (occurrences i w) 0 ≡ false) → occurrences i z ≤ one (is_unused b w i)
        go (inl f) (inl u) = rw (f, u) (omega (arith, together))
        go (inl f) (inr u) = rw (f, u) (omega (arith, together, eqb-false (occurrences i w) 0 u))
        go (inr f) u = rw f (omega (arith, no_composite i z (names_leaves w z h) (ltb-false (form b i) 3 f)))

    pub few_follow : length z ≤ unused_leaves b w
    few_follow =
        omega
        (arith, counted (count b) z (present z (names_leaves w z h)), total_most (count b) (λ i. occurrences i z) (λ i. one (is_unused b w i)) follows_once)

  -- an entry that may follow is of an unused leaf
  pub record Unused (w : Run) (n : ℕ) : Type 0 where
    pub present : n < count b
    pub unused : is_unused b w n ≡ true

  pub next_unused : (w : Run) (n : ℕ) (s : Status) → Begins P (w ++ (entry n s ∷ [])) → Unused w n
  next_unused w n s h = record {
    present = (next_leaf types b r w n s h).present;
    unused = go (is_unused b w n) (rw (eq-eqb n n refl) at (follows_once w (entry n s ∷ []) h n));
  }
    where
      go : (t : Bool) → 1 ≤ one t → t ≡ true
      go true l = refl
      go false l = absurd (omega arith)
