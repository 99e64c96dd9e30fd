-- The statement of specs/Greedy. A beginning goes on to such a run wherever one holds its entries, by the theorem of crate reorder: the set and the
-- failed entries do not look at the order. What is chosen entry by entry begins every such run, or comes before it; and as no complete run is a
-- proper beginning of another, what is chosen to its end comes first.
use mathlib.Core.Path.{◌≡◌, refl, sym, ◌∙◌, ap}
use mathlib.Core.List.{[], ◌∷◌, ◌++◌, append-nil, append_assoc}
use mathlib.Core.Logic.{◌⊎◌, inl, inr, ⊎_elim}
use Prim.Native.Nat.{ℕ, ◌+◌}
use native.Mathlib.Omega.{arith}
use lib.Bits.{bit_or, or_comm}
use Rattle.process.specs.Process.{Process, Entry, entry, Run}
use Rattle.process.specs.Leaves.{AsWritten, Distinct}
use Rattle.process.specs.Depth.{undo_depth}
use Rattle.outcomes.specs.Sets.{numbers, added, set_of}
use Rattle.outcomes.proofs.ActionSets.{or_assoc}
use Rattle.runs.specs.Beginnings.{Begins, NoPrefix}
use Rattle.runs.proofs.Beginnings.{beginnings}
use Rattle.reorder.specs.Entries.{SameEntries, failing, failures}
use Rattle.reorder.proofs.Lists.{joined, occurs_left, same_sum}
use Rattle.reorder.proofs.Reorder.{reorders}
use Rattle.plainest.specs.Bytes.{record_bytes, Before}
use Rattle.plainest.specs.Greedy.{Sooner, Good, Held, Leads, Chosen, at_first, and_then, Greedy, GreedyPlainest}
use Rattle.plainest.proofs.Order.{before_asymmetric, not_before_itself, First, first_parts, first_more, first_bytes}

-- the set and the failed entries do not look at the order
same_set : (single : ℕ → ℕ) {q r : Run} → SameEntries q r → set_of (numbers single) q ≡ set_of (numbers single) r
same_set single a = same_sum bit_or (added (numbers single)) (set_of (numbers single)) (λ e r. refl) or_comm or_assoc a

abbrev fails_of : Entry → ℕ
fails_of (entry n s) = failing s

fails_more : (e : Entry) (r : Run) → failures (e ∷ r) ≡ fails_of e + failures r
fails_more (entry n s) r = refl

same_failures : {q r : Run} → SameEntries q r → failures q ≡ failures r
same_failures a = same_sum ◌+◌ fails_of failures fails_more (λ a b. omega arith) (λ a b c. omega arith) a

not_empty : {e : Entry} {z : Run} → ¬ (e ∷ z ≡ [])
not_empty h = let x : ◌≡◌ {A = ℕ} 0 1 = cc in omega arith

-- v begins q, or comes before it
abbrev BeginsOrFirst : Run → Run → Type 0
BeginsOrFirst v q = ((z : Run) × (v ++ z ≡ q)) ⊎ First v q

module _ (P : Process) (single : ℕ → ℕ) (S k : ℕ) where
  abbrev Ok : Run → Type 0
  Ok r = Good P single S k r

  abbrev On : Run → Type 0
  On w = Leads P single S k w

  -- a run that goes on with an entry
  pub leads_entry : (w : Run) (e : Entry) (z : Run) → Ok (w ++ (e ∷ z)) → On (w ++ (e ∷ []))
  leads_entry w e z g = (z, rw (append_assoc w (e ∷ []) z) g)

  leads_held : (w : Run) → On w → Held P single S k w
  leads_held w (z, g) = (w ++ z, g, λ e m. occurs_left (joined w z refl) m)

  module _ (written : AsWritten P) (distinct : Distinct P) where
    held_leads : (w : Run) → Begins P w → Held P single S k w → On w
    held_leads w b (r, g, h) =
        let (z, c, a) = reorders P written distinct w r g.status b g.complete h in
        (z, record { status = g.status; complete = c; leaves = same_set single a ∙ g.leaves; fails = same_failures a ∙ g.fails })

    no_prefix : NoPrefix P
    no_prefix = (beginnings (undo_depth P) P written distinct (omega arith)).no_prefix

    -- such a run goes on from what is chosen, or comes later
    chosen_first : {v : Run} (q : Run) → Chosen P single S k v → Ok q → BeginsOrFirst v q
    chosen_first q at_first g = inl (q, refl)
    chosen_first q (and_then {w = w} {v = u} {e = e} c n i) g =
        rw (← i) (⊎_elim (λ (z, j). from z j) (λ x. inr (first_more (e ∷ []) x)) (chosen_first q c g))
      where
        next : (f : Entry) (z : Run) → w ++ (f ∷ z) ≡ q → (e ≡ f) ⊎ Sooner e f → BeginsOrFirst (w ++ (e ∷ [])) q
        next f z j (inl x) = inl (z, append_assoc w (e ∷ []) z ∙ rw x j)
        next f z j (inr x) = inr (rw j at (first_parts w [] z x))

        over : w ≡ q → On (w ++ (e ∷ [])) → ⊥
        over j (z, l) = not_empty (no_prefix w (e ∷ z) g.status l.status (rw j g.complete) (rw (append_assoc w (e ∷ []) z) at l.complete)).0

        from : (z : Run) → w ++ z ≡ q → BeginsOrFirst (w ++ (e ∷ [])) q
        from [] j = absurd (over (sym (append-nil w) ∙ j) n.leads)
        from (f ∷ z) j = next f z j (n.soonest f (leads_entry w f z (rw j g)))

    chosen_not_after : (w q : Run) → Chosen P single S k w → Ok w → Ok q → ¬ Before (record_bytes q) (record_bytes w)
    chosen_not_after w q c g h b = by (chosen_first q c h)
      where
        by : BeginsOrFirst w q → ⊥
        by (inl (z, j)) =
            let x = (no_prefix w z g.status h.status g.complete (rw j h.complete)).0 in
            let i : q ≡ w = sym j ∙ ap (λ y. w ++ y) x ∙ append-nil w in
            not_before_itself (record_bytes w) (rw i at b)
        by (inr f) = before_asymmetric b (first_bytes _ _ f)

    greedy : Greedy P single S k
    greedy = record {
      by_entries = λ w b. (leads_held w, held_leads w b);
      plainest = λ w c g least. record {
        status = g.status;
        complete = g.complete;
        leaves = g.leaves;
        fewest = λ q t d e. rw g.fails (least q t d e);
        first = λ q t d e f. chosen_not_after w q c g (record { status = t; complete = d; leaves = e; fails = f ∙ g.fails });
      };
    }

pub greedy_plainest : GreedyPlainest
greedy_plainest P single S k written distinct = greedy P single S k written distinct
