-- A leaf's costs: under each settled code the least failed entries of its levels that meet the wishes, of which it has one at most. Where it ran, the levels above it all
-- succeeded: its undo is nothing.
use mathlib.Core.Path.{◌≡◌, refl, sym, ◌∙◌, ap}
use mathlib.Core.Bool.{Bool, true, false, not, cond, ◌&&◌, true≢false}
use mathlib.Core.List.Memᴰ
use mathlib.Core.List.{List, [], ◌∷◌}
use mathlib.Core.Logic.{◌⊎◌, inl, inr}
use Prim.Native.Nat.{ℕ, ◌<◌}
use native.Mathlib.Omega.{arith}
use lib.Dec.{T, eqb, eqb→eq}
use Rattle.process.specs.Process.{Status, ok, fail, Kind, permits, Permits, Process, done, leaf, entry, Run}
use Rattle.process.specs.Figure2.{f_done, f_leaf}
use Rattle.blocks.proofs.Bounded.{both_hold}
use Rattle.reorder.specs.Entries.{failing, failures}
use Rattle.outcomes.specs.Codes.{Code}
use Rattle.outcomes.proofs.Levels.{Levels, l_none, l_run, whole}
use Rattle.outcomes.proofs.Depth.{no_levels}
use Rattle.outcomes.specs.Joins.{code_of}
use Rattle.outcomes.specs.ThreeLevels.{unsettled}
use Rattle.outcomes.proofs.Table.{below, at_number}
use Rattle.fewest.specs.Wishes.{Wish, wished, Ran, Meets}
use Rattle.fewest.specs.Costs.{unreached, cost_of, given, leaf_costs, costs_of}
use Rattle.fewest.specs.Least.{LeastBelow}
use Rattle.fewest.proofs.Least.{least_as, least_none, least_if}

-- P has the code by runs that meet the wishes, with k failed entries
pub record Can (may : ℕ → Wish) (P : Process) (c : Code) (k : ℕ) : Type 0 where
  pub runs : List Run
  pub by : Levels P c runs
  pub meets : Meets may P (whole runs)
  pub fails : failures (whole runs) ≡ k

-- by the number of a code that is settled
pub record Counted (may : ℕ → Wish) (P : Process) (c k : ℕ) : Type 0 where
  pub settled : not (unsettled c) ≡ true
  pub can : Can may P (code_of 3 c) k

both_and : (a b : Bool) → a ≡ true → b ≡ true → (a && b) ≡ true
both_and a b p q = rw (p, q)

failing_low : (s : Status) → failing s < unreached
failing_low ok = omega arith
failing_low fail = omega arith

-- the codes of what runs nothing and succeeds
abbrev quiet : Code → Bool
quiet [] = true
quiet (ok ∷ c) = quiet c
quiet (fail ∷ c) = false

quiet_levels : (c : Code) → quiet c ≡ true → (us : List Run) × Levels done c us
quiet_levels [] e = ([], l_none)
quiet_levels (ok ∷ c) e = let (us, l) = quiet_levels c e in ([] ∷ us, l_run f_done l)
quiet_levels (fail ∷ c) e = absurd (true≢false (sym e))

levels_quiet : {c : Code} {us : List Run} → Levels done c us → quiet c ≡ true
levels_quiet l_none = refl
levels_quiet (l_run f_done l) = levels_quiet l

-- a leaf's cost by the code; one test computes that the costs stand in the order of the codes
abbrev leaf_by : Bool → Bool → Bool → Code → ℕ
leaf_by absent finishing failing [] = given absent 0
leaf_by absent finishing failing (ok ∷ c) = cond (quiet c) (given finishing 0) unreached
leaf_by absent finishing failing (fail ∷ c) = cond (quiet c) (given failing 1) unreached

abbrev in_order : Bool → Bool → Bool → ℕ → Bool
in_order a f g c = eqb (cost_of (leaf_costs a f g) c) (cond (unsettled c) unreached (leaf_by a f g (code_of 3 c)))

tested : (a f g : Bool) → T (below 15 (in_order a f g))
tested true true true = tt
tested true true false = tt
tested true false true = tt
tested true false false = tt
tested false true true = tt
tested false true false = tt
tested false false true = tt
tested false false false = tt

by_code : (a f g : Bool) (c : ℕ) → c < 15 → cost_of (leaf_costs a f g) c ≡ cond (unsettled c) unreached (leaf_by a f g (code_of 3 c))
by_code a f g c h = eqb→eq _ _ (at_number 15 (in_order a f g) (tested a f g) c h)

silent : {v : Code} {vs : List Run} → Levels done v vs → whole vs ≡ []
silent l = no_levels (omega arith) l

module _ (may : ℕ → Wish) (n : ℕ) (k : Kind) where
  none_ran : Ran n [] ⊎ ((may n).absent ≡ true) → (may n).absent ≡ true
  none_ran (inl (s, m)) = absurd (Memᴰ.not-nil m)
  none_ran (inr e) = e

  -- not run
  none_can : (may n).absent ≡ true → Can may (leaf n k) [] 0
  none_can e = record { runs = []; by = l_none; meets = record { entries = λ m s x. absurd (Memᴰ.not-nil x); others = λ m h. inr (rw h e) }; fails = refl }

  can_none : (j : ℕ) {rs : List Run} → Levels (leaf n k) [] rs → Meets may (leaf n k) (whole rs) → failures (whole rs) ≡ j → ((may n).absent ≡ true) × (j ≡ 0)
  can_none j l_none a e = (none_ran (a.others n refl), sym e)

  -- run, and its undo as far as it ran
  ran_can : (s : Status) {u : Code} {us : List Run} → Levels done u us → Permits k s → wished (may n) s ≡ true → Can may (leaf n k) (s ∷ u) (failing s)
  ran_can s {u} {us} l a w =
      let x : (entry n s ∷ whole us) ≡ entry n s ∷ [] = rw (silent l) in
      record {
        runs = (entry n s ∷ []) ∷ us;
        by = l_run (f_leaf a) l;
        meets = rw x (record { entries = λ m t y. one m t (Memᴰ.eq_of_singleton y); others = λ m h. inl (s, Memᴰ.head (ap (λ x. entry x s) h)) });
        fails = rw (silent l) (omega arith);
      }
    where
      one : (m : ℕ) (t : Status) → entry m t ≡ entry n s → wished (may m) t ≡ true
      one m t e = let i : m ≡ n = cc in let j : t ≡ s = cc in rw (i, j) w

  can_ran : (s : Status) (j : ℕ) {us : List Run} {u : Code} → Levels done u us → Meets may (leaf n k) (entry n s ∷ whole us) → failures (entry n s ∷ whole us) ≡ j → (wished (may n) s ≡ true) × (j ≡ failing s)
  can_ran s j l c e = (c.entries n s (Memᴰ.head refl), let f : failures (entry n s ∷ []) ≡ j = rw (silent l) at e in omega arith)

  leaf_none : LeastBelow unreached (Can may (leaf n k) []) (given (may n).absent 0)
  leaf_none = least_if (may n).absent 0 (omega arith) none_can (λ j a. can_none j a.by a.meets a.fails)

  -- its undo succeeds as far as it runs, or it cannot have the code
  leaf_runs : (s : Status) (u : Code) → LeastBelow unreached (Can may (leaf n k) (s ∷ u)) (cond (quiet u) (given (permits k s && wished (may n) s) (failing s)) unreached)
  leaf_runs s u = go (quiet u) refl
    where
      down : (j : ℕ) {rs : List Run} → Levels (leaf n k) (s ∷ u) rs → Meets may (leaf n k) (whole rs) → failures (whole rs) ≡ j → ((permits k s && wished (may n) s) ≡ true) × (j ≡ failing s)
      down j (l_run (f_leaf a) m) c e = let (w, z) = can_ran s j m c e in (both_and (permits k s) (wished (may n) s) a w, z)

      loud : {rs : List Run} → quiet u ≡ false → Levels (leaf n k) (s ∷ u) rs → ⊥
      loud e (l_run (f_leaf a) l) = true≢false (sym (levels_quiet l) ∙ e)

      go : (b : Bool) → quiet u ≡ b → LeastBelow unreached (Can may (leaf n k) (s ∷ u)) (cond b (given (permits k s && wished (may n) s) (failing s)) unreached)
      go true e = least_if (permits k s && wished (may n) s) (failing s) (failing_low s) (λ x. let (a, w) = both_hold (permits k s) (wished (may n) s) x in ran_can s (quiet_levels u e).1 a w) (λ j a. down j a.by a.meets a.fails)
      go false e = least_none (λ j a. loud e a.by)

  leaf_least : (c : Code) → LeastBelow unreached (Can may (leaf n k) c) (leaf_by (may n).absent (permits k ok && (may n).finishing) (permits k fail && (may n).failing) c)
  leaf_least [] = leaf_none
  leaf_least (ok ∷ u) = leaf_runs ok u
  leaf_least (fail ∷ u) = leaf_runs fail u

  pub leaf_counted : (c : ℕ) → c < 15 → LeastBelow unreached (Counted may (leaf n k) c) (cost_of (costs_of may (leaf n k)) c)
  leaf_counted c h =
      rw (by_code (may n).absent (permits k ok && (may n).finishing) (permits k fail && (may n).failing) c h) (go (unsettled c) refl)
    where
      x : ℕ
      x = leaf_by (may n).absent (permits k ok && (may n).finishing) (permits k fail && (may n).failing) (code_of 3 c)

      go : (b : Bool) → unsettled c ≡ b → LeastBelow unreached (Counted may (leaf n k) c) (cond b unreached x)
      go true e = least_none (λ j a. true≢false (sym a.settled ∙ rw e))
      go false e = least_as (leaf_least (code_of 3 c)) (λ j a. record { settled = rw e; can = a }) (λ j a. a.can)
