-- The search step by step: where no action is due the fold decides; a leaf that is tried is free, and then one less is.
use mathlib.Core.Path.{◌≡◌, sym, ◌∙◌}
use mathlib.Core.Bool.{true, false, not, cond, ◌&&◌, true≢false}
use mathlib.Core.List.{List, [], ◌∷◌}
use Prim.Native.Nat.{ℕ, zero, suc, ◌+◌, ◌≤◌, ◌<◌}
use native.Mathlib.Omega.{arith}
use borrow.Author.Tests.{eq-eqb, ltb-true, not-true}
use lib.Dec.{eqb, ltb}
use lib.ListN.{length, get_or, set}
use Rattle.blocks.proofs.Bounded.{both_hold}
use Rattle.nodes.specs.Nodes.{count}
use Rattle.plan.specs.Tree.{process_of}
use Rattle.fewest.specs.Costs.{fewest_of}
use Rattle.fewest.specs.Leaving.{outcome_at}
use Rattle.fewest.specs.Search.{wishes, in_set, is_leaf_of, finished, due, candidate, searched}
use Rattle.fewest.proofs.Below.{any_true}

module _ (types b : List ℕ) (S : ℕ) (table : List ℕ) where
  passed_over : (gap n m a d : ℕ) → gap + m ≡ n → gap + a ≡ d → ((i : ℕ) → a ≤ i → i < d → due b S table i ≡ false) → searched types b S n a table ≡ searched types b S m d table
  unfolding searched
  passed_over zero n m a d e g h =
      let y : n ≡ m = omega arith in
      let z : d ≡ a = omega arith in
      rw (y, z)
  passed_over (suc gap) zero m a d e g h = absurd (omega arith)
  passed_over (suc gap) (suc n) m a d e g h = rw (h a (omega arith) (omega arith)) (passed_over gap n m (suc a) d (omega arith) (omega arith) (λ i l k. h i (omega arith) k))

  -- where none is due the fold alone decides
  pub none_due : (actions : ℕ) → ((i : ℕ) → i < actions → due b S table i ≡ false) → searched types b S actions 0 table ≡ fewest_of (wishes b S table) (process_of types b)
  unfolding searched
  none_due actions h = passed_over actions actions 0 0 actions (omega arith) (omega arith) (λ i l u. h i u)

  -- a candidate of an action that is due is free
  pub free_candidate : (a n : ℕ) → n < count b → due b S table a ≡ true → candidate b table a n ≡ true → outcome_at table n ≡ 0
  free_candidate a n h d c =
      let (s, f) = both_hold (in_set S a) (not (finished b table a)) d in
      let (leaf, low) = both_hold (is_leaf_of b a n) (ltb (outcome_at table n) 2) c in
      let small : outcome_at table n < 2 = ltb-true _ 2 low in
      let not_one : outcome_at table n ≡ 1 → ⊥ = λ e. true≢false (sym (any_true (count b) (λ m. is_leaf_of b a m && eqb (outcome_at table m) 1) n h (rw leaf (eq-eqb _ _ e))) ∙ not-true _ f) in
      omega arith

-- how many leaves of a table are free
abbrev pub zeros : List ℕ → ℕ
zeros [] = 0
zeros (x ∷ t) = cond (eqb x 0) 1 0 + zeros t

pub one_less : (t : List ℕ) (n : ℕ) → n < length t → get_or t n 0 ≡ 0 → zeros (set t n 1) < zeros t
one_less [] n h e = absurd (omega arith)
one_less (x ∷ t) zero h e = rw (eq-eqb x 0 e) (omega arith)
one_less (x ∷ t) (suc n) h e = omega (arith, one_less t n (omega arith) e)
