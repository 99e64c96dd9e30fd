-- The window of a leaf. It is the window of the file that names the leaf's action, and where none does it is the whole week. For a window file
-- that is a window of the week either way, and its test is the statement.
use mathlib.Core.Path.{◌≡◌, refl, sym, ◌∙◌}
use mathlib.Core.Bool.{Bool, true, false, cond}
use mathlib.Core.List.{List}
use mathlib.Core.Logic.{◌↔◌}
use Prim.Native.Nat.{ℕ, zero, suc, ◌+◌, ◌%◌, ◌≤◌, ◌<◌}
use native.Mathlib.Omega.{arith}
use lib.Dec.{ltb, eqb}
use borrow.Author.Count.{below_more}
use borrow.Author.Tests.{ltb-true, ltb-false, eqb-true, eqb-false}
use Rattle.nodes.specs.Nodes.{count, form, left}
use Rattle.hours.specs.Windows.{week, window_count, action, window_at, WindowFile}
use Rattle.hours.specs.Hours.{LeafOf, OpenAt, whole_week, window_from, window_of, leaf_window, inside}
use Rattle.hours.specs.declared.Window.{Window}
use Rattle.hours.proofs.Earliest.{Legal, inside_says}

-- x is a window of the file that P holds of, or there is none and x is the whole week
pub data Found (w : List ℕ) (P : ℕ → Type 0) : Window → Type 0 where
  there : (j : ℕ) → j < window_count w → P j → Found w P (window_at w j)
  nowhere : ((j : ℕ) → j < window_count w → P j → ⊥) → Found w P whole_week

module _ (w : List ℕ) where
  -- the search, none of the windows passed naming the action
  from_found : (a k i : ℕ) → i + k ≡ window_count w → ((j : ℕ) → j < i → action w j ≡ a → ⊥) → Found w (λ j. action w j ≡ a) (window_from k i w a)
  unfolding window_from
  from_found a zero i e passed = nowhere (λ j l. passed j (omega arith))
  from_found a (suc k) i e passed = go (from_found a k (i + 1) (omega arith)) (eqb (action w i) a) refl
    where
      go : (((j : ℕ) → j < i + 1 → action w j ≡ a → ⊥) → Found w (λ j. action w j ≡ a) (window_from k (i + 1) w a))
          → (t : Bool) → eqb (action w i) a ≡ t → Found w (λ j. action w j ≡ a) (cond t (window_at w i) (window_from k (i + 1) w a))
      go rest true h = there i (omega arith) (eqb-true _ _ h)
      go rest false h = rest (below_more _ _ passed (eqb-false _ _ h))

  module _ (nodes : List ℕ) (n : ℕ) where
    -- as a test of the leaf's action
    of_leaf : n < count nodes → form nodes n ≡ 0 → {x : Window} → Found w (λ j. action w j ≡ left nodes n) x → Found w (λ j. LeafOf nodes n (action w j)) x
    of_leaf l f (there j k e) = there j k (record { present = l; plain = f; names = sym e })
    of_leaf l f (nowhere h) = nowhere (λ j k p. h j k (sym p.names))

    pub leaf_found : Found w (λ j. LeafOf nodes n (action w j)) (leaf_window w nodes n)
    unfolding leaf_window
    leaf_found = go (ltb n (count nodes)) (eqb (form nodes n) 0) refl refl
      where
        go : (a b : Bool) → ltb n (count nodes) ≡ a → eqb (form nodes n) 0 ≡ b
            → Found w (λ j. LeafOf nodes n (action w j)) (cond a (cond b (window_of w (left nodes n)) whole_week) whole_week)
        go true true e f = of_leaf (ltb-true _ _ e) (eqb-true _ _ f) (from_found (left nodes n) (window_count w) 0 (omega arith) (λ j l. absurd (omega arith)))
        go true false e f = nowhere (λ j k p. eqb-false _ _ f p.plain)
        go false b e f = nowhere (λ j k p. omega (arith, p.present, ltb-false n (count nodes) e))

    module _ (actions : ℕ) (f : WindowFile actions w) where
      pub leaf_legal : Legal (leaf_window w nodes n)
      leaf_legal = go leaf_found
        where
          go : {x : Window} → Found w (λ j. LeafOf nodes n (action w j)) x → Legal x
          go (there j k p) = record { in_order = f.in_order j k; in_week = f.in_week j k }
          go (nowhere h) = record { in_order = omega arith; in_week = omega arith }

      -- the remainder lies in the leaf's window exactly where it lies in each window of its action
      pub leaf_tells : (m : ℕ) → (inside (leaf_window w nodes n) m ≡ true) ↔ OpenAt w nodes n m
      leaf_tells m = (λ h. to leaf_found ((inside_says _ m).0 h), λ h. (inside_says (leaf_window w nodes n) m).1 (from leaf_found h))
        where
          to : {x : Window} → Found w (λ j. LeafOf nodes n (action w j)) x → (x.opens ≤ m % week) × (m % week < x.closes) → OpenAt w nodes n m
          to (there j k p) h i l q = rw (f.once i j l k (sym q.names ∙ p.names)) h
          to (nowhere none) h i l q = absurd (none i l q)

          from : {x : Window} → Found w (λ j. LeafOf nodes n (action w j)) x → OpenAt w nodes n m → (x.opens ≤ m % week) × (m % week < x.closes)
          from (there j k p) h = h j k p
          from (nowhere none) h = (omega arith, omega arith)
