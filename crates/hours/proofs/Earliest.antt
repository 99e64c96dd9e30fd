-- The least minute of a window from a given one on. For a window that opens before it closes, both within the week, it is not before the given
-- minute, lies inside, and no minute from the given one on that lies inside is less: by the whole weeks of a minute and its remainder.
use mathlib.Core.Path.{◌≡◌, refl}
use mathlib.Core.Bool.{Bool, true, false, cond}
use mathlib.Core.Logic.{◌↔◌}
use Prim.Native.Nat.{ℕ, ◌+◌, ◌-◌, ◌%◌, ◌≤◌, ◌<◌}
use native.Mathlib.Omega.{arith}
use lib.Dec.{ltb}
use borrow.Author.Tests.{leb-true, le-leb, ltb-true, ltb-false, lt-ltb}
use Rattle.blocks.proofs.Bounded.{both_true}
use Rattle.hours.specs.Windows.{week}
use Rattle.hours.specs.Hours.{inside, earliest}
use Rattle.hours.specs.declared.Window.{Window}

-- a window of the week
pub record Legal (x : Window) : Type 0 where
  pub in_order : x.opens < x.closes
  pub in_week : x.closes ≤ week

pub inside_says : (x : Window) (m : ℕ) → (inside x m ≡ true) ↔ ((x.opens ≤ m % week) × (m % week < x.closes))
inside_says x m = (to, λ h. simp (le-leb _ _ h.0, lt-ltb _ _ h.1))
  where
    to : inside x m ≡ true → (x.opens ≤ m % week) × (m % week < x.closes)
    to h = let (from, before) = both_true _ _ h in (leb-true _ _ from, ltb-true _ _ before)

-- the three cases of `earliest`: before the window of this week, inside it, and after it
pub data Case (x : Window) (t : ℕ) : ℕ → Type 0 where
  this_week : t % week < x.opens → Case x t (t - t % week + x.opens)
  at_once : x.opens ≤ t % week → t % week < x.closes → Case x t t
  next_week : x.opens ≤ t % week → x.closes ≤ t % week → Case x t (t - t % week + week + x.opens)

pub case : (x : Window) (t : ℕ) → Case x t (earliest x t)
case x t = go (ltb (t % week) x.opens) (ltb (t % week) x.closes) refl refl
  where
    go : (a b : Bool) → ltb (t % week) x.opens ≡ a → ltb (t % week) x.closes ≡ b → Case x t (cond a (t - t % week + x.opens) (cond b t (t - t % week + week + x.opens)))
    go true b e f = this_week (ltb-true _ _ e)
    go false true e f = at_once (ltb-false _ _ e) (ltb-true _ _ f)
    go false false e f = next_week (ltb-false _ _ e) (ltb-false _ _ f)

pub earliest_most : (x : Window) (t : ℕ) → earliest x t ≤ t + week + x.opens
earliest_most x t = go (case x t)
  where
    go : {u : ℕ} → Case x t u → u ≤ t + week + x.opens
    go (this_week a) = omega arith
    go (at_once a b) = omega arith
    go (next_week a b) = omega arith

module _ (x : Window) (legal : Legal x) (t : ℕ) where
  pub earliest_after : t ≤ earliest x t
  earliest_after = go (case x t)
    where
      go : {u : ℕ} → Case x t u → t ≤ u
      go (this_week a) = omega arith
      go (at_once a b) = omega arith
      go (next_week a b) = omega arith

  pub earliest_inside : inside x (earliest x t) ≡ true
  earliest_inside = (inside_says x (earliest x t)).1 (go (case x t))
    where
      go : {u : ℕ} → Case x t u → (x.opens ≤ u % week) × (u % week < x.closes)
      go (this_week a) = (omega arith, omega arith)
      go (at_once a b) = (a, b)
      go (next_week a b) = (omega arith, omega arith)

  pub earliest_least : (m : ℕ) → t ≤ m → inside x m ≡ true → earliest x t ≤ m
  earliest_least m l h = go (case x t) ((inside_says x m).0 h)
    where
      go : {u : ℕ} → Case x t u → (x.opens ≤ m % week) × (m % week < x.closes) → u ≤ m
      go (this_week a) (from, before) = omega arith
      go (at_once a b) (from, before) = l
      go (next_week a b) (from, before) = omega arith
