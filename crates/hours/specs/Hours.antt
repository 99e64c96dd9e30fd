-- N9 of document 02: "Each entry to a timed job carries a 32-bit minute; its remainder by 10,080 must lie in the window of that leaf's action.
-- Skips and throws have no window, nor does an action left out; these may come at any minute."
use Rattle.std.specs.Prelude.{Bool, true, false, cond, Result, Ok, Err, List, ◌↔◌, ◌≡◌, ℕ, zero, suc, ◌+◌, ◌-◌, ◌%◌, ◌≤◌, ◌<◌, ltb, leb, eqb}
use Rattle.nodes.specs.Nodes.{count, form, left}
use Rattle.hours.specs.Windows.{week, window_count, action, opens, closes, window_at, WindowFile}
use Rattle.hours.specs.Fault.{number_or_0}
use Rattle.hours.specs.declared.Fault.{Fault}
use Rattle.hours.specs.declared.Fault.TheVariants.{Early, Outside}
use Rattle.hours.specs.declared.Window.{Window}

-- node n is a leaf of the action a
pub record LeafOf (nodes : List ℕ) (n a : ℕ) : Type 0 where
  pub present : n < count nodes
  pub plain : form nodes n ≡ 0
  pub names : left nodes n ≡ a

-- An entry of leaf n may come at minute m: the remainder lies in each window of the leaf's action, of which there is at most one.
abbrev pub OpenAt : List ℕ → List ℕ → ℕ → ℕ → Type 0
OpenAt w nodes n m = (i : ℕ) → i < window_count w → LeafOf nodes n (action w i) → (opens w i ≤ m % week) × (m % week < closes w i)

-- The same as a test. What may come at any minute has the whole week for its window.
abbrev pub whole_week : Window
whole_week = record { opens = 0; closes = week }

-- the window of the action a among the next k from the i-th on
unfoldable pub window_from : ℕ → ℕ → List ℕ → ℕ → Window
window_from zero i w a = whole_week
window_from (suc k) i w a = cond (eqb (action w i) a) (window_at w i) (window_from k (i + 1) w a)

abbrev pub window_of : List ℕ → ℕ → Window
window_of w a = window_from (window_count w) 0 w a

unfoldable pub leaf_window : List ℕ → List ℕ → ℕ → Window
leaf_window w nodes n = cond (ltb n (count nodes)) (cond (eqb (form nodes n) 0) (window_of w (left nodes n)) whole_week) whole_week

abbrev pub inside : Window → ℕ → Bool
inside x m = cond (leb x.opens (m % week)) (ltb (m % week) x.closes) false

-- "Checks: after 11, 21 for an earlier minute, then 22 for outside the window": an entry of leaf n at minute m, after one at minute `last`
abbrev pub entry_checked : List ℕ → List ℕ → ℕ → ℕ → ℕ → Result Unit Fault
entry_checked w nodes n last m = cond (ltb m last) (Err Early) (cond (inside (leaf_window w nodes n) m) (Ok tt) (Err Outside))

-- the number of the refusal; 0 where there is none
abbrev pub entry_fault : List ℕ → List ℕ → ℕ → ℕ → ℕ → ℕ
entry_fault w nodes n last m = number_or_0 (entry_checked w nodes n last m)

-- the least minute from t on that lies in the window
abbrev pub earliest : Window → ℕ → ℕ
earliest x t =
    cond (ltb (t % week) x.opens) (t - t % week + x.opens)
    (cond (ltb (t % week) x.closes) t (t - t % week + week + x.opens))

-- that the test is the statement, and that `earliest` is what it says
pub record KeepsWindows : Type 0 where
  pub tells : (actions : ℕ) (w nodes : List ℕ) (n m : ℕ) → WindowFile actions w → (inside (leaf_window w nodes n) m ≡ true) ↔ OpenAt w nodes n m
  pub not_before : (actions : ℕ) (w nodes : List ℕ) (n t : ℕ) → WindowFile actions w → t ≤ earliest (leaf_window w nodes n) t
  pub open_then : (actions : ℕ) (w nodes : List ℕ) (n t : ℕ) → WindowFile actions w → inside (leaf_window w nodes n) (earliest (leaf_window w nodes n) t) ≡ true
  pub no_sooner : (actions : ℕ) (w nodes : List ℕ) (n t m : ℕ) → WindowFile actions w → t ≤ m → inside (leaf_window w nodes n) m ≡ true → earliest (leaf_window w nodes n) t ≤ m
