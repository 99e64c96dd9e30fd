-- N9 of document 02: "A window file holds five bytes for each window: action, then from and to, two bytes each, in minutes of the week, 0 up to
-- 10,080, the end excluded. It may be empty." What one is, for a plan of so many actions, and the test of it.
use Rattle.std.specs.Prelude.{Bool, true, false, not, cond, Result, Ok, Err, List, ◌↔◌, ◌≡◌, ℕ, ◌+◌, ◌*◌, ◌/◌, ◌%◌, ◌≤◌, ◌<◌, ltb, leb, eqb, length, get_or}
use Rattle.blocks.specs.Block.{le16}
use Rattle.blocks.specs.Bounded.{every}
use Rattle.hours.specs.Fault.{number_or_0}
use Rattle.hours.specs.declared.Window.{Window}
use Rattle.hours.specs.declared.Fault.{Fault}
use Rattle.hours.specs.declared.Fault.TheVariants as fault

-- how many minutes a week has
abbrev pub week : ℕ
week = 10080

abbrev pub window_count : List ℕ → ℕ
window_count w = length w / 5

-- window i: its action, and the minutes of the week from which and to which it is open
abbrev pub action : List ℕ → ℕ → ℕ
action w i = get_or w (5 * i) 0

abbrev pub opens : List ℕ → ℕ → ℕ
opens w i = le16 w (5 * i + 1)

abbrev pub closes : List ℕ → ℕ → ℕ
closes w i = le16 w (5 * i + 3)

abbrev pub window_at : List ℕ → ℕ → Window
window_at w i = record { opens = opens w i; closes = closes w i }

-- what the file may hold: 23 is for "another length, an action too large or named twice, from not less than to, or to above 10,080"
pub record WindowFile (actions : ℕ) (w : List ℕ) : Type 0 where
  pub whole : length w ≡ 5 * window_count w
  pub numbers : (i : ℕ) → i < window_count w → action w i < actions
  pub once : (i j : ℕ) → i < window_count w → j < window_count w → action w i ≡ action w j → i ≡ j
  pub in_order : (i : ℕ) → i < window_count w → opens w i < closes w i
  pub in_week : (i : ℕ) → i < window_count w → closes w i ≤ week

-- the test of it: window i beside window j
abbrev pub beside_ok : ℕ → ℕ → ℕ → ℕ → Bool
beside_ok i ai j aj = cond (eqb i j) true (not (eqb ai aj))

abbrev pub alone_ok : List ℕ → ℕ → Bool
alone_ok w i = every (window_count w) (λ j. beside_ok i (action w i) j (action w j))

abbrev pub window_ok : ℕ → List ℕ → ℕ → Bool
window_ok actions w i =
    cond (ltb (action w i) actions)
    (cond (ltb (opens w i) (closes w i))
    (cond (leb (closes w i) week) (alone_ok w i) false)
    false)
    false

abbrev pub windows_ok : ℕ → List ℕ → Bool
windows_ok actions w = cond (eqb (length w % 5) 0) (every (window_count w) (λ i. window_ok actions w i)) false

abbrev pub windows_checked : ℕ → List ℕ → Result Unit Fault
windows_checked actions w = cond (windows_ok actions w) (Ok tt) (Err fault.Windows)

-- the number of a window file's refusal; 0 where there is none
abbrev pub windows_fault : ℕ → List ℕ → ℕ
windows_fault actions w = number_or_0 (windows_checked actions w)

-- The reader's answer is 0 or 23, and 0 exactly for window files, whatever the bytes.
pub record ReadsWindows : Type 0 where
  pub accepts : (actions : ℕ) (w : List ℕ) → (windows_fault actions w ≡ 0) ↔ WindowFile actions w
  pub refuses : (actions : ℕ) (w : List ℕ) → (windows_fault actions w ≡ 23) ↔ (WindowFile actions w → ⊥)
  -- and so at most five bytes for each action
  pub most : (actions : ℕ) (w : List ℕ) → WindowFile actions w → length w ≤ 5 * actions
