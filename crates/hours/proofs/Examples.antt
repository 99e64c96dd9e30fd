-- Worked examples: which window files are accepted, which minutes an entry may come at, and which minutes a record's last entry can have had.
use mathlib.Core.Path.{◌≡◌, refl, ap}
use mathlib.Core.Bool.{true, false}
use mathlib.Core.List.{List, [], ◌∷◌, ◌++◌}
use Prim.Native.Nat.{ℕ, ◌+◌, ◌≤◌}
use native.Mathlib.Omega.{arith}
use lib.ListN.{length}
use Rattle.blocks.specs.Block.{two}
use Rattle.blocks.specs.Bounded.{every}
use Rattle.hours.specs.Fault.{number_or_0}
use Rattle.hours.specs.Windows.{windows_fault}
use Rattle.hours.specs.Hours.{whole_week, window_from, leaf_window, entry_fault, earliest}
use Rattle.hours.specs.Kept.{soonest, came_by, kept}
use Rattle.hours.specs.declared.Window.{Window}
use Rattle.hours.proofs.Earliest.{inside_says}
use Rattle.hours.proofs.Kept.{no_fault}

-- the five bytes of a window
abbrev window : ℕ → ℕ → ℕ → List ℕ
window a from to = a ∷ (two from ++ two to)

-- from eight to five on the first day
abbrev by_day : List ℕ
by_day = window 0 480 1020

-- and action 1 from one to two at night
abbrev both : List ℕ
both = by_day ++ window 1 60 120

-- Window files, for a plan of two actions.
accepted : (windows_fault 2 [] ≡ 0) × (windows_fault 0 [] ≡ 0) × (windows_fault 2 both ≡ 0) × (windows_fault 2 (window 1 60 120 ++ by_day) ≡ 0)
unfolding every
accepted = (refl, refl, refl, refl)

-- the end of the week is excluded, so that a window may reach it, and one that is the whole week passes
to_the_end : (windows_fault 2 (window 0 10079 10080) ≡ 0) × (windows_fault 2 (window 0 0 10080) ≡ 0) × (windows_fault 2 (window 0 480 10081) ≡ 23)
unfolding every
to_the_end = (refl, refl, refl)

from_and_to : (windows_fault 2 (window 0 480 480) ≡ 23) × (windows_fault 2 (window 0 1020 480) ≡ 23) × (windows_fault 2 (window 0 480 481) ≡ 0)
unfolding every
from_and_to = (refl, refl, refl)

another_length : (windows_fault 2 (0 ∷ 224 ∷ 1 ∷ 252 ∷ []) ≡ 23) × (windows_fault 2 (by_day ++ (1 ∷ [])) ≡ 23)
unfolding every
another_length = (refl, refl)

-- with other hours or the same, next to each other or not
action_twice : (windows_fault 2 (by_day ++ window 0 1020 1080) ≡ 23) × (windows_fault 2 (by_day ++ by_day) ≡ 23) × (windows_fault 2 (both ++ by_day) ≡ 23)
unfolding every
action_twice = (refl, refl, refl)

action_too_large : (windows_fault 2 (window 2 480 1020) ≡ 23) × (windows_fault 3 (window 2 480 1020) ≡ 0)
unfolding every
action_too_large = (refl, refl)

-- the longest window file of ten actions, and of nine it is none
abbrev ten : List ℕ
ten =
    window 9 0 1 ++ (window 1 0 1 ++ (window 2 0 1 ++ (window 3 0 1 ++ (window 4 0 1 ++ (window 5 0 1 ++ (window 6 0 1 ++ (window 7 0 1 ++ (window 8 0 1 ++ window 0 0 1))))))))

each_action : (windows_fault 10 ten ≡ 0) × (length ten ≡ 50) × (windows_fault 9 ten ≡ 23)
unfolding every
each_action = (refl, refl, refl)

-- Leaves 0 and 1 of the actions 0 and 1, a skip, a throw, and sequences of them.
abbrev nodes : List ℕ
nodes = 0 ∷ 0 ∷ 0 ∷ 0 ∷ 1 ∷ 0 ∷ 1 ∷ 0 ∷ 0 ∷ 2 ∷ 0 ∷ 0 ∷ 3 ∷ 0 ∷ 1 ∷ 3 ∷ 2 ∷ 3 ∷ 3 ∷ 4 ∷ 5 ∷ []

-- An entry of leaf 0: outside before its window, inside from its first minute to its last, and so again in the next week.
in_window : (entry_fault by_day nodes 0 0 479 ≡ 22) × (entry_fault by_day nodes 0 0 480 ≡ 0) × (entry_fault by_day nodes 0 0 1019 ≡ 0)
    × (entry_fault by_day nodes 0 0 1020 ≡ 22)
    × (entry_fault by_day nodes 0 0 (10080 + 479) ≡ 22)
    × (entry_fault by_day nodes 0 0 (10080 + 480) ≡ 0)
unfolding leaf_window window_from
in_window = (refl, refl, refl, refl, refl, refl)

-- an earlier minute is refused first, inside the window or not; the same minute is none
earlier : (entry_fault by_day nodes 0 6 5 ≡ 21) × (entry_fault by_day nodes 0 501 500 ≡ 21) × (entry_fault by_day nodes 0 500 500 ≡ 0)
unfolding leaf_window window_from
earlier = (refl, refl, refl)

-- the second window of a file
second : (entry_fault both nodes 1 0 59 ≡ 22) × (entry_fault both nodes 1 0 60 ≡ 0) × (entry_fault both nodes 1 0 120 ≡ 22)
unfolding leaf_window window_from
second = (refl, refl, refl)

-- The window is that of the leaf's action, and not of its place in the file or of the leaf's number: leaves of the actions 2, 0 and 1, and windows of 1
-- and 2.
abbrev mixed : List ℕ
mixed = 0 ∷ 2 ∷ 0 ∷ 0 ∷ 0 ∷ 0 ∷ 0 ∷ 1 ∷ 0 ∷ 3 ∷ 0 ∷ 1 ∷ 3 ∷ 3 ∷ 2 ∷ []

abbrev two_hours : List ℕ
two_hours = window 1 60 120 ++ window 2 480 1020

of_its_action : (entry_fault two_hours mixed 0 0 480 ≡ 0) × (entry_fault two_hours mixed 0 0 479 ≡ 22) × (entry_fault two_hours mixed 0 0 60 ≡ 22)
    × (entry_fault two_hours mixed 1 0 0 ≡ 0)
    × (entry_fault two_hours mixed 2 0 60 ≡ 0)
    × (entry_fault two_hours mixed 2 0 120 ≡ 22)
    × (entry_fault two_hours mixed 2 0 480 ≡ 22)
unfolding leaf_window window_from
of_its_action = (refl, refl, refl, refl, refl, refl, refl)

-- at any minute: an action without a window, a skip and a throw, though their bytes name action 0, and whatever comes without windows
any_minute : (w : List ℕ) (n : ℕ) → leaf_window w nodes n ≡ whole_week → (last m : ℕ) → last ≤ m → entry_fault w nodes n last m ≡ 0
any_minute w n e last m l = ap number_or_0 (no_fault w nodes n last m l (rw e ((inside_says whole_week m).1 (omega arith, omega arith))))

without_window : (last m : ℕ) → last ≤ m
    → (entry_fault by_day nodes 1 last m ≡ 0) × (entry_fault by_day nodes 2 last m ≡ 0) × (entry_fault by_day nodes 3 last m ≡ 0)
    × (entry_fault [] nodes 0 last m ≡ 0)
unfolding leaf_window window_from
without_window last m l = (any_minute by_day 1 refl last m l, any_minute by_day 2 refl last m l, any_minute by_day 3 refl last m l, any_minute [] 0 refl last m l)

-- The least minute from one on: before the window, at its bounds, and after it, in the first week and in the second.
abbrev day : Window
day = record { opens = 480; closes = 1020 }

least_minute : (earliest day 0 ≡ 480) × (earliest day 479 ≡ 480) × (earliest day 480 ≡ 480) × (earliest day 1019 ≡ 1019) × (earliest day 1020 ≡ 10560)
    × (earliest day 10080 ≡ 10560)
    × (earliest day 10680 ≡ 10680)
    × (earliest day 11100 ≡ 20640)
least_minute = (refl, refl, refl, refl, refl, refl, refl, refl)

-- A record: leaf 0 by day, then leaf 1 by night, so not before the second week, then the skip.
abbrev entries : List ℕ
entries = 0 ∷ 1 ∷ 1 ∷ 1 ∷ 2 ∷ 1 ∷ []

minutes : (soonest both nodes entries 0 ≡ 0) × (soonest both nodes entries 1 ≡ 480) × (soonest both nodes entries 2 ≡ 10140) × (soonest both nodes entries 3 ≡ 10140)
unfolding soonest leaf_window window_from
minutes = (refl, refl, refl, refl)

no_entry : (came_by both nodes entries 0 0 ≡ true) × (came_by both nodes entries 0 1 ≡ false)
no_entry = (refl, refl)

-- inside its window, but before the entry ahead of it can have come; and outside it
night : (came_by both nodes entries 2 60 ≡ false) × (came_by both nodes entries 2 480 ≡ false) × (came_by both nodes entries 2 10139 ≡ false)
    × (came_by both nodes entries 2 10140 ≡ true)
    × (came_by both nodes entries 2 10200 ≡ false)
unfolding soonest leaf_window window_from
night = (refl, refl, refl, refl, refl)

-- what may come at any minute is held to the entries before it
skip : (came_by both nodes entries 3 10139 ≡ false) × (came_by both nodes entries 3 10140 ≡ true) × (came_by both nodes entries 3 20000 ≡ true)
unfolding soonest leaf_window window_from
skip = (refl, refl, refl)

-- and it is kept by a window file alone
in_a_file : (kept 2 both nodes entries 3 10140 ≡ true) × (kept 2 both nodes entries 3 10139 ≡ false) × (kept 1 both nodes entries 3 10140 ≡ false)
unfolding every soonest leaf_window window_from
in_a_file = (refl, refl, refl)
