-- The reader's answer for a window file is 0 or 23, and 0 exactly for window files: each test is its statement. And there are at most as many
-- windows as actions: counted by action each window is counted once, and no action counts two.
use mathlib.Core.Path.{◌≡◌, refl, sym, ap, ◌∙◌}
use mathlib.Core.Bool.{Bool, true, false, not, true≢false, cond}
use mathlib.Core.List.{List}
use mathlib.Core.Logic.{◌↔◌, ◌⊎◌, inl, inr}
use Prim.Native.Nat.{ℕ, ◌*◌, ◌%◌, ◌≤◌, ◌<◌}
use Rattle.std.specs.Prelude.{Ok}
use native.Mathlib.Omega.{arith}
use lib.Dec.{eqb, leb}
use lib.ListN.{length}
use borrow.Author.Tests.{leb-true, leb-false, le-leb, ltb-true, lt-ltb, eqb-true, eqb-false, eq-eqb, ne_eqb}
use Rattle.blocks.specs.Bounded.{every, total, one}
use Rattle.blocks.proofs.Bounded.{decide, both_true, every_at, every_all, total_upto, total_some, total_single, total_same, total_exchanged, total_below, one_holds, one_most}
use Rattle.hours.specs.Windows.{week, window_count, action, opens, closes, WindowFile, beside_ok, window_ok, windows_ok, windows_checked, windows_fault, ReadsWindows}
use Rattle.hours.specs.Fault.{number_or_0}

-- window i beside window j
beside_says : (i ai j aj : ℕ) → (beside_ok i ai j aj ≡ true) ↔ (ai ≡ aj → i ≡ j)
beside_says i ai j aj = (to (eqb i j) (eqb ai aj) refl refl, from (eqb i j) refl)
  where
    to : (a b : Bool) → eqb i j ≡ a → eqb ai aj ≡ b → cond a true (not b) ≡ true → ai ≡ aj → i ≡ j
    to true b ea eb h e = eqb-true i j ea
    to false true ea eb h e = absurd (true≢false (sym h))
    to false false ea eb h e = absurd (eqb-false ai aj eb e)

    from : (a : Bool) → eqb i j ≡ a → (ai ≡ aj → i ≡ j) → cond a true (not (eqb ai aj)) ≡ true
    from true ea h = refl
    from false ea h = rw (ne_eqb ai aj (λ e. eqb-false i j ea (h e)))

module _ (actions : ℕ) (w : List ℕ) where
  beside : ℕ → ℕ → Bool
  beside i j = beside_ok i (action w i) j (action w j)

  pub windows_say : (windows_ok actions w ≡ true) ↔ WindowFile actions w
  unfolding beside
  windows_say = (to, from)
    where
      whole_and_each : windows_ok actions w ≡ true → (eqb (length w % 5) 0 ≡ true) × (every (window_count w) (λ i. window_ok actions w i) ≡ true)
      whole_and_each h = both_true (eqb (length w % 5) 0) (every (window_count w) (λ i. window_ok actions w i)) h

      -- the four tests of window i
      parts : windows_ok actions w ≡ true → (i : ℕ) → i < window_count w
          → (action w i < actions) × (opens w i < closes w i) × (closes w i ≤ week) × (every (window_count w) (beside i) ≡ true)
      parts h i l =
          let (one, rest) = both_true _ _ (every_at (λ i. window_ok actions w i) (window_count w) i (whole_and_each h).1 l) in
          let (two, more) = both_true _ _ rest in
          let (three, all) = both_true _ _ more in
          (ltb-true _ _ one, ltb-true _ _ two, leb-true _ _ three, all)

      to : windows_ok actions w ≡ true → WindowFile actions w
      to h =
          record {
            whole = omega (arith, eqb-true (length w % 5) 0 (whole_and_each h).0);
            numbers = λ i l. (parts h i l).0;
            once = λ i j k l. (beside_says i (action w i) j (action w j)).0 (every_at (beside i) (window_count w) j (parts h i k).3 l);
            in_order = λ i l. (parts h i l).1;
            in_week = λ i l. (parts h i l).2;
          }

      from : WindowFile actions w → windows_ok actions w ≡ true
      from f = rw (eq-eqb (length w % 5) 0 (omega (arith, f.whole))) (every_all (λ i. window_ok actions w i) (window_count w) (λ i l.
          let all : every (window_count w) (beside i) ≡ true = every_all (beside i) (window_count w) (λ j k. (beside_says i (action w i) j (action w j)).1 (f.once i j l k)) in
          simp (lt-ltb _ _ (f.numbers i l), lt-ltb _ _ (f.in_order i l), le-leb _ _ (f.in_week i l), all)))

  accepts : (windows_fault actions w ≡ 0) ↔ WindowFile actions w
  accepts = (λ h. to (decide (windows_ok actions w)) h, λ f. rw (windows_say.1 f))
    where
      to : (windows_ok actions w ≡ true) ⊎ (windows_ok actions w ≡ false) → windows_fault actions w ≡ 0 → WindowFile actions w
      to (inl e) h = windows_say.0 e
      to (inr e) h = absurd (omega (arith, rw e at h))

  refuses : (windows_fault actions w ≡ 23) ↔ (WindowFile actions w → ⊥)
  refuses = (λ h f. omega (arith, accepts.1 f), from (decide (windows_ok actions w)))
    where
      from : (windows_ok actions w ≡ true) ⊎ (windows_ok actions w ≡ false) → (WindowFile actions w → ⊥) → windows_fault actions w ≡ 23
      from (inl e) h = absurd (h (windows_say.0 e))
      from (inr e) h = rw e

  -- for those who go on from the check
  pub passes_file : windows_checked actions w ≡ Ok tt → WindowFile actions w
  passes_file h = accepts.0 (ap number_or_0 h)

  pub file_passes : WindowFile actions w → windows_checked actions w ≡ Ok tt
  file_passes f = rw (windows_say.1 f)

  module _ (f : WindowFile actions w) where
    -- how many windows name the action a
    naming : ℕ → ℕ
    naming a = total (window_count w) (λ i. one (eqb (action w i) a))

    naming_most : (a : ℕ) → naming a ≤ 1
    unfolding naming
    naming_most a = elim (decide (eqb (total (window_count w) (λ i. one (eqb (action w i) a))) 0)) [
      | inl e ↦ omega (arith, eqb-true (total (window_count w) (λ i. one (eqb (action w i) a))) 0 e)
      | inr e ↦
          let some = eqb-false (total (window_count w) (λ i. one (eqb (action w i) a))) 0 e in
          let (i, l, c) = total_some (λ i. one (eqb (action w i) a)) (window_count w) (omega arith) in
          let here = eqb-true (action w i) a (one_holds (eqb (action w i) a) c) in
          let single = total_single (λ i. one (eqb (action w i) a)) (window_count w) i l (λ j m d. rw (ne_eqb (action w j) a (λ there. d (f.once j i m l (there ∙ sym here))))) in
          omega (arith, single, one_most (eqb (action w i) a))
    ]

    -- each window is counted at its action
    all_named : total (window_count w) (λ i. 1) ≡ total actions naming
    unfolding naming
    all_named =
        total_same (λ i. 1) (λ i. total actions (λ a. one (eqb (action w i) a))) (window_count w) (λ i l. sym (at_action (action w i) (f.numbers i l)))
        ∙ sym (total_exchanged (λ i a. one (eqb (action w i) a)) (window_count w) actions)
      where
        at_action : (v : ℕ) → v < actions → total actions (λ a. one (eqb v a)) ≡ 1
        at_action v l = total_single (λ a. one (eqb v a)) actions v l (λ a m d. rw (ne_eqb v a (λ e. d (sym e)))) ∙ rw (eq-eqb v v refl)

    -- one more window than actions would be one more than is counted
    most : length w ≤ 5 * actions
    most = elim (decide (leb (window_count w) actions)) [
      | inl e ↦ omega (arith, leb-true (window_count w) actions e, f.whole)
      | inr e ↦ absurd (omega (arith, total_upto (λ i. 1) (window_count w) actions (leb-false (window_count w) actions e), all_named, total_below naming (λ a. 1) actions (λ a l. naming_most a)))
    ]

pub reads_windows : ReadsWindows
reads_windows = record { accepts = accepts; refuses = refuses; most = most }
