-- The minutes of a record and the refusals of an entry, for those who go on from them: what a test says and what makes it hold. The earliest minutes
-- will do, and the minute that a record's last entry came at is not before them, since no minute in order and inside is less than the earliest.
use mathlib.Core.Path.{◌≡◌, refl, sym, subst, ◌∙◌}
use mathlib.Core.Bool.{Bool, true, false, cond}
use mathlib.Core.List.{List}
use Prim.Native.Nat.{ℕ, zero, suc, ◌+◌, ◌-◌, ◌≤◌, ◌<◌}
use native.Mathlib.Numerals.{add-one}
use native.Mathlib.Omega.{arith}
use lib.Dec.{leb, ltb, eqb-suc-zero}
use borrow.Author.Tests.{eqb-true, leb-true, le-leb, ltb-false, lt-ltb, le-ltb}
use Rattle.blocks.proofs.Bounded.{both_true}
use Rattle.std.specs.Prelude.{Result, Ok, Err, is_ok}
use Rattle.hours.specs.Windows.{windows_checked, WindowFile}
use Rattle.hours.specs.Hours.{leaf_window, inside, entry_checked}
use Rattle.hours.specs.declared.Fault.{Fault}
use Rattle.hours.specs.declared.Fault.TheVariants.{Early, Outside}
use Rattle.hours.specs.Kept.{leaf_of, Came, no_entry, one_more, soonest, came_by, KeepsRecords, kept}
use Rattle.hours.proofs.ReadsWindows.{passes_file, file_passes}
use Rattle.hours.proofs.KeepsWindows.{keeps_windows}

-- an entry's refusal
module _ (w nodes : List ℕ) (n last m : ℕ) where
  pub fault_early : m < last → entry_checked w nodes n last m ≡ Err Early
  fault_early l = rw (lt-ltb m last l)

  pub fault_outside : last ≤ m → inside (leaf_window w nodes n) m ≡ false → entry_checked w nodes n last m ≡ Err Outside
  fault_outside l h = rw (le-ltb m last l, h)

  pub no_fault : last ≤ m → inside (leaf_window w nodes n) m ≡ true → entry_checked w nodes n last m ≡ Ok tt
  no_fault l h = rw (le-ltb m last l, h)

  pub fault_none : entry_checked w nodes n last m ≡ Ok tt → (last ≤ m) × (inside (leaf_window w nodes n) m ≡ true)
  fault_none = go (ltb m last) (inside (leaf_window w nodes n) m) refl
    where
      go : (a b : Bool) → ltb m last ≡ a → ◌≡◌ {A = Result Unit Fault} (cond a (Err Early) (cond b (Ok tt) (Err Outside))) (Ok tt) → (last ≤ m) × (b ≡ true)
      go true b e h = cc
      go false true e h = (ltb-false m last e, refl)
      go false false e h = cc

module _ (w nodes r : List ℕ) where
  pub came_none : came_by w nodes r 0 0 ≡ true
  came_none = refl

  -- one entry more
  came_suc : (k m : ℕ) → came_by w nodes r (suc k) m ≡ cond (leb (soonest w nodes r k) m) (inside (leaf_window w nodes (leaf_of r k)) m) false
  came_suc k m = let e : suc k - 1 ≡ k = omega arith in rw (eqb-suc-zero k, e)

  pub came_last : (k m : ℕ) → came_by w nodes r (k + 1) m ≡ true → (soonest w nodes r k ≤ m) × (inside (leaf_window w nodes (leaf_of r k)) m ≡ true)
  came_last k m h =
      let (late, within) = both_true (leb (soonest w nodes r k) m) (inside (leaf_window w nodes (leaf_of r k)) m) (sym (came_suc k m) ∙ (rw (add-one k) at h)) in
      (leb-true _ _ late, within)

  -- and the other way
  pub came_then : (k m : ℕ) → soonest w nodes r k ≤ m → inside (leaf_window w nodes (leaf_of r k)) m ≡ true → came_by w nodes r (k + 1) m ≡ true
  came_then k m l h = rw (add-one k) (came_suc k m ∙ rw (le-leb _ _ l, h))

-- records with the same first leaves
module _ (w nodes r r' : List ℕ) where
  pub soonest_same : (k : ℕ) → ((i : ℕ) → i < k → leaf_of r i ≡ leaf_of r' i) → soonest w nodes r k ≡ soonest w nodes r' k
  unfolding soonest
  soonest_same zero same = refl
  soonest_same (suc k) same = rw (same k (omega arith), soonest_same k (λ i l. same i (omega arith)))

  pub came_same : (taken m : ℕ) → ((i : ℕ) → i < taken → leaf_of r i ≡ leaf_of r' i) → came_by w nodes r taken m ≡ came_by w nodes r' taken m
  came_same zero m same = refl
  came_same (suc k) m same =
      came_suc w nodes r k m ∙ rw (same k (omega arith), soonest_same k (λ i l. same i (omega arith))) (sym (came_suc w nodes r' k m))

-- by a window file
module _ (actions : ℕ) (w : List ℕ) (f : WindowFile actions w) (nodes r : List ℕ) where
  pub came_soonest : (k : ℕ) → came_by w nodes r k (soonest w nodes r k) ≡ true
  unfolding soonest
  came_soonest zero = refl
  came_soonest (suc k) =
      let late = keeps_windows.not_before actions w nodes (leaf_of r k) (soonest w nodes r k) f in
      let within = keeps_windows.open_then actions w nodes (leaf_of r k) (soonest w nodes r k) f in
      rw (← add-one k) (came_then w nodes r k (soonest w nodes r (suc k)) late within)

  pub soonest_before : (taken m : ℕ) → came_by w nodes r taken m ≡ true → soonest w nodes r taken ≤ m
  unfolding soonest
  soonest_before zero m h = omega arith
  soonest_before (suc k) m h =
      let (late, within) = came_last w nodes r k m (rw (← add-one k) at h) in
      keeps_windows.no_sooner actions w nodes (leaf_of r k) (soonest w nodes r k) m f late within

  pub came_more : (taken m m' : ℕ) → came_by w nodes r taken m ≡ true → m ≤ m' → inside (leaf_window w nodes (leaf_of r taken)) m' ≡ true
      → came_by w nodes r (taken + 1) m' ≡ true
  came_more taken m m' h l = came_then w nodes r taken m' (omega (arith, soonest_before taken m h))

  -- so the test is the statement: each entry but the last can have come at its earliest minute
  pub came_says : (k m : ℕ) → came_by w nodes r k m ≡ true → Came w nodes r k m
  came_says zero m h = subst (Came w nodes r 0) (sym (eqb-true m 0 h)) no_entry
  came_says (suc k) m h =
      let (late, within) = came_last w nodes r k m (rw (← add-one k) at h) in
      one_more (came_says k (soonest w nodes r k) (came_soonest k)) late ((keeps_windows.tells actions w nodes (leaf_of r k) m f).0 within)

  pub came_holds : (k m : ℕ) → Came w nodes r k m → came_by w nodes r k m ≡ true
  came_holds zero m no_entry = refl
  came_holds (suc k) m (one_more {m = before} c late within) =
      rw (← add-one k) (came_more k before m (came_holds k before c) late ((keeps_windows.tells actions w nodes (leaf_of r k) m f).1 within))

pub keeps_records : KeepsRecords
keeps_records = record { tells = λ actions w nodes r taken m f. (came_says actions w f nodes r taken m, came_holds actions w f nodes r taken m) }

-- a job that is kept
pub kept_says : (actions : ℕ) (w nodes r : List ℕ) (taken m : ℕ) → kept actions w nodes r taken m ≡ true
    → WindowFile actions w × (came_by w nodes r taken m ≡ true)
kept_says actions w nodes r taken m h =
    let (file, came) = both_true (is_ok (windows_checked actions w)) (came_by w nodes r taken m) h in
    (passes_file actions w (is_passed (windows_checked actions w) file), came)
  where
    is_passed : (x : Result Unit Fault) → is_ok x ≡ true → x ≡ Ok tt
    is_passed (Ok tt) e = refl
    is_passed (Err f) e = cc

pub kept_holds : (actions : ℕ) (w nodes r : List ℕ) (taken m : ℕ) → WindowFile actions w → came_by w nodes r taken m ≡ true
    → kept actions w nodes r taken m ≡ true
kept_holds actions w nodes r taken m f came = rw (file_passes actions w f) came
