-- Record bytes are read two at a time: how many entries are shown in them, and each of these.
use mathlib.Core.Path.{◌≡◌, refl, ap}
use mathlib.Core.Bool.{Bool, true, false, not, cond}
use mathlib.Core.List.{List, [], ◌∷◌}
use Prim.Native.Nat.{ℕ, zero, suc, ◌+◌, ◌*◌, ◌/◌, ◌≤◌, ◌<◌}
use native.Mathlib.Omega.{arith}
use lib.Dec.{eqb, ltb}
use lib.ListN.{length, get_or, drop, length-drop}
use lib.Seq.{drop-cons}
use Rattle.std.specs.List.{range_with_len, position_or_len}
use borrow.Author.Tests.{ltb-false}
use Rattle.std.proofs.lemmas.List.Sums.{prefix_len-le-length}
use Rattle.std.proofs.lemmas.List.FromFn.{length-range_with_len}
use Rattle.std.specs.Prelude.{Option, Some, None, unwrap_or}
use Rattle.judge.specs.Shown.{shown_entries}
use Rattle.state.specs.declared.Entry.{Entry}

pub entry_off : (run : List ℕ) (i : ℕ) → 2 * i + 1 < length run → drop (2 * i) run ≡ get_or run (2 * i) 0 ∷ get_or run (2 * i + 1) 0 ∷ drop (2 * (i + 1)) run
entry_off run i h =
    let e : suc (2 * i) ≡ 2 * i + 1 = omega arith in
    let f : suc (2 * i + 1) ≡ 2 * (i + 1) = omega arith in
    let first = drop-cons run (2 * i) 0 (omega arith) in
    let second = drop-cons run (2 * i + 1) 0 h in
    rw (first, e, second, f)

stop_more : (stop : Bool) (k : ℕ) (e : Entry) (es : List Entry) → k ≡ length es → cond (not stop) (1 + k) 0 ≡ length (cond stop [] (e ∷ es))
stop_more true k e es h = refl
stop_more false k e es h = omega arith

one_byte : (s : List ℕ) → length s ≤ 1 → 0 ≡ length (shown_entries s)
unfolding shown_entries
one_byte [] h = refl
one_byte (n ∷ []) h = refl
one_byte (n ∷ outcome ∷ s) h = absurd (omega arith)

-- where the first entry stands whose second byte is 0, from the entry a on
pub stop_from : (s : List ℕ) (n a : ℕ) → 2 * a + 2 * n ≤ length s → length s ≤ 2 * a + 2 * n + 1 → position_or_len (λ i. eqb (get_or s (2 * i + 1) 0) 0) (range_with_len a n) ≡ length (shown_entries (drop (2 * a) s))
unfolding shown_entries
stop_from s zero a h k = one_byte (drop (2 * a) s) (omega (arith, length-drop (2 * a) s))
stop_from s (suc n) a h k =
    rw (entry_off s a (omega arith)) (stop_more (eqb (get_or s (2 * a + 1) 0) 0) _ _ _ (stop_from s n (a + 1) (omega arith) (omega arith)))

-- the entry that two bytes are
abbrev pub entry_in : List ℕ → ℕ → Entry
entry_in s i = record { leaf = get_or s (2 * i) 0; outcome = get_or s (2 * i + 1) 0 }

later : (n outcome : ℕ) (s : List ℕ) (i : ℕ) → entry_in (n ∷ outcome ∷ s) (suc i) ≡ entry_in s i
later n outcome s i =
    let e : 2 * suc i ≡ suc (suc (2 * i)) = omega arith in
    let f : 2 * suc i + 1 ≡ suc (suc (2 * i + 1)) = omega arith in
    rw (f, e)

shown_more : (stop : Bool) (n outcome : ℕ) (s : List ℕ) (es : List Entry) → ((k : ℕ) → k < length es → drop k es ≡ entry_in s k ∷ drop (suc k) es)
    → (i : ℕ) → i < length (cond stop [] (record { leaf = n; outcome = outcome } ∷ es))
    → drop i (cond stop [] (record { leaf = n; outcome = outcome } ∷ es)) ≡ entry_in (n ∷ outcome ∷ s) i ∷ drop (suc i) (cond stop [] (record { leaf = n; outcome = outcome } ∷ es))
shown_more true n outcome s es rest i h = absurd (omega arith)
shown_more false n outcome s es rest zero h = refl
shown_more false n outcome s es rest (suc i) h = rw (later n outcome s i) (rest i (omega arith))

-- each entry that is shown, and those after it
pub entry_shown : (s : List ℕ) (i : ℕ) → i < length (shown_entries s) → drop i (shown_entries s) ≡ entry_in s i ∷ drop (suc i) (shown_entries s)
unfolding shown_entries
entry_shown [] i h = absurd (omega arith)
entry_shown (n ∷ []) i h = absurd (omega arith)
entry_shown (n ∷ outcome ∷ s) i h = shown_more (eqb outcome 0) n outcome s (shown_entries s) (entry_shown s) i h

-- so that is where a search among all of them ends
pub stop_found : (s : List ℕ) (o : Option ℕ)
    → o ≡ cond (ltb (position_or_len (λ i. eqb (get_or s (2 * i + 1) 0) 0) (range_with_len 0 (length s / 2))) (length (range_with_len 0 (length s / 2)))) (Some (position_or_len (λ i. eqb (get_or s (2 * i + 1) 0) 0) (range_with_len 0 (length s / 2)))) None
    → unwrap_or o (length s / 2) ≡ length (shown_entries s)
stop_found s o e =
    let all = length-range_with_len 0 (length s / 2) in
    rw (e, all) (go _ _ (omega (arith, prefix_len-le-length (λ i. not (eqb (get_or s (2 * i + 1) 0) 0)) (range_with_len 0 (length s / 2)))) (stop_from s (length s / 2) 0 (omega arith) (omega arith)))
  where
    go : (k m : ℕ) → k ≤ length s / 2 → k ≡ m → unwrap_or (cond (ltb k (length s / 2)) (Some k) None) (length s / 2) ≡ m
    go k m h e = by_test (ltb k (length s / 2)) refl
      where
        by_test : (t : Bool) → ltb k (length s / 2) ≡ t → unwrap_or (cond t (Some k) None) (length s / 2) ≡ m
        by_test true i = e
        by_test false i = omega (arith, ltb-false k (length s / 2) i)

pub shown_few : (s : List ℕ) → 2 * length (shown_entries s) ≤ length s
unfolding shown_entries
shown_few [] = omega arith
shown_few (n ∷ []) = omega arith
shown_few (n ∷ outcome ∷ s) = go (eqb outcome 0) (shown_few s)
  where
    go : (stop : Bool) → 2 * length (shown_entries s) ≤ length s → 2 * length (cond stop [] (record { leaf = n; outcome = outcome } ∷ shown_entries s)) ≤ length (n ∷ outcome ∷ s)
    go true h = omega arith
    go false h = omega arith
