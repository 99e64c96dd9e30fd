-- The files of an input as they are read are those that it holds, and where none are read it holds no list of at most so many.
use mathlib.Core.Path.{◌≡◌, refl, sym, ap, subst}
use mathlib.Core.Bool.{Bool, true, false, cond}
use mathlib.Core.List.{List, [], ◌∷◌}
use mathlib.Core.Option.{Option, none, some, some-injective, none-ne-some, some-ne-none}
use Prim.Native.Nat.{ℕ, zero, suc, ◌+◌, ◌*◌, ◌≤◌, ◌<◌}
use native.Mathlib.Omega.{arith}
use lib.Dec.{ltb}
use lib.ListN.{length, take, drop, take-append-drop}
use lib.Seq.{length-take-le}
use borrow.Author.Tests.{ltb-true, ltb-false}
use Rattle.handed.specs.Files.{Ahead, Holds, file}
use Rattle.handed.specs.Files as the_files
use Rattle.handed.specs.Reading.{after_first, before, with_first, ended, files_of}
use Rattle.handed.proofs.Files.{headed, says_length, ahead_long, rests_same}

-- what is read, after its length
module _ (low high : ℕ) (s : List ℕ) where
  abbrev said : ℕ
  said = low + 256 * high

  abbrev input : List ℕ
  input = low ∷ high ∷ s

  there : said ≤ length s → Ahead input (take said s) (drop said s)
  there h = record { low = low; high = high; says = sym (length-take-le said s h); is = ap (λ (r : List ℕ). low ∷ high ∷ r) (sym (take-append-drop said s)) }

  cut : length s < said → (fs : List (List ℕ)) → Holds input fs → ⊥
  cut h fs k = let x = headed input fs k (omega arith) in omega (arith, says_length input x.first x.after x.ahead, ahead_long input x.first x.after x.ahead)

  -- the others stand after it
  others : said ≤ length s → (fs : List (List ℕ)) → Holds input fs → (gs : List (List ℕ)) × Holds (drop said s) gs × (length fs ≡ suc (length gs))
  others h fs k =
      let x = headed input fs k (omega arith) in
      (x.others, subst (λ (r : List ℕ). Holds r x.others) (rests_same input _ _ _ _ x.ahead (there h)) x.holds, ap length x.is)

abbrev Read : ℕ → List ℕ → List (List ℕ) → Type 0
Read k s fs = Holds s fs × (length fs ≤ k)

nothing_read : (k : ℕ) (fs : List (List ℕ)) → some [] ≡ some fs → Read k [] fs
nothing_read k fs h = subst (λ (gs : List (List ℕ)). Read k [] gs) (some-injective _ _ h) (the_files.none, omega arith)

ended_read : (s : List ℕ) (fs : List (List ℕ)) → ended s ≡ some fs → Read 0 s fs
ended_read [] fs h = nothing_read 0 fs h
ended_read (x ∷ s) fs h = absurd (none-ne-some fs h)

module _ (k low high : ℕ) (s : List ℕ) where
  file_read : (b : Bool) → ltb (length s) (low + 256 * high) ≡ b → (x : Option (List (List ℕ))) → ((gs : List (List ℕ)) → x ≡ some gs → Read k (drop (low + 256 * high) s) gs)
      → (fs : List (List ℕ)) → cond b none (before (take (low + 256 * high) s) x) ≡ some fs → Read (suc k) (low ∷ high ∷ s) fs
  file_read true e x rest fs h = absurd (none-ne-some fs h)
  file_read false e none rest fs h = absurd (none-ne-some fs h)
  file_read false e (some gs) rest fs h =
      let (held, few) = rest gs refl in
      let is : take (low + 256 * high) s ∷ gs ≡ fs = some-injective _ _ h in
      let n : suc (length gs) ≡ length fs = ap length is in
      (subst (λ (hs : List (List ℕ)). Holds (low ∷ high ∷ s) hs) is (file (there low high s (ltb-false (length s) (low + 256 * high) e)) held), omega arith)

first_read : (k : ℕ) (s : List ℕ) (x : Option (List (List ℕ))) → ((gs : List (List ℕ)) → x ≡ some gs → Read k (after_first s) gs) → (fs : List (List ℕ)) → with_first s x ≡ some fs → Read (suc k) s fs
first_read k [] x rest fs h = nothing_read (suc k) fs h
first_read k (y ∷ []) x rest fs h = absurd (none-ne-some fs h)
first_read k (low ∷ high ∷ s) x rest fs h = file_read k low high s (ltb (length s) (low + 256 * high)) refl x rest fs h

files_read : (k : ℕ) (s : List ℕ) (fs : List (List ℕ)) → files_of k s ≡ some fs → Read k s fs
unfolding files_of
files_read zero s fs h = ended_read s fs h
files_read (suc k) s fs h = first_read k s (files_of k (after_first s)) (files_read k (after_first s)) fs h

pub files_held : (k : ℕ) (s : List ℕ) (fs : List (List ℕ)) → files_of k s ≡ some fs → Holds s fs
files_held k s fs h = (files_read k s fs h).0

pub files_few : (k : ℕ) (s : List ℕ) (fs : List (List ℕ)) → files_of k s ≡ some fs → length fs ≤ k
files_few k s fs h = (files_read k s fs h).1

abbrev Unread : ℕ → List ℕ → Type 0
Unread k s = (fs : List (List ℕ)) → Holds s fs → length fs ≤ k → ⊥

ended_unread : (s : List ℕ) → ended s ≡ none → Unread 0 s
ended_unread [] h fs held few = some-ne-none _ h
ended_unread (x ∷ s) h fs held few =
    let y = headed (x ∷ s) fs held (omega arith) in
    let n : length fs ≡ suc (length y.others) = ap length y.is in
    omega arith

file_unread : (k low high : ℕ) (s : List ℕ) (b : Bool) → ltb (length s) (low + 256 * high) ≡ b → (x : Option (List (List ℕ))) → (x ≡ none → Unread k (drop (low + 256 * high) s))
    → cond b none (before (take (low + 256 * high) s) x) ≡ none → Unread (suc k) (low ∷ high ∷ s)
file_unread k low high s true e x rest h fs held few = cut low high s (ltb-true (length s) (low + 256 * high) e) fs held
file_unread k low high s false e none rest h fs held few =
    let (gs, behind, n) = others low high s (ltb-false (length s) (low + 256 * high) e) fs held in
    rest refl gs behind (omega arith)
file_unread k low high s false e (some gs) rest h fs held few = some-ne-none _ h

first_unread : (k : ℕ) (s : List ℕ) (x : Option (List (List ℕ))) → (x ≡ none → Unread k (after_first s)) → with_first s x ≡ none → Unread (suc k) s
first_unread k [] x rest h fs held few = some-ne-none _ h
first_unread k (y ∷ []) x rest h fs held few = let z = headed (y ∷ []) fs held (omega arith) in omega (arith, ahead_long (y ∷ []) z.first z.after z.ahead)
first_unread k (low ∷ high ∷ s) x rest h fs held few = file_unread k low high s (ltb (length s) (low + 256 * high)) refl x rest h fs held few

pub no_files : (k : ℕ) (s : List ℕ) → files_of k s ≡ none → Unread k s
unfolding files_of
no_files zero s h = ended_unread s h
no_files (suc k) s h = first_unread k s (files_of k (after_first s)) (no_files k (after_first s)) h
