-- A record always has room for an entry that may come: a leaf occurs once in a run, so there are no more entries than leaf numbers.
use mathlib.Core.Path.{◌≡◌, refl, ◌∙◌}
use mathlib.Core.Bool.{cond}
use mathlib.Core.List.{[], ◌∷◌, ◌++◌}
use Prim.Native.Nat.{ℕ, zero, suc, ◌+◌, ◌≤◌, ◌<◌}
use native.Mathlib.Omega.{arith}
use lib.Dec.{eqb}
use lib.ListN.{length}
use borrow.Author.Tests.{eq-eqb, ne_eqb}
use Rattle.blocks.specs.Bounded.{total}
use Rattle.blocks.proofs.Bounded.{total_none, total_single}
use Rattle.process.specs.Process.{Entry, entry, Run}
use Rattle.runs.specs.Beginnings.{occurrences}

-- each entry's leaf is below m
abbrev pub Below : ℕ → Run → Type 0
Below m [] = Unit {0}
Below m (entry n s ∷ w) = (n < m) × Below m w

pub below_more : (m : ℕ) (w : Run) (e : Entry) → Below m w → Below m (e ∷ []) → Below m (w ++ (e ∷ []))
below_more m [] e h l = l
below_more m (entry n s ∷ w) e (k, h) l = (k, below_more m w e h l)

abbrev is : ℕ → ℕ → ℕ
is n i = cond (eqb i n) 1 0

total_add : (m : ℕ) (f g : ℕ → ℕ) → total m (λ i. f i + g i) ≡ total m f + total m g
unfolding total
total_add zero f g = refl
total_add (suc m) f g = omega (arith, total_add m f g)

pub total_most : (m : ℕ) (f g : ℕ → ℕ) → ((i : ℕ) → f i ≤ g i) → total m f ≤ total m g
unfolding total
total_most zero f g h = omega arith
total_most (suc m) f g h = omega (arith, h m, total_most m f g h)

total_ones : (m : ℕ) → total m (λ i. 1) ≡ m
unfolding total
total_ones zero = refl
total_ones (suc m) = omega (arith, total_ones m)

total_is : (m n : ℕ) → n < m → total m (is n) ≡ 1
total_is m n h = total_single (is n) m n h (λ i l d. rw (ne_eqb i n d)) ∙ rw (eq-eqb n n refl)

-- the entries of a run, counted leaf by leaf
pub counted : (m : ℕ) (w : Run) → Below m w → total m (λ i. occurrences i w) ≡ length w
counted m [] h = total_none (λ i. 0) m (λ i l. refl)
counted m (entry n s ∷ w) (l, h) = total_add m (is n) (λ i. occurrences i w) ∙ omega (arith, total_is m n l, counted m w h)

pub once_few : (m : ℕ) (w : Run) → Below m w → ((n : ℕ) → occurrences n w ≤ 1) → length w ≤ m
once_few m w b h = omega (arith, counted m w b, total_most m (λ i. occurrences i w) (λ i. 1) h, total_ones m)
