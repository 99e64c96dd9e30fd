-- The bytes of a number, read one after the other, are its decimal text: by induction on the bytes that are left, and on the text.
use mathlib.Core.Bool.{Bool, true, false, cond}
use mathlib.Core.List.{List, [], ◌∷◌, ◌++◌, append_assoc, append-nil}
use mathlib.Core.Path.{◌≡◌, refl, ap}
use Prim.Native.Nat.{ℕ, ◌+◌, ◌-◌, ◌*◌, ◌≤◌}
use native.Mathlib.Omega.{arith}
use lib.Dec.{ltb, eqb}
use borrow.Author.Tests.{eqb-false, ltb-false, ne_eqb, le-ltb}
use Rattle.session.specs.Line.{largest, digit_after}
use Rattle.text.specs.Decimal.{Decimal, digit, more}
use Rattle.session.specs.declared.line.Number.{Number}
use Rattle.session.specs.declared.line.Number.TheVariants.{Unwritten, Is, Wrong}

-- a number after some bytes more
unfoldable pub digits : Number → List ℕ → Number
digits x [] = x
digits x (b ∷ bs) = digits (digit_after x b) bs

digits_last : (x : Number) (bs : List ℕ) (b : ℕ) → digits x (bs ++ (b ∷ [])) ≡ digit_after (digits x bs) b
unfolding digits
digits_last x [] b = refl
digits_last x (c ∷ bs) b = digits_last (digit_after x c) bs b

-- what has come of a number's text
abbrev Came : Number → List ℕ → Type 0
Came Unwritten t = t ≡ []
Came (Is n) t = Decimal n t × (n ≤ largest)
Came Wrong t = Unit {0}

first : (b : ℕ) (t : List ℕ) (low high : Bool) → ltb b 48 ≡ low → ltb 57 b ≡ high → t ≡ []
    → Came (cond low Wrong (cond high Wrong (Is (b - 48)))) (t ++ (b ∷ []))
first b t true high e f h = tt
first b t false true e f h = tt
first b t false false e f h =
    let l = ltb-false b 48 e in
    let m = ltb-false 57 b f in
    let q : b ≡ 48 + (b - 48) = omega arith in
    (digit {n = b - 48} {text = t ++ (b ∷ [])} (omega arith) (rw h (ap (λ (x : ℕ). x ∷ []) q)), omega arith)

further : (n b : ℕ) (t : List ℕ) (zero low high large : Bool)
    → eqb n 0 ≡ zero → ltb b 48 ≡ low → ltb 57 b ≡ high → ltb largest (10 * n + (b - 48)) ≡ large → Decimal n t
    → Came (cond zero Wrong (cond low Wrong (cond high Wrong (cond large Wrong (Is (10 * n + (b - 48))))))) (t ++ (b ∷ []))
further n b t true low high large z e f g h = tt
further n b t false true high large z e f g h = tt
further n b t false false true large z e f g h = tt
further n b t false false false true z e f g h = tt
further n b t false false false false z e f g h =
    let k = eqb-false n 0 z in
    let l = ltb-false b 48 e in
    let m = ltb-false 57 b f in
    let s = ltb-false largest (10 * n + (b - 48)) g in
    let q : b ≡ 48 + (b - 48) = omega arith in
    (more n (b - 48) t (omega arith) (omega arith) h refl (ap (λ (x : ℕ). t ++ (x ∷ [])) q), omega arith)

comes : (x : Number) (t : List ℕ) (b : ℕ) → Came x t → Came (digit_after x b) (t ++ (b ∷ []))
comes Unwritten t b h = first b t (ltb b 48) (ltb 57 b) refl refl h
comes (Is n) t b h = further n b t (eqb n 0) (ltb b 48) (ltb 57 b) (ltb largest (10 * n + (b - 48))) refl refl refl refl h.0
comes Wrong t b h = tt

came_number : (x : Number) (t : List ℕ) (n : ℕ) → Came x t → x ≡ Is n → Decimal n t × (n ≤ largest)
came_number x t n h e = rw e at h

reads_from : (x : Number) (t bs : List ℕ) (n : ℕ) → Came x t → digits x bs ≡ Is n → Decimal n (t ++ bs) × (n ≤ largest)
unfolding digits
reads_from x t [] n h e = rw (append-nil t) (came_number x t n h e)
reads_from x t (b ∷ bs) n h e = rw (← append_assoc t (b ∷ []) bs) (reads_from (digit_after x b) (t ++ (b ∷ [])) bs n (comes x t b h) e)

-- what is read as a number is its text
pub number_only : (bs : List ℕ) (n : ℕ) → digits Unwritten bs ≡ Is n → Decimal n bs × (n ≤ largest)
number_only bs n e = reads_from Unwritten [] bs n refl e

-- a number's text is read as that number
pub number_each : (n : ℕ) (t : List ℕ) → n ≤ largest → Decimal n t → digits Unwritten t ≡ Is n
unfolding digits
number_each n t small (digit d e) =
    let q : 48 + n - 48 ≡ n = omega arith in
    let l = le-ltb (48 + n) 48 (omega arith) in
    let m = le-ltb 57 (48 + n) (omega arith) in
    rw e (rw (l, m, q))
number_each n t small (more m d before pos less decimal value text) =
    let q : 48 + d - 48 ≡ d = omega arith in
    let z = ne_eqb m 0 (λ h. omega arith) in
    let l = le-ltb (48 + d) 48 (omega arith) in
    let k = le-ltb 57 (48 + d) (omega arith) in
    let g = le-ltb largest (10 * m + d) (omega arith) in
    rw (text, digits_last Unwritten before (48 + d), number_each m before (omega arith) decimal, value, z, l, k, q, g)
