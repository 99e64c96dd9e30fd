-- Byte order is asymmetric, and total on lists of one length. Runs that part at an entry have record bytes that part there, and the record
-- bytes of a run of at most 63 entries are 126.
use mathlib.Core.Path.{◌≡◌, refl, sym, ap}
use mathlib.Core.Bool.{Bool, true, false}
use mathlib.Core.List.{List, [], ◌∷◌, ◌++◌}
use Prim.Native.Nat.{ℕ, ◌-◌, ◌*◌, ◌≤◌}
use native.Mathlib.Omega.{arith}
use borrow.Author.Tests.{ltb-true, ltb-false}
use lib.Dec.{ltb}
use lib.ListN.{length, replicate, length-append, length-replicate}
use Rattle.process.specs.Process.{Entry, entry, Run}
use Rattle.job.specs.Offer.{status_number}
use Rattle.plainest.specs.Bytes.{encode, record_bytes, Before, here, later}
use Rattle.plainest.specs.Greedy.{Sooner, by_leaf, by_outcome}

-- byte order
pub before_asymmetric : {xs ys : List ℕ} → Before xs ys → ¬ Before ys xs
before_asymmetric (here l) (here k) = omega arith
before_asymmetric (here l) (later i g) = omega arith
before_asymmetric (later i f) (here k) = omega arith
before_asymmetric (later i f) (later j g) = before_asymmetric f g

pub not_before_itself : (xs : List ℕ) → ¬ Before xs xs
not_before_itself xs b = before_asymmetric b b

pub data Compared (xs ys : List ℕ) : Type 0 where
  before : Before xs ys → Compared xs ys
  same : xs ≡ ys → Compared xs ys
  after : Before ys xs → Compared xs ys

below_first : {x y : ℕ} {xs ys : List ℕ} → x ≡ y → Compared xs ys → Compared (x ∷ xs) (y ∷ ys)
below_first e (before b) = before (later e b)
below_first e (same i) = same (rw (e, i))
below_first e (after b) = after (later (sym e) b)

pub before_total : (xs ys : List ℕ) → length xs ≡ length ys → Compared xs ys
before_total [] [] h = same refl
before_total [] (y ∷ ys) h = absurd (omega arith)
before_total (x ∷ xs) [] h = absurd (omega arith)
before_total (x ∷ xs) (y ∷ ys) h = by (ltb x y) refl (ltb y x) refl (before_total xs ys (omega arith))
  where
    by : (a : Bool) → ltb x y ≡ a → (b : Bool) → ltb y x ≡ b → Compared xs ys → Compared (x ∷ xs) (y ∷ ys)
    by true e b f c = before (here (ltb-true x y e))
    by false e true f c = after (here (ltb-true y x f))
    by false e false f c = below_first (omega (arith, ltb-false x y e, ltb-false y x f)) c

-- two runs differ, and at the first entry where they do, the first has the sooner one
pub data First : Run → Run → Type 0 where
  first_here : {e f : Entry} {r q : Run} → Sooner e f → First (e ∷ r) (f ∷ q)
  first_later : {e f : Entry} {r q : Run} → e ≡ f → First r q → First (e ∷ r) (f ∷ q)

pub first_parts : (w : Run) {e f : Entry} (z x : Run) → Sooner e f → First (w ++ (e ∷ z)) (w ++ (f ∷ x))
first_parts [] z x s = first_here s
first_parts (e ∷ w) z x s = first_later refl (first_parts w z x s)

pub first_more : {w q : Run} (z : Run) → First w q → First (w ++ z) q
first_more z (first_here s) = first_here s
first_more z (first_later e f) = first_later e (first_more z f)

sooner_bytes : {e f : Entry} (r q : Run) (xs ys : List ℕ) → Sooner e f → Before (encode (e ∷ r) ++ xs) (encode (f ∷ q) ++ ys)
sooner_bytes r q xs ys (by_leaf l) = here l
sooner_bytes r q xs ys (by_outcome i) = later i (here {x = 1} {y = 2} (omega arith))

-- so in bytes too, whatever stands after
pub first_bytes : {r q : Run} (xs ys : List ℕ) → First r q → Before (encode r ++ xs) (encode q ++ ys)
first_bytes xs ys (first_here {r = r} {q = q} s) = sooner_bytes r q xs ys s
first_bytes xs ys (first_later {e = entry n s} {f = entry m t} i f) =
    let j : n ≡ m = cc in
    let k : s ≡ t = cc in
    later j (later (ap status_number k) (first_bytes xs ys f))

-- the record bytes, counted
pub encode_length : (w : Run) → length (encode w) ≡ 2 * length w
encode_length [] = refl
encode_length (entry n s ∷ w) = omega (arith, encode_length w)

pub record_length : (w : Run) → length w ≤ 63 → length (record_bytes w) ≡ 126
record_length w h =
    omega (
      arith,
      length-append (encode w) (replicate (126 - length (encode w)) 0),
      length-replicate {A = ℕ} (126 - length (encode w)) 0,
      encode_length w,
    )
