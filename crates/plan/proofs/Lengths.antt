-- A permitted length is a permitted number of whole items, by the kind of the block: what the test of a length says.
use mathlib.Core.Path.{◌≡◌}
use mathlib.Core.Bool.{true}
use mathlib.Core.Logic.{◌↔◌}
use Prim.Native.Nat.{ℕ, ◌*◌, ◌/◌, ◌%◌, ◌≤◌}
use native.Mathlib.Nat.{mul-le-mul_left}
use native.Mathlib.Omega.{arith}
use lib.Dec.{leb}
use borrow.Author.Tests.{leb-true, le-leb, eqb-true, eq-eqb}
use Rattle.blocks.proofs.Bounded.{both_true}
use Rattle.plan.specs.PlanFile.{Items}
use Rattle.plan.specs.Reading.{length_ok}

pub at_most : {unit least most n : ℕ} → Items unit least most n → n ≤ unit * most
at_most {unit} i = rw i.whole (mul-le-mul_left unit i.few)

-- a byte for each item: kinds 1 and 4, whose tests are one
pub sized_bytes : (most n : ℕ) → (length_ok 1 most n ≡ true) ↔ Items 1 1 most n
sized_bytes most n = (to, from)
  where
    to : length_ok 1 most n ≡ true → Items 1 1 most n
    to h =
        let (l, u) = both_true (leb 1 n) (leb n most) h in
        record { number = n; whole = omega arith; enough = leb-true _ _ l; few = leb-true _ _ u }

    from : Items 1 1 most n → length_ok 1 most n ≡ true
    from i = simp (le-leb 1 n (omega (arith, i.whole, i.enough)), le-leb n most (omega (arith, i.whole, i.few)))

pub sized_pairs : (most n : ℕ) → (length_ok 2 most n ≡ true) ↔ Items 2 0 most n
sized_pairs most n = (to, from)
  where
    to : length_ok 2 most n ≡ true → Items 2 0 most n
    to h =
        let (w, u) = both_true _ _ h in
        let whole = eqb-true (n % 2) 0 w in
        let high = leb-true n (2 * most) u in
        record { number = n / 2; whole = omega arith; enough = omega arith; few = omega arith }

    from : Items 2 0 most n → length_ok 2 most n ≡ true
    from i = simp (eq-eqb (n % 2) 0 (omega (arith, i.whole)), le-leb n (2 * most) (omega (arith, i.whole, i.few)))

pub sized_nodes : (most n : ℕ) → (length_ok 3 most n ≡ true) ↔ Items 3 1 most n
sized_nodes most n = (to, from)
  where
    to : length_ok 3 most n ≡ true → Items 3 1 most n
    to h =
        let (w, rest) = both_true _ _ h in
        let (l, u) = both_true _ _ rest in
        let whole = eqb-true (n % 3) 0 w in
        let low = leb-true 1 n l in
        let high = leb-true n (3 * most) u in
        record { number = n / 3; whole = omega arith; enough = omega arith; few = omega arith }

    from : Items 3 1 most n → length_ok 3 most n ≡ true
    from i =
        simp (eq-eqb (n % 3) 0 (omega (arith, i.whole)), le-leb 1 n (omega (arith, i.whole, i.enough)), le-leb n (3 * most) (omega (arith, i.whole, i.few)))
