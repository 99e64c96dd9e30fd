-- One pair more in the loop that makes the masks: its undo is put into the mask of its action, and the other masks stay.
use mathlib.Core.Path.{◌≡◌, refl, sym, ap}
use mathlib.Core.List.{List}
use mathlib.Core.Logic.{inl, inr}
use Prim.Native.Nat.{ℕ, ◌+◌, ◌<◌}
use native.Mathlib.Numerals.{add-one}
use lib.Bits.{bit_or, or_zero_r}
use lib.ListN.{length, get_or}
use lib.Seq.{get_or-set_same, get_or-set_other}
use borrow.Author.Tests.{eq-eqb, ne_eqb}
use Rattle.bodies.specs.Pairs.{first, second}
use Rattle.family.proofs.Numbers.{same_or_other}
use Rattle.undos.specs.Masks.{bit, undos_in, with_undo}

pub masks_more : (pairs masks : List ℕ) (i : ℕ) → first pairs i < length masks → ((a : ℕ) → a < 256 → get_or masks a 0 ≡ undos_in i pairs a)
    → (a : ℕ) → a < 256 → get_or (with_undo masks (first pairs i) (second pairs i)) a 0 ≡ undos_in (i + 1) pairs a
unfolding undos_in
masks_more pairs masks i room old a l =
    let new = bit_or (get_or masks (first pairs i) 0) (bit (second pairs i)) in
    elim (same_or_other a (first pairs i)) [
      | inl e ↦ rw (add-one i, e, eq-eqb (first pairs i) (first pairs i) refl, get_or-set_same masks (first pairs i) new 0 room)
          (ap (λ (n : ℕ). bit_or n (bit (second pairs i))) (old (first pairs i) (rw e at l)))
      | inr d ↦ rw (add-one i, ne_eqb (first pairs i) a (λ e. d (sym e)), or_zero_r (undos_in i pairs a), get_or-set_other masks (first pairs i) a new 0 d) (old a l)
    ]
