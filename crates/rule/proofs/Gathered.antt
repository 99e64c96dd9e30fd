-- How many actions of a mask the sets of a word have, gathered action by action: the number of those passed, and of those in the rest of the mask.
use mathlib.Core.Path.{◌≡◌, refl, sym, ap, ◌∙◌}
use mathlib.Core.Bool.{Bool, true, false, ◌&&◌, ◌||◌}
use Prim.Native.Nat.{ℕ, zero, suc, ◌+◌, ◌-◌, ◌*◌, ◌^◌, ◌<◌}
use native.Mathlib.Nat.{zero-add, add-zero}
use native.Mathlib.Omega.{arith}
use lib.Bits.{bit_or, bit_and}
use lib.Count.{count_trailing_zeros}
use lib.Dec.{leb}
use borrow.Author.Tests.{le-leb}
use Rattle.blocks.specs.Bounded.{one}
use Rattle.family.specs.Family.{bit_at, Having}
use Rattle.family.proofs.Bits.{no_bit, bit_or_lem}
use Rattle.family.proofs.Lowest.{Lowest, lowest}
use Rattle.meaning.specs.Literal.{finished}
use Rattle.rule.specs.declared.Met.{Met}
use Rattle.rule.specs.Words.{shared, Tells, TellsNumber}
use Rattle.rule.proofs.Shared.{has, other_bit, shared_none, shared_bit}
use Rattle.rule.proofs.Words.{tells_and, tells_or, tells_same}

-- the sets that have an action
pub having_told : {a w r : ℕ} → Having a w r → Tells w r (λ set. finished set a)
having_told {a} {w} h = record { bits = λ i l. h.bits i l ∙ has (w * 64 + i) a }

-- a number that is one more where b holds
one_or_more : (n : ℕ) (b : Bool) → leb 1 n || b ≡ leb 1 (n + one b)
one_or_more zero true = refl
one_or_more zero false = refl
one_or_more (suc n) b = rw (le-leb 1 (suc n) (omega arith), le-leb 1 (suc n + one b) (omega arith))

two_or_more : (n : ℕ) (b : Bool) → leb 2 n || (leb 1 n && b) ≡ leb 2 (n + one b)
two_or_more zero true = refl
two_or_more zero false = refl
two_or_more (suc zero) true = refl
two_or_more (suc zero) false = refl
two_or_more (suc (suc n)) b = rw (le-leb 2 (suc (suc n)) (omega arith), le-leb 2 (suc (suc n) + one b) (omega arith))

tells_one_more : {w sets : ℕ} {r : Met} {number : ℕ → ℕ} {test : ℕ → Bool} → TellsNumber w r number → Tells w sets test
    → TellsNumber w (record { some = bit_or r.some sets; more = bit_or r.more (bit_and r.some sets) }) (λ set. number set + one (test set))
tells_one_more {w} {number} {test} h k = record {
  some = tells_same (λ i l. one_or_more (number (w * 64 + i)) (test (w * 64 + i))) (tells_or h.some k);
  more = tells_same (λ i l. two_or_more (number (w * 64 + i)) (test (w * 64 + i))) (tells_or h.more (tells_and h.some k));
}

pub record Gathered (mask w some more rest : ℕ) : Type 0 where
  pub passed : ℕ → ℕ
  pub told : TellsNumber w (record { some = some; more = more }) passed
  pub same : (set : ℕ) → shared set mask ≡ passed set + shared set rest

module _ {mask w : ℕ} where
  pub gathered_none : Gathered mask w 0 0 mask
  gathered_none = record {
    passed = λ set. 0;
    told = record { some = record { bits = λ i l. no_bit i }; more = record { bits = λ i l. no_bit i } };
    same = λ set. sym (zero-add (shared set mask));
  }

  module _ {some more rest : ℕ} (g : Gathered mask w some more rest) where
    -- the lowest action of the rest
    pub gathered_more : {sets : ℕ} → rest < 2 ^ 64 → ¬ (rest ≡ 0) → Having (count_trailing_zeros 64 rest) w sets
        → Gathered mask w (bit_or some sets) (bit_or more (bit_and some sets)) (bit_and rest (rest - 1))
    gathered_more fits nonempty h = record {
      passed = λ set. g.passed set + one (finished set low);
      told = tells_one_more g.told (having_told h);
      same = λ set. omega (arith, g.same set, parts set);
    }
      where
        low : ℕ
        low = count_trailing_zeros 64 rest

        others : ℕ
        others = bit_and rest (rest - 1)

        l : Lowest 64 rest low
        l = lowest 64 rest fits nonempty

        parts : (set : ℕ) → shared set rest ≡ shared set others + one (finished set low)
        parts set =
            let same : (i : ℕ) → ¬ (i ≡ low) → bit_at rest i ≡ bit_at others i
            = λ i d. ap (λ (n : ℕ). bit_at n i) (sym l.others) ∙ omega (arith, bit_or_lem (2 ^ low) others i, other_bit low i d) in
            let bits = rw l.without at (shared_bit set others rest low l.inside l.set same) in
            omega (arith, bits)

    pub gathered_all : rest ≡ 0 → TellsNumber w (record { some = some; more = more }) (λ set. shared set mask)
    gathered_all z = record {
      some = tells_same (λ i l. ap (leb 1) (all (w * 64 + i))) g.told.some;
      more = tells_same (λ i l. ap (leb 2) (all (w * 64 + i))) g.told.more;
    }
      where
        all : (set : ℕ) → g.passed set ≡ shared set mask
        all set = sym (g.same set ∙ ap (λ (n : ℕ). g.passed set + shared set n) z ∙ ap (λ (n : ℕ). g.passed set + n) (shared_none set) ∙ add-zero (g.passed set))
