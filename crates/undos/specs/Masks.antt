-- The undo pairs as masks: for each action the number that has the bit of each of its undos. Only the contracts of this crate and of those that
-- test sets cite these; what a rule's value is, `satisfies` says.
use Rattle.std.specs.Prelude.{◌≡◌, cond, List, ℕ, zero, suc, ◌^◌, ◌<◌, eqb, ltb, get_or, set}
use Rattle.std.specs.Int.Bits.{bit_or}
use Rattle.bodies.specs.Pairs.{pair_count, first, second}

-- An action's bit in a set of 64 bits; none past 63.
abbrev pub bit : ℕ → ℕ
bit a = cond (ltb a 64) (2 ^ a) 0

-- The undo of pair i, where it is a pair of the action a.
abbrev pub undo_bit : List ℕ → ℕ → ℕ → ℕ
undo_bit pairs a i = cond (eqb (first pairs i) a) (bit (second pairs i)) 0

-- The undos of the action a in the first n pairs.
unfoldable pub undos_in : ℕ → List ℕ → ℕ → ℕ
undos_in zero pairs a = 0
undos_in (suc n) pairs a = bit_or (undos_in n pairs a) (undo_bit pairs a n)

-- The masks with an undo more.
abbrev pub with_undo : List ℕ → ℕ → ℕ → List ℕ
with_undo masks a undo = set masks a (bit_or (get_or masks a 0) (bit undo))

-- The masks are those of the pairs: one for each number that a byte can be.
pub record Masks (pairs masks : List ℕ) : Type 0 where
  pub undos : (a : ℕ) → a < 256 → get_or masks a 0 ≡ undos_in (pair_count pairs) pairs a

-- Every array of 64-bit words is the masks of some pairs: so a contract that holds "wherever the masks are those of the pairs", as that of
-- `rule::satisfying` does, fixes the answer for every array that is lent. The proof is `every_masks`.
abbrev pub EveryMasks : Type 0
EveryMasks = (masks : List ℕ) → ((a : ℕ) → get_or masks a 0 < 2 ^ 64) → (pairs : List ℕ) × Masks pairs masks
