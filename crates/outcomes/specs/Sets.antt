-- The set of a run: the union of what its entries add. A finished leaf adds its own set, a failed one adds nothing.
-- Sets are of any kind with a union; the product's are numbers whose bit a stands for the action a.
use Rattle.std.specs.Prelude.{[], ◌∷◌, ◌≡◌, ℕ}
use Rattle.std.specs.Int.Bits.{bit_or}
use Rattle.process.specs.Process.{Status, ok, fail, Process, Entry, entry, Run}
use Rattle.process.specs.Figure2.{Complete}

-- Sets with their union, and the set that a leaf adds when it finishes, by the leaf's node number.
pub record Sets : Type 1 where
  pub Set : Type 0
  pub empty : Set
  pub union : Set → Set → Set
  pub single : ℕ → Set

-- The laws of union that the chart needs: a commutative monoid.
pub record Lawful (S : Sets) : Type 0 where
  pub empty_union : (A : S.Set) → S.union S.empty A ≡ A
  pub union_comm : (A B : S.Set) → S.union A B ≡ S.union B A
  pub union_assoc : (A B C : S.Set) → S.union (S.union A B) C ≡ S.union A (S.union B C)

-- Document 01's action sets: numbers and bitwise or. `single n` is 2 ^ a where the leaf n is the action a, and 0 where it is a skip.
abbrev pub numbers : (ℕ → ℕ) → Sets
numbers single = record { Set = ℕ; empty = 0; union = bit_or; single = single }

module _ (S : Sets) where
  -- What an entry adds: document 01's "each action that finished".
  abbrev pub added : Entry → S.Set
  added (entry n ok) = S.single n
  added (entry n fail) = S.empty

  -- A run's set.
  abbrev pub set_of : Run → S.Set
  set_of [] = S.empty
  set_of (e ∷ r) = S.union (added e) (set_of r)

  -- Some complete run of P with the status s leaves the set X: the report's execs(P).
  abbrev pub Leaves : Process → Status → S.Set → Type 0
  Leaves P s X = (r : Run) × Complete P r s × (set_of r ≡ X)
