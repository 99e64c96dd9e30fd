-- The steps of the fast product: the actions of a set are added to every set of a word, a table of such words is made, and its words are
-- joined. Only the contracts of the private functions cite these; `Product` says what comes of them.
use Rattle.std.specs.Prelude.{◌≡◌, Bool, true, ◌⊎◌, List, ℕ, ◌+◌, ◌*◌, ◌^◌, ◌<◌, get_or}
use Rattle.std.specs.Int.Bits.{bit_or}
use Rattle.family.specs.Family.{bit_at, In, Single}

-- The answer is true just where the family has the empty set alone.
pub record TellsUnit (f : List ℕ) (answer : Bool) : Type 0 where
  pub sound : answer ≡ true → Single 0 f
  pub complete : Single 0 f → answer ≡ true

-- j is x with a bit of the word w.
pub record FromBit (w x j : ℕ) : Type 0 where
  pub bit : ℕ
  pub small : bit < 64
  pub on : bit_at w bit ≡ 1
  pub is : bit_or x bit ≡ j

-- The word r has the bits x | i of the bits i of w.
pub record Spread (w x r : ℕ) : Type 0 where
  pub sound : (j : ℕ) → j < 64 → bit_at r j ≡ 1 → FromBit w x j
  pub complete : (i : ℕ) → i < 64 → bit_at w i ≡ 1 → bit_at r (bit_or x i) ≡ 1

-- The table has the word w with x, for each x below n.
abbrev pub Spreads : ℕ → ℕ → List ℕ → Type 0
Spreads w n table = (x : ℕ) → x < n → Spread w x (get_or table x 0)

-- The table r has the words of s with x below 2 ^ k, and the same with action k.
pub record Doubled (s : List ℕ) (k : ℕ) (r : List ℕ) : Type 0 where
  pub kept : (x : ℕ) → x < 2 ^ k → get_or r x 0 ≡ get_or s x 0
  pub added : (x : ℕ) → x < 2 ^ k → Spread (get_or s x 0) (2 ^ k) (get_or r (2 ^ k + x) 0)

-- Bit j is in the word of the table at a bit of u.
pub record FromTable (u : ℕ) (table : List ℕ) (j : ℕ) : Type 0 where
  pub place : ℕ
  pub small : place < 64
  pub on : bit_at u place ≡ 1
  pub has : bit_at (get_or table place 0) j ≡ 1

-- The word r has the bits of the table's words at the bits of u below n.
pub record Picked (u : ℕ) (table : List ℕ) (n r : ℕ) : Type 0 where
  pub sound : (j : ℕ) → bit_at r j ≡ 1 → FromTable u table j
  pub complete : (x : ℕ) → x < n → bit_at u x ≡ 1 → (j : ℕ) → bit_at (get_or table x 0) j ≡ 1 → bit_at r j ≡ 1

-- t is the union of a set of a and a set of the word w, which is word i of a family.
pub record FromWord (a : List ℕ) (w i t : ℕ) : Type 0 where
  pub set : ℕ
  pub bit : ℕ
  pub in_left : In a set
  pub small : bit < 64
  pub on : bit_at w bit ≡ 1
  pub is : bit_or set (i * 64 + bit) ≡ t

-- The family n has the sets of r and these unions.
pub record Grown (a : List ℕ) (w i : ℕ) (r n : List ℕ) : Type 0 where
  pub sound : (t : ℕ) → In n t → In r t ⊎ FromWord a w i t
  pub keeps : (t : ℕ) → In r t → In n t
  pub complete : (s y : ℕ) → In a s → y < 64 → bit_at w y ≡ 1 → In n (bit_or s (i * 64 + y))
