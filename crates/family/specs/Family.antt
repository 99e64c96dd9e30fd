-- A family of action sets: document 01's "sixteen 64-bit words, one bit for each of 1,024 action sets". What is promised of each
-- operation on families, in both directions: what is in the result, and that nothing else is.
use Rattle.std.specs.Prelude.{◌≡◌, Bool, true, ◌⊎◌, List, ℕ, ◌+◌, ◌*◌, ◌/◌, ◌%◌, ◌^◌, ◌<◌, get_or}

-- Bit i of a number: 0 or 1.
abbrev pub bit_at : ℕ → ℕ → ℕ
bit_at n i = n / 2 ^ i % 2

-- The bit of the action set s: bit s % 64 of word s / 64.
abbrev pub has_at : List ℕ → ℕ → ℕ
has_at words s = bit_at (get_or words (s / 64) 0) (s % 64)

-- The action set s is in the family. Sixteen words have none at 1,024 or above.
abbrev pub In : List ℕ → ℕ → Type 0
In words s = has_at words s ≡ 1

-- r has no set.
abbrev pub Empty : List ℕ → Type 0
Empty r = (t : ℕ) → ¬ In r t

-- r has the set s and no other; and none where s is no action set.
pub record Single (s : ℕ) (r : List ℕ) : Type 0 where
  pub sound : (t : ℕ) → In r t → (t ≡ s) × (s < 1024)
  pub complete : s < 1024 → In r s

-- r has the sets of a and those of b.
pub record Joined (a b r : List ℕ) : Type 0 where
  pub sound : (t : ℕ) → In r t → In a t ⊎ In b t
  pub left : (t : ℕ) → In a t → In r t
  pub right : (t : ℕ) → In b t → In r t

-- The answer is true just where the family has no set.
pub record TellsEmpty (f : List ℕ) (answer : Bool) : Type 0 where
  pub sound : answer ≡ true → Empty f
  pub complete : Empty f → answer ≡ true

-- r is word w of the family of the sets that have the action: bit i is the action's in the set 64 w + i.
pub record Having (action w r : ℕ) : Type 0 where
  pub bits : (i : ℕ) → i < 64 → bit_at r i ≡ bit_at (w * 64 + i) action
