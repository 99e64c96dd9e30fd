-- Which left codes have a part in which code of a node: so that only those are looked at. A mark is a bit, whose place is a code. Only the contracts of private functions
-- cite these; a mark too many would cost time and change no result.
use Rattle.std.specs.Prelude.{◌≡◌, List, ℕ, suc, ◌<◌, get_or}
use Rattle.family.specs.Family.{bit_at, In}
use Rattle.outcomes.specs.Rows.{row_in, digit_of}
use Rattle.summary.specs.declared.Summary.{Summary}
use Rattle.summary.specs.Summary.{family_of}

-- Every code with sets is marked.
abbrev pub Live : Summary → ℕ → Type 0
Live s m = (code t : ℕ) → In (family_of s code) t → bit_at m code ≡ 1

-- In r is what was in m, and the left code under each digit of the row that stands at a marked right code.
pub record Marked (m : List ℕ) (row rights left : ℕ) (r : List ℕ) : Type 0 where
  pub keeps : (d i : ℕ) → bit_at (get_or m d 0) i ≡ 1 → bit_at (get_or r d 0) i ≡ 1
  pub adds : (right c : ℕ) → bit_at rights right ≡ 1 → digit_of row right ≡ suc c → bit_at (get_or r (suc c) 0) left ≡ 1

-- The marked left codes below n are in r, under each digit of their rows that stands at a marked right code.
abbrev pub Marks : List ℕ → ℕ → ℕ → ℕ → ℕ → List ℕ → Type 0
Marks table form lefts rights n r = (left : ℕ) → left < n → bit_at lefts left ≡ 1 → (right c : ℕ) → bit_at rights right ≡ 1 → digit_of (row_in table form left) right ≡ suc c → bit_at (get_or r (suc c) 0) left ≡ 1

-- Every left code that with some right code gives this code, both with sets, is marked.
abbrev pub Among : (ℕ → ℕ → ℕ) → ℕ → Summary → Summary → ℕ → Type 0
Among cells code a b m = (left right x y : ℕ) → cells left right ≡ code → In (family_of a left) x → In (family_of b right) y → bit_at m left ≡ 1

-- Of a node's marks, those at the digit of each code.
abbrev pub MarkedAmong : (ℕ → ℕ → ℕ) → Summary → Summary → List ℕ → Type 0
MarkedAmong cells a b marks = (code : ℕ) → code < 15 → Among cells code a b (get_or marks (suc code) 0)
