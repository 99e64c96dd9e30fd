-- 64 sets at a time: bit i of a word speaks of the set 64 w + i.
use Rattle.std.specs.Prelude.{◌≡◌, Bool, ℕ, ◌+◌, ◌*◌, ◌<◌, leb, set}
use Rattle.blocks.specs.Bounded.{total, one}
use Rattle.family.specs.Family.{bit_at}
use Rattle.meaning.specs.declared.Value.{Value}
use Rattle.rule.specs.declared.Met.{Met}
use Rattle.rule.specs.declared.Values.{Values}

-- How many actions of the mask the set has.
unfoldable pub shared : ℕ → ℕ → ℕ
shared set mask = total 64 (λ a. bit_at set a * bit_at mask a)

-- The word tells the answer of the test at each of its sets.
pub record Tells (w r : ℕ) (test : ℕ → Bool) : Type 0 where
  pub bits : (i : ℕ) → i < 64 → bit_at r i ≡ one (test (w * 64 + i))

-- The two words tell where a number is one or more, and where it is more than one.
pub record TellsNumber (w : ℕ) (r : Met) (number : ℕ → ℕ) : Type 0 where
  pub some : Tells w r.some (λ set. leb 1 (number set))
  pub more : Tells w r.more (λ set. leb 2 (number set))

-- The two words tell the two values that a part has at each of the sets.
pub record TellsValues (w : ℕ) (r : Values) (v : ℕ → Value) : Type 0 where
  pub positives : Tells w r.positives (λ set. (v set).positive)
  pub negatives : Tells w r.negatives (λ set. (v set).negative)
