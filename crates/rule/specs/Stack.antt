-- The stack of a rule's values, 64 sets at a time: in 64 places, which are used in a round.
use Rattle.std.specs.Prelude.{◌≡◌, List, ℕ, ◌+◌, ◌-◌, ◌%◌, ◌≤◌, ◌<◌, length, get_or, set}
use Rattle.meaning.specs.declared.Value.{Value}
use Rattle.meaning.specs.Value as value
use Rattle.meaning.specs.Value.{neither, step}
use Rattle.undos.specs.Masks.{Masks}
use Rattle.rule.specs.declared.Values.{Values}
use Rattle.rule.specs.declared.stack.Stack.{Stack}
use Rattle.rule.specs.Words.{TellsValues}

-- The place of the value k below the last one: places are used in a round, so that a value more takes that of the oldest.
abbrev pub place : ℕ → ℕ → ℕ
place top k = (top + (64 - k)) % 64

-- What a place without a value holds.
abbrev pub nothing : Values
nothing = record { positives = 0; negatives = 0 }

abbrev pub last : Stack → Values
last s = get_or s.places s.top nothing

-- the stack without its last value
pub record Popped (s s' : Stack) : Type 0 where
  pub places : s'.places ≡ set s.places s.top nothing
  pub top : s'.top ≡ (s.top + 63) % 64

-- and with a value more
pub record Pushed (v : Values) (s s' : Stack) : Type 0 where
  pub places : s'.places ≡ set s.places ((s.top + 1) % 64) v
  pub top : s'.top ≡ (s.top + 1) % 64

-- The places hold the two values of each set's stack, the last value at `top`; a place without a value has nothing.
pub record Holds (w : ℕ) (s : Stack) (stacks : ℕ → List Value) : Type 0 where
  pub long : length s.places ≡ 64
  pub short : (set : ℕ) → length (stacks set) ≤ value.places
  pub told : (k : ℕ) → k < 64 → TellsValues w (get_or s.places (place s.top k) nothing) (λ set. get_or (stacks set) k neither)

-- What the byte t does: to each set's stack what `step` does.
pub record Stepped (masks : List ℕ) (w t : ℕ) (s s' : Stack) : Type 0 where
  pub steps : (pairs : List ℕ) (stacks : ℕ → List Value) → Masks pairs masks → Holds w s stacks → Holds w s' (λ set. step pairs set t (stacks set))
