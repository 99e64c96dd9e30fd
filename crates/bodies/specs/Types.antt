-- Document 01, kind 1: "one byte for each action .. Type 1 always succeeds, 2 always fails, 3 may do either."
use Rattle.std.specs.Prelude.{Bool, false, cond, List, ℕ, ◌≤◌, ◌<◌, leb, length, get_or}
use Rattle.blocks.specs.Bounded.{every}

-- what the body may hold
abbrev pub Types : List ℕ → Type 0
Types b = (i : ℕ) → i < length b → (1 ≤ get_or b i 0) × (get_or b i 0 ≤ 3)

-- the test of it
abbrev pub is_type : ℕ → Bool
is_type t = cond (leb 1 t) (leb t 3) false

abbrev pub types_ok : List ℕ → Bool
types_ok b = every (length b) (λ i. is_type (get_or b i 0))
