-- Document 01, kind 2: undo pairs, "two bytes each, an action and its undo action", several of one action as document 02's N3 has it. Nothing here
-- depends on how many actions or pairs a file may have.
use Rattle.std.specs.Prelude.{Bool, true, false, not, ◌&&◌, cond, List, ◌≡◌, ℕ, ◌+◌, ◌*◌, ◌/◌, ◌≤◌, ◌<◌, ltb, leb, eqb, length, get_or}
use Rattle.blocks.specs.Bounded.{every, total, one}

abbrev pub pair_count : List ℕ → ℕ
pair_count b = length b / 2

-- the action of pair i, and its undo action
abbrev pub first : List ℕ → ℕ → ℕ
first b i = get_or b (2 * i) 0

abbrev pub second : List ℕ → ℕ → ℕ
second b i = get_or b (2 * i + 1) 0

-- pair i is of the action a and the undo u
abbrev pub is_pair : List ℕ → ℕ → ℕ → ℕ → Bool
is_pair b a u i = eqb (first b i) a && eqb (second b i) u

-- how many pairs the action a is first in
abbrev pub pairs_of : List ℕ → ℕ → ℕ
pairs_of b a = total (pair_count b) (λ i. one (eqb (first b i) a))

-- what the body may hold, for a plan of so many actions
pub record Pairs (actions : ℕ) (b : List ℕ) : Type 0 where
  -- the numbers are actions of the plan
  pub numbers : (i : ℕ) → i < pair_count b → (first b i < actions) × (second b i < actions)
  -- "An action may now be first in up to three pairs
  pub few : (a : ℕ) → pairs_of b a ≤ 3
  -- with different seconds": no pair stands twice
  pub different : (i j : ℕ) → i < pair_count b → j < pair_count b → first b i ≡ first b j → second b i ≡ second b j → i ≡ j
  -- "No action is first in one pair and second in any pair."
  pub apart : (i j : ℕ) → i < pair_count b → j < pair_count b → first b i ≡ second b j → ⊥

-- the test of it: pair i against pair j
abbrev pub apart_ok : ℕ → ℕ → ℕ → ℕ → ℕ → ℕ → Bool
apart_ok i fi si j fj sj = cond (eqb fi sj) false (cond (eqb i j) true (cond (eqb fi fj) (not (eqb si sj)) true))

abbrev pub pair_ok : ℕ → List ℕ → ℕ → Bool
pair_ok actions b i =
    cond (ltb (first b i) actions)
    (cond (ltb (second b i) actions)
    (cond (leb (pairs_of b (first b i)) 3) (every (pair_count b) (λ j. apart_ok i (first b i) (second b i) j (first b j) (second b j))) false)
    false)
    false

abbrev pub pairs_ok : ℕ → List ℕ → Bool
pairs_ok actions b = every (pair_count b) (λ i. pair_ok actions b i)
