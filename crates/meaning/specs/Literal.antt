-- Document 02, N3: "An action may now be first in up to three pairs with different seconds. Its positive value is "finished, and none of its
-- undos". Its negative value is "not finished and none", or "finished and exactly one"." `Laws.antt` has each of these cases.
use Rattle.std.specs.Prelude.{Bool, not, ◌&&◌, ◌||◌, List, ℕ, ◌/◌, ◌%◌, ◌^◌, eqb}
use Rattle.blocks.specs.Bounded.{every, total, one}
use Rattle.bodies.specs.Pairs.{pair_count, first, second, is_pair}
use Rattle.meaning.specs.declared.Value.{Value}

-- "An action counts as finished where its bit is in the set."
abbrev pub finished : ℕ → ℕ → Bool
finished set a = eqb (set / 2 ^ a % 2) 1

-- Pair i is a pair of the action a, and its undo is finished.
abbrev pub undone_by : List ℕ → ℕ → ℕ → ℕ → Bool
undone_by pairs set a i = eqb (first pairs i) a && finished set (second pairs i)

-- Pair i does not stand before: an undo counts once. In a plan no pair stands twice.
abbrev pub is_new : List ℕ → ℕ → Bool
is_new pairs i = every i (λ j. not (is_pair pairs (first pairs i) (second pairs i) j))

-- How many undos of the action a are finished.
abbrev pub undos_finished : List ℕ → ℕ → ℕ → ℕ
undos_finished pairs set a = total (pair_count pairs) (λ i. one (undone_by pairs set a i && is_new pairs i))

-- The two values, from whether the action is finished and how many of its undos are.
abbrev pub literal_of : Bool → ℕ → Value
literal_of a undos = record {
  positive = a && eqb undos 0;
  negative = (not a && eqb undos 0) || (a && eqb undos 1);
}

-- The two values of the action a at the set.
abbrev pub literal : List ℕ → ℕ → ℕ → Value
literal pairs set a = literal_of (finished set a) (undos_finished pairs set a)
