-- Interleavings of runs, the report's p ⋈ q: a run is one of itself and of nothing, one after the other is one, the sides may change places, and two
-- are put end to end.
use mathlib.Core.List.{[], ◌∷◌, ◌++◌}
use Rattle.process.specs.Process.{Run}
use Rattle.process.specs.Figure2.{Interleaving, neither, from_left, from_right}

pub left_alone : (p : Run) → Interleaving p [] p
left_alone [] = neither
left_alone (e ∷ p) = from_left (left_alone p)

pub right_alone : (q : Run) → Interleaving [] q q
right_alone [] = neither
right_alone (e ∷ q) = from_right (right_alone q)

pub in_turn : (p q : Run) → Interleaving p q (p ++ q)
in_turn [] q = right_alone q
in_turn (e ∷ p) q = from_left (in_turn p q)

pub swap : {p q r : Run} → Interleaving p q r → Interleaving q p r
swap neither = neither
swap (from_left i) = from_right (swap i)
swap (from_right i) = from_left (swap i)

pub end_to_end : {p q r p' q' r' : Run} → Interleaving p q r → Interleaving p' q' r' → Interleaving (p ++ p') (q ++ q') (r ++ r')
end_to_end neither j = j
end_to_end (from_left i) j = from_left (end_to_end i j)
end_to_end (from_right i) j = from_right (end_to_end i j)
