-- The place of a composite's summary in the work area: how many composites stand before it. A leaf's summary is known from its node, and has no place.
use Rattle.std.specs.Prelude.{List, ℕ, leb}
use Rattle.blocks.specs.Bounded.{total, one}
use Rattle.nodes.specs.Nodes.{form}

abbrev pub composite : List ℕ → ℕ → ℕ
composite b k = one (leb 3 (form b k))

abbrev pub place : List ℕ → ℕ → ℕ
place b i = total i (composite b)

-- 63 nodes have at most so many: each composite names two nodes, and each node but the last is named once.
abbrev pub most_places : ℕ
most_places = 31
