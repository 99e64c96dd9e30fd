-- The chart over the codes of suc n levels, for any n, with every code: it is exact for undos at most n deep. Document 01's chart is that of two levels, and the verdict's
-- is the settled part of that of three.
use Rattle.std.specs.Prelude.{List, [], ◌∷◌, map, ℕ, zero, suc}
use Rattle.process.specs.Process.{Status, ok, fail, Process}
use Rattle.outcomes.specs.Codes.{Code, Ends, size, number}
use Rattle.outcomes.specs.Sets.{Sets}
use Rattle.outcomes.specs.LevelCells.{cell_at}
use Rattle.outcomes.specs.Families.{Numbered, InFamilyBy}

-- The codes, up to n levels, of what runs nothing and succeeds: the undo of a leaf.
abbrev pub quiet_codes : ℕ → List Code
quiet_codes zero = [] ∷ []
quiet_codes (suc n) = [] ∷ map (λ c. ok ∷ c) (quiet_codes n)

-- The codes of a leaf with this outcome.
abbrev pub leaf_codes : ℕ → Status → List ℕ
leaf_codes n s = map (λ c. number (suc n) (s ∷ c)) (quiet_codes n)

abbrev pub any_levels : ℕ → Numbered
any_levels n = record { codes = size (suc n); finished = leaf_codes n ok; failed = leaf_codes n fail; cell_of = cell_at n }

-- The whole plan's sets: those under the numbers of codes that end.
abbrev pub InPlanAt : ℕ → (S : Sets) → Process → Status → S.Set → Type 0
InPlanAt n S P s X = (c : Code) × Ends c s × InFamilyBy (any_levels n) S P (number (suc n) c) X
