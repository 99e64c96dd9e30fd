-- A code: the statuses of a process level by level, of its forward run, of its undo's, of the undo's undo's, and so on, as far as it ran.
-- The papers' codes 0 to 6 are the numbers of the codes of at most two levels.
use Rattle.std.specs.Prelude.{List, [], ◌∷◌, map, ◌≡◌, refl, ℕ, zero, suc, ◌+◌}
use Rattle.process.specs.Process.{Status, ok, fail}

-- [] did not run; [ok] succeeded; [ok, fail] succeeded, and then its undo ran and failed; ..
abbrev pub Code : Type 0
Code = List Status

-- The codes of complete runs, with the run's status: the report's ⟦ ⟧. A process that succeeds drops its undo; one that fails runs it to
-- the end.
pub data Ends : Code → Status → Type 0 where
  ends_ok : Ends (ok ∷ []) ok
  ends_fail : {c : Code} {s : Status} → Ends c s → Ends (fail ∷ c) fail

-- How many codes have at most so many levels: 1, 3, 7, 15, ..
abbrev pub size : ℕ → ℕ
size zero = 1
size (suc n) = suc (size n + size n)

-- The number of a code at n levels, which does not look at the levels beyond. At two levels: 0 not run; 1, 2, 3 succeeded with undo not
-- run, succeeded, failed; 4, 5, 6 failed with the same.
abbrev pub number : ℕ → Code → ℕ
number zero c = 0
number (suc n) [] = 0
number (suc n) (ok ∷ c) = suc (number n c)
number (suc n) (fail ∷ c) = suc (size n + number n c)

seven_codes : map (number 2) ([] ∷ (ok ∷ []) ∷ (ok ∷ ok ∷ []) ∷ (ok ∷ fail ∷ []) ∷ (fail ∷ []) ∷ (fail ∷ ok ∷ []) ∷ (fail ∷ fail ∷ []) ∷ []) ≡ 0 ∷ 1 ∷ 2 ∷ 3 ∷ 4 ∷ 5 ∷ 6 ∷ []
seven_codes = refl

-- The numbers that are complete runs of a plan, with the run's status: the papers' 1, 5 and 6.
pub data Final : ℕ → Status → Type 0 where
  final_1 : Final 1 ok
  final_5 : Final 5 fail
  final_6 : Final 6 fail
