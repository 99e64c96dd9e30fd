-- A runner's answer as the ten bytes that a vector of the groups `runs` and `hours` has for it: a number, the leaves that may come in eight bytes,
-- and the end. A refusal, which is its number here, has that and no leaves; what is told has the number 0.
use Rattle.std.specs.Prelude.{Bool, false, cond, List, ℕ, ◌+◌, eqb, get_or, Result, Ok, Err}
use Rattle.job.specs.Numbers.{end_number}
use Rattle.job.specs.declared.Told.{Told}
use Rattle.fields.specs.Number.{number_at}

-- the three of an answer: its number,
abbrev pub number_in : Result Told ℕ → ℕ
number_in (Ok t) = 0
number_in (Err n) = n

-- the leaves that may come,
abbrev pub next_in : Result Told ℕ → ℕ
next_in (Ok t) = t.next
next_in (Err n) = 0

-- and the end
abbrev pub end_in : Result Told ℕ → ℕ
end_in (Ok t) = end_number t.end
end_in (Err n) = 0

-- the answer's bytes stand at `at`
unfoldable pub is_answer : Result Told ℕ → List ℕ → ℕ → Bool
is_answer a s at =
    cond (eqb (number_in a) (get_or s at 0))
    (cond (eqb (next_in a) (number_at s (at + 1))) (eqb (end_in a) (get_or s (at + 9) 0)) false)
    false
