-- What becomes of a vector: it agrees only where what was found is what was expected.
use Rattle.std.specs.Prelude.{cond, List, ℕ, zero, suc, ◌+◌, eqb, get_or}
use Rattle.vectors.specs.declared.outcome.Outcome.{Outcome}
use Rattle.vectors.specs.declared.outcome.Outcome.TheVariants.{Agrees, Differs}

-- a number expected and a number found
abbrev pub held_against : ℕ → ℕ → Outcome
held_against expected found = cond (eqb expected found) Agrees (Differs expected found)

-- how many bytes from the start, of so many, are those of the body from `at` on
unfoldable pub alike : ℕ → ℕ → List ℕ → List ℕ → ℕ → ℕ
alike zero i shown body at = i
alike (suc m) i shown body at = cond (eqb (get_or shown i 0) (get_or body (at + i) 0)) (alike m (suc i) shown body at) i

-- a number and n bytes: where the number found is the one expected, the bytes shown are held against those of the body from `at` on
abbrev pub answer_held : ℕ → ℕ → ℕ → List ℕ → List ℕ → ℕ → Outcome
answer_held expected found n shown body at = cond (eqb expected found) (held_against n (alike n 0 shown body at)) (Differs expected found)
