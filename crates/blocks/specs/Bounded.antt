-- A test of every number below a bound, and a sum over them: what the checks of a file's contents are said with.
use Rattle.std.specs.Prelude.{Bool, true, false, cond, ℕ, zero, suc, ◌+◌}

-- p holds of each number below n
unfoldable pub every : ℕ → (ℕ → Bool) → Bool
every zero p = true
every (suc n) p = cond (p n) (every n p) false

-- the sum of g over the numbers below n
unfoldable pub total : ℕ → (ℕ → ℕ) → ℕ
total zero g = 0
total (suc n) g = g n + total n g

-- a test's answer as a term of such a sum
abbrev pub one : Bool → ℕ
one true = 1
one false = 0
