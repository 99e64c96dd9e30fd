-- The chart as a table over the numbers of the codes of suc n levels, for any n: of two levels it is document 01's 245 cells, and the verdict's cells are those of three
-- that are settled.
use Rattle.std.specs.Prelude.{Bool, true, false, cond, [], ◌∷◌, ℕ, zero, suc}
use Rattle.process.specs.Process.{Status, ok, fail, Form, sequence, parallel, choice, compensation, handler}
use Rattle.outcomes.specs.Codes.{Code, size}
use Rattle.outcomes.specs.Joins.{code_of, joins, answer}

-- The code of a process of n levels below a level s: at most n levels; and where it failed at the last of them, one more, which succeeded.
abbrev pub within : ℕ → Status → Code → Bool
within zero ok [] = true
within zero ok (t ∷ c) = false
within zero fail [] = false
within zero fail (ok ∷ []) = true
within zero fail (ok ∷ t ∷ c) = false
within zero fail (fail ∷ c) = false
within (suc n) s [] = true
within (suc n) s (t ∷ c) = within n t c

-- The right side of a compensation has a level less than the node.
abbrev pub fitting : ℕ → Form → Code → Bool
fitting n sequence b = true
fitting n parallel b = true
fitting n choice b = true
fitting n compensation b = within n ok b
fitting n handler b = true

-- The number of a node's code from those of its sides; `size (suc n)`, which is no number of a code, where the two cannot occur.
unfoldable pub cell_at : ℕ → Form → ℕ → ℕ → ℕ
cell_at n f l r = cond (fitting n f (code_of (suc n) r)) (answer (suc n) (joins f n (code_of (suc n) l) (code_of (suc n) r))) (size (suc n))
