-- What a vector of the group `formulas` comes to: the number that it expects is held against that of the answer to its text; and where it is that
-- number, the bytes that it expects in the array against those that are there. `answer_of` is document 02's, of the crate `formula`.
use Rattle.std.specs.Prelude.{cond, List, ℕ, ◌+◌, ltb, length, drop, Ok, Err}
use Rattle.fields.specs.Number.{four_at}
use Rattle.formula.specs.Answer.{room, answer_of}
use Rattle.formula.specs.Numbers.{Answer, number}
use Rattle.vectors.specs.Outcome.{answer_held}
use Rattle.vectors.specs.declared.outcome.Outcome.{Outcome}
use Rattle.vectors.specs.declared.outcome.Outcome.TheVariants.{Damaged}

-- one number for an answer: how many postfix bytes, or 256 and the refusal's number
abbrev pub code_of : Answer → ℕ
code_of (Ok n) = n
code_of (Err r) = 256 + number r

-- The body's first four bytes are the number expected, the next 127 are the bytes expected in the array, the others are the text.
abbrev pub formulas_outcome : List ℕ → Outcome
formulas_outcome body = cond (ltb (length body) 131) Damaged (answer_held (four_at body 0) (code_of (answer_of (drop 131 body)).answer) room (answer_of (drop 131 body)).bytes body 4)
