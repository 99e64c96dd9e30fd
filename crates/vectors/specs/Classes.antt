-- What a vector of the group `classes` comes to: the number that it expects is held against that of the call on its input, with a work area of the
-- size due or, where it says so, a byte shorter; and where it is that number, the bytes that it expects in the answer area, which was lent full of
-- the byte 170, against those that are there: so a byte that must become 0 is seen, and one that must stay.
use Rattle.std.specs.Prelude.{cond, List, ℕ, ◌+◌, ◌-◌, ◌%◌, ltb, length, get_or, drop, replicate, Result}
use Rattle.blocks.specs.Block.{le16}
use Rattle.judge.specs.Verdict.{work_size}
use Rattle.class.specs.Outcome.{code_of}
use Rattle.class.specs.Computed.{call_of, answer_of, area_of}
use Rattle.class.specs.declared.Refusal.{Refusal}
use Rattle.fields.specs.Number.{four_at}
use Rattle.vectors.specs.Outcome.{answer_held}
use Rattle.vectors.specs.declared.outcome.Outcome.{Outcome}
use Rattle.vectors.specs.declared.outcome.Outcome.TheVariants.{Damaged}

-- at most seventeen places are lent
abbrev pub most_lent : ℕ
most_lent = 2210

abbrev pub area_lent : List ℕ → ℕ
area_lent body = le16 body 5

-- The call of a body, with an answer area of n bytes and a work area of so many or one less: why it is refused, or the files.
abbrev pub call_in : List ℕ → ℕ → ℕ → Result (List (List ℕ)) Refusal
call_in body n work = call_of (drop (7 + n) body) (work - get_or body 4 0 % 2) n

abbrev pub held_in : List ℕ → ℕ → ℕ → List ℕ → Outcome
held_in body n work old = answer_held (four_at body 0) (code_of (answer_of (call_in body n work))) n (area_of (call_in body n work) old) body 7

-- The body's first four bytes are the number expected, the fifth is odd where the work area is short, the next two are the length of the answer area; then the bytes
-- expected there, and the input.
abbrev pub classes_outcome : List ℕ → Outcome
classes_outcome body =
    cond (ltb most_lent (area_lent body))
    Damaged
    (cond (ltb (length body) (7 + area_lent body)) Damaged (held_in body (area_lent body) work_size (replicate (area_lent body) 170)))
