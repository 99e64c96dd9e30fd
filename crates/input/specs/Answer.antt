-- What reading says of itself: how the count goes together with the buffer, and with a failure. Which bytes came, and whether a call of
-- the system failed, no contract can say: they come from outside.
use Rattle.std.specs.Prelude.{List, Result, Ok, Err, IfErr, ◌≡◌, ℕ, ◌≤◌, ◌<◌, min, length}
use Rattle.io.specs.Counts.{IsPrefixLen}
use Rattle.input.specs.declared.Unread.{Unread}
use Rattle.std.specs.declared.io.Error.{Error}

-- how many bytes came, those before a failure too
abbrev pub count_of : Result ℕ Unread → ℕ
count_of (Ok n) = n
count_of (Err e) = e.count

-- the answer to a read into `room` bytes, from what the call gave: a read that failed has put none there
abbrev pub answer_of : Result ℕ Error → ℕ → Result ℕ Unread
answer_of (Ok n) room = Ok (min n room)
answer_of (Err e) room = Err (record { count = 0; why = e })

-- one read into `room` bytes
pub record OneRead (room : ℕ) (r : Result ℕ Unread) : Type 0 where
  pub most : count_of r ≤ room
  pub none : IfErr r (λ e. e.count ≡ 0)

-- `buffer` is what the buffer holds after it was filled
pub record Fills (buffer : List ℕ) (r : Result ℕ Unread) : Type 0 where
  -- the count is of bytes at the start of the buffer
  pub within : IsPrefixLen (count_of r) buffer
  -- where all are there, nothing has failed
  pub short : IfErr r (λ e. e.count < length buffer)
