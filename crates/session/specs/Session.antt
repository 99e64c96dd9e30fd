-- What is said to the bytes of the input, one after the other: a newline ends a line, and each line is answered once, in its turn.
-- The answer to an entry is the runner's own, and the job that it hands back goes on.
use Rattle.std.specs.Prelude.{false, cond, List, [], ◌∷◌, ◌++◌, ◌⊎◌, ◌≡◌, ℕ, eqb, Option, Some, None}
use Rattle.job.specs.Job.{take_of}
use Rattle.job.specs.Numbers.{numbered}
use Rattle.job.specs.Timed.{take_timed_of}
use Rattle.state.specs.declared.Entry.{Entry}
use Rattle.job.specs.declared.Job.{Job}
use Rattle.job.specs.declared.Taken.{Taken}
use Rattle.session.specs.Line.{fresh_line, line_after, line_of, begun, entry_in}
use Rattle.session.specs.declared.line.Given.{Given}
use Rattle.session.specs.declared.line.Given.TheVariants as given
use Rattle.session.specs.declared.Session.{Session}
use Rattle.text.specs.Text.{ascii}
use Rattle.answers.specs.Lines.{answer_lines}
use Rattle.session.specs.declared.Say.{Say}
use Rattle.session.specs.declared.Say.TheVariants.{Nothing, NotAnEntry, Answer}

-- What is to be said after a byte, and the session that goes on.
pub record Heard : Type 0 where
  pub say : Say
  pub session : Session

-- The session at the start of a line.
abbrev pub next_line : Job → Session
next_line j = record { job = j; line = fresh_line }

abbrev pub silent : Session → Heard
silent s = record { say = Nothing; session = s }

-- The line is no entry: the job stays as it is.
abbrev pub heard_no_entry : Job → Heard
heard_no_entry j = record { say = NotAnEntry; session = next_line j }

-- The runner has answered, which is said with the number in the place of a refusal: the job that it hands back goes on.
abbrev pub heard_answer : Taken → Heard
heard_answer t = record { say = Answer (numbered t.answer); session = next_line t.job }

-- An entry without a minute goes to an untimed job; in a timed session it is no entry.
abbrev pub heard_entry : Job → Entry → Heard
heard_entry j e = cond j.timed (heard_no_entry j) (heard_answer (take_of j e))

-- One with a minute goes to a timed job; in an untimed session it is no entry.
abbrev pub heard_timed : Job → Entry → ℕ → Heard
heard_timed j e m = cond j.timed (heard_answer (take_timed_of j e m)) (heard_no_entry j)

abbrev pub answered_to : Job → Option Given → Heard
answered_to j (Some (given.Entry e)) = heard_entry j e
answered_to j (Some (given.Timed e m)) = heard_timed j e m
answered_to j None = heard_no_entry j

-- The line that has come is whole.
abbrev pub answered : Session → Heard
answered s = answered_to s.job (entry_in s.line)

-- One byte of input: a newline is 10.
abbrev pub heard_byte : Session → ℕ → Heard
heard_byte s b = cond (eqb b 10) (answered s) (silent (record { job = s.job; line = line_after s.line b }))

-- The session after some bytes of input.
unfoldable pub heard_all : Session → List ℕ → Session
heard_all s [] = s
heard_all s (b ∷ bs) = heard_all (heard_byte s b).session bs

-- The end of the input: it ends a line of which a byte has come.
abbrev pub heard_end : Session → Heard
heard_end s = cond (begun s.line) (answered s) (silent s)

-- What is written: nothing, the line `not an entry`, or the lines of the runner's answer.
abbrev pub say_lines : Say → List ℕ
say_lines Nothing = []
say_lines NotAnEntry = ascii "not an entry\n"
say_lines (Answer a) = answer_lines a

-- No byte of it is a newline.
abbrev pub OneLine : List ℕ → Type 0
OneLine [] = Unit {0}
OneLine (b ∷ bs) = (eqb b 10 ≡ false) × OneLine bs

-- A line and its newline, from the start of a line on: nothing is said before the newline, and then what the line as a whole is answered.
pub record AnswersLines : Type 0 where
  -- every input is one line, or begins with one and its newline
  pub lines : (input : List ℕ) → OneLine input ⊎ ((line : List ℕ) × (rest : List ℕ) × OneLine line × (input ≡ line ++ (10 ∷ rest)))
  pub quiet : (j : Job) (line : List ℕ) (b : ℕ) → eqb b 10 ≡ false → (heard_byte (heard_all (next_line j) line) b).say ≡ Nothing
  pub answer : (j : Job) (line : List ℕ) → OneLine line → heard_byte (heard_all (next_line j) line) 10 ≡ answered_to j (entry_in (line_of fresh_line line))
  -- the end of the input ends a line of which a byte has come, and no other
  pub last_line : (j : Job) (b : ℕ) (line : List ℕ) → OneLine (b ∷ line) → heard_end (heard_all (next_line j) (b ∷ line)) ≡ answered_to j (entry_in (line_of fresh_line (b ∷ line)))
  pub no_line : (j : Job) → heard_end (next_line j) ≡ silent (next_line j)
