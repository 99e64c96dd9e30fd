-- What is said to a line as a whole, by which text it is and whether the session is timed. Session.antt's `AnswersLines` says that a line is answered
-- so once its newline has come, or the end of the input.
use Rattle.std.specs.Prelude.{true, false, List, ◌≡◌, ℕ}
use Rattle.job.specs.Job.{take_of}
use Rattle.job.specs.Job as job
use Rattle.job.specs.Numbers.{numbered}
use Rattle.job.specs.Timed.{take_timed_of}
use Rattle.job.specs.declared.Job.{Job}
use Rattle.job.specs.declared.Taken.{Taken}
use Rattle.state.specs.declared.Entry.{Entry}
use Rattle.session.specs.Line.{fresh_line, line_of, entry_in}
use Rattle.session.specs.Entries.{EntryText, TimedText}
use Rattle.session.specs.Session.{Heard, next_line, answered_to}
use Rattle.session.specs.declared.Say.TheVariants.{NotAnEntry, Answer}

-- the runner's answer is said, with the number in the place of a refusal, and the job that it hands back goes on
abbrev pub Said : Taken → Heard → Type 0
Said t h = (h.say ≡ Answer (numbered t.answer)) × (h.session ≡ next_line t.job)

-- `not an entry` is said, and the job goes on as it was
abbrev pub SaidNoEntry : Job → Heard → Type 0
SaidNoEntry j h = (h.say ≡ NotAnEntry) × (h.session ≡ next_line j)

pub record AnswersEntries : Type 0 where
  -- in an untimed session leaf and outcome are an entry, and leaf, outcome and minute are none
  pub entry : (j : Job) → j.timed ≡ false → (line : List ℕ) (e : Entry) → EntryText e line → Said (take_of j e) (answered_to j (entry_in (line_of fresh_line line)))
  pub three : (j : Job) → j.timed ≡ false → (line : List ℕ) (e : Entry) (m : ℕ) → TimedText e m line → SaidNoEntry j (answered_to j (entry_in (line_of fresh_line line)))
  -- in a timed session it is the other way
  pub timed_entry : (j : Job) → j.timed ≡ true → (line : List ℕ) (e : Entry) (m : ℕ) → TimedText e m line
      → Said (take_timed_of j e m) (answered_to j (entry_in (line_of fresh_line line)))
  pub two : (j : Job) → j.timed ≡ true → (line : List ℕ) (e : Entry) → EntryText e line → SaidNoEntry j (answered_to j (entry_in (line_of fresh_line line)))
  -- and any other line is no entry in either
  pub other : (j : Job) (line : List ℕ) → ((e : Entry) → EntryText e line → ⊥) → ((e : Entry) (m : ℕ) → TimedText e m line → ⊥)
      → SaidNoEntry j (answered_to j (entry_in (line_of fresh_line line)))
  -- what is said with a number in the place of a refusal is said of one answer of the runner alone
  pub apart : (a b : job.Answer) → numbered a ≡ numbered b → a ≡ b
