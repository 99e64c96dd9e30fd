-- What is said to a line, by which text it is: it is read as what it is the text of, and the runner is asked accordingly.
use mathlib.Core.Path.{◌≡◌, refl}
use Rattle.std.specs.Prelude.{Option, Some, None}
use mathlib.Core.List.{List}
use Prim.Native.Nat.{ℕ}
use Rattle.job.specs.declared.Job.{Job}
use Rattle.state.specs.declared.Entry.{Entry}
use Rattle.session.specs.Line.{fresh_line, line_of, entry_in}
use Rattle.session.specs.Entries.{EntryText, TimedText}
use Rattle.session.specs.Session.{answered_to}
use Rattle.session.specs.Answers.{SaidNoEntry, AnswersEntries}
use Rattle.session.specs.declared.line.Given.{Given}
use Rattle.session.specs.declared.line.Given.TheVariants as given
use Rattle.job.proofs.Numbers.{one_answer}
use Rattle.session.proofs.Entries.{reads_entries}

other_line : (j : Job) (line : List ℕ) → ((e : Entry) → EntryText e line → ⊥) → ((e : Entry) (m : ℕ) → TimedText e m line → ⊥)
    → SaidNoEntry j (answered_to j (entry_in (line_of fresh_line line)))
other_line j line two three = go (entry_in (line_of fresh_line line)) refl
  where
    go : (f : Option Given) → entry_in (line_of fresh_line line) ≡ f → SaidNoEntry j (answered_to j f)
    go (Some (given.Entry e)) h = absurd (two e (reads_entries.only line e h))
    go (Some (given.Timed e m)) h = absurd (three e m (reads_entries.only_timed line e m h))
    go None h = (refl, refl)

pub answers_entries : AnswersEntries
answers_entries = record {
  entry = λ j t line e x. rw (reads_entries.each line e x, t) (refl, refl);
  three = λ j t line e m x. rw (reads_entries.each_timed line e m x, t) (refl, refl);
  timed_entry = λ j t line e m x. rw (reads_entries.each_timed line e m x, t) (refl, refl);
  two = λ j t line e x. rw (reads_entries.each line e x, t) (refl, refl);
  other = other_line;
  apart = one_answer;
}
