-- Which lines are read as entries, and which as timed entries: a line is read as an entry exactly where it is leaf and outcome in decimal with
-- one blank between them, and as a timed entry exactly where it is leaf, outcome and minute in decimal with one blank between each two.
-- Read byte by byte, by Line.antt's definitions, it comes to this.
use Rattle.std.specs.Prelude.{List, ◌∷◌, ◌++◌, ◌≡◌, ℕ, ◌≤◌, Some}
use Rattle.text.specs.Decimal.{Decimal}
use Rattle.state.specs.declared.Entry.{Entry}
use Rattle.session.specs.Line.{fresh_line, line_of, entry_in}
use Rattle.session.specs.declared.line.Given.TheVariants as given

-- The text of an entry: two numbers that fit a byte, with one blank (32) between them.
pub record EntryText (e : Entry) (line : List ℕ) : Type 0 where
  pub leaf_text : List ℕ
  pub outcome_text : List ℕ
  pub leaf_decimal : Decimal e.leaf leaf_text
  pub leaf_fits : e.leaf ≤ 255
  pub outcome_decimal : Decimal e.outcome outcome_text
  pub outcome_fits : e.outcome ≤ 255
  pub parted : line ≡ leaf_text ++ (32 ∷ outcome_text)

-- The text of an entry with its minute m: two numbers that fit a byte and one that fits four, with one blank between each two.
pub record TimedText (e : Entry) (m : ℕ) (line : List ℕ) : Type 0 where
  pub leaf_text : List ℕ
  pub outcome_text : List ℕ
  pub minute_text : List ℕ
  pub leaf_decimal : Decimal e.leaf leaf_text
  pub leaf_fits : e.leaf ≤ 255
  pub outcome_decimal : Decimal e.outcome outcome_text
  pub outcome_fits : e.outcome ≤ 255
  pub minute_decimal : Decimal m minute_text
  pub minute_fits : m ≤ 4294967295
  pub parted : line ≡ leaf_text ++ (32 ∷ (outcome_text ++ (32 ∷ minute_text)))

pub record ReadsEntries : Type 0 where
  -- nothing that is not an entry is taken as one
  pub only : (line : List ℕ) (e : Entry) → entry_in (line_of fresh_line line) ≡ Some (given.Entry e) → EntryText e line
  -- and each entry is
  pub each : (line : List ℕ) (e : Entry) → EntryText e line → entry_in (line_of fresh_line line) ≡ Some (given.Entry e)
  -- nothing that is not a timed entry is taken as one
  pub only_timed : (line : List ℕ) (e : Entry) (m : ℕ) → entry_in (line_of fresh_line line) ≡ Some (given.Timed e m) → TimedText e m line
  -- and each timed entry is
  pub each_timed : (line : List ℕ) (e : Entry) (m : ℕ) → TimedText e m line → entry_in (line_of fresh_line line) ≡ Some (given.Timed e m)
