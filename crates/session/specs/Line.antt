-- Which lines are entries: leaf and outcome in decimal with one blank between them, each a number up to 255. Which are timed entries: leaf,
-- outcome and minute, one blank between each two, the minute a number up to 4294967295. A number is its digits alone, with no zero before
-- another digit. The definitions read a line byte by byte; Entries.antt says which lines those are that they read as one or the other.
use Rattle.std.specs.Prelude.{Bool, true, false, cond, List, [], ◌∷◌, ℕ, ◌+◌, ◌-◌, ◌*◌, ltb, eqb, Option, Some, None}
use Rattle.session.specs.declared.line.Number.{Number}
use Rattle.session.specs.declared.line.Number.TheVariants.{Unwritten, Is, Wrong}
use Rattle.session.specs.declared.line.Part.{Part}
use Rattle.session.specs.declared.line.Part.TheVariants.{Leaf, Outcome, Minute}
use Rattle.session.specs.declared.line.Line.{Line}
use Rattle.state.specs.declared.Entry.{Entry}
use Rattle.session.specs.declared.line.Given.{Given}
use Rattle.session.specs.declared.line.Given.TheVariants as given

-- The largest number that is read.
abbrev pub largest : ℕ
largest = 4294967295

-- A number after one byte more: the byte is a digit (48 to 57), the number so far is not 0, and the new one is not above the largest.
abbrev pub digit_after : Number → ℕ → Number
digit_after Unwritten b = cond (ltb b 48) Wrong (cond (ltb 57 b) Wrong (Is (b - 48)))
digit_after (Is n) b =
    cond (eqb n 0) Wrong
    (cond (ltb b 48) Wrong (cond (ltb 57 b) Wrong (cond (ltb largest (10 * n + (b - 48))) Wrong (Is (10 * n + (b - 48))))))
digit_after Wrong b = Wrong

-- The part that a line has come to after n blanks: each blank after the second is one more byte of the minute.
abbrev pub part_of : ℕ → Part
part_of n = cond (eqb n 0) Leaf (cond (eqb n 1) Outcome Minute)

-- A line of which no byte has come.
abbrev pub fresh_line : Line
fresh_line = record { leaf = Unwritten; outcome = Unwritten; minute = Unwritten; part = Leaf }

-- A line after one byte more: the first blank (32) parts the leaf from the outcome, the second the outcome from the minute.
abbrev pub after_in : Part → Line → ℕ → Line
after_in Leaf l b =
    cond (eqb b 32) (record { leaf = l.leaf; outcome = l.outcome; minute = l.minute; part = Outcome })
    (record { leaf = digit_after l.leaf b; outcome = l.outcome; minute = l.minute; part = Leaf })
after_in Outcome l b =
    cond (eqb b 32) (record { leaf = l.leaf; outcome = l.outcome; minute = l.minute; part = Minute })
    (record { leaf = l.leaf; outcome = digit_after l.outcome b; minute = l.minute; part = Outcome })
after_in Minute l b = record { leaf = l.leaf; outcome = l.outcome; minute = digit_after l.minute b; part = Minute }

abbrev pub line_after : Line → ℕ → Line
line_after l b = after_in l.part l b

-- A line after some bytes more.
unfoldable pub line_of : Line → List ℕ → Line
line_of l [] = l
line_of l (b ∷ bs) = line_of (line_after l b) bs

-- Has a byte of the line come?
abbrev pub begun_with : Number → Part → Bool
begun_with Unwritten Leaf = false
begun_with Unwritten Outcome = true
begun_with Unwritten Minute = true
begun_with (Is n) part = true
begun_with Wrong part = true

abbrev pub begun : Line → Bool
begun l = begun_with l.leaf l.part

-- The number that all the digits are the text of, and the same where it fits a byte.
abbrev pub value_of : Number → Option ℕ
value_of Unwritten = None
value_of (Is n) = Some n
value_of Wrong = None

abbrev pub byte_of : Number → Option ℕ
byte_of Unwritten = None
byte_of (Is n) = cond (ltb 255 n) None (Some n)
byte_of Wrong = None

-- The entry of two numbers that fit a byte each.
abbrev pub entry_with : ℕ → ℕ → Option Entry
entry_with n o = cond (ltb 255 n) None (cond (ltb 255 o) None (Some (record { leaf = n; outcome = o })))

abbrev pub entry_from : Number → Number → Option Entry
entry_from (Is n) (Is o) = entry_with n o
entry_from (Is n) Unwritten = None
entry_from (Is n) Wrong = None
entry_from Unwritten o = None
entry_from Wrong o = None

-- The entry alone.
abbrev pub untimed_from : Option Entry → Option Given
untimed_from (Some e) = Some (given.Entry e)
untimed_from None = None

-- The entry with its minute.
abbrev pub timed_from : Option Entry → Number → Option Given
timed_from (Some e) (Is m) = Some (given.Timed e m)
timed_from (Some e) Unwritten = None
timed_from (Some e) Wrong = None
timed_from None m = None

-- What a line gives, once all its bytes have come: an entry, and a timed one where two blanks have parted its numbers.
abbrev pub given_in : Part → Line → Option Given
given_in Leaf l = untimed_from (entry_from l.leaf l.outcome)
given_in Outcome l = untimed_from (entry_from l.leaf l.outcome)
given_in Minute l = timed_from (entry_from l.leaf l.outcome) l.minute

abbrev pub entry_in : Line → Option Given
entry_in l = given_in l.part l
