-- A line is read as an entry, or as a timed one, exactly where it is that one's text. A line is parted at its first two blanks, as many of them
-- as it has, and each part is read as a number: so what the line is read as is known for lines of no blank, of one, and of two or more. In
-- each case the line is the text of what it is read as. The other way round, the texts of numbers have no blank, so a line is parted where
-- they were put together.
use mathlib.Core.Bool.{Bool, true, false, cond}
use Rattle.std.specs.Prelude.{Option, Some, None}
use mathlib.Core.List.{List, [], ◌∷◌, ◌++◌, append_assoc, append-nil}
use mathlib.Core.Path.{◌≡◌, refl, ap, ◌∙◌}
use Prim.Native.Nat.{ℕ, ◌+◌, ◌≤◌}
use native.Mathlib.Omega.{arith}
use lib.Dec.{ltb, eqb}
use borrow.Author.Tests.{eqb-true, ne_eqb, ltb-false, le-ltb}
use Rattle.text.specs.Decimal.{Decimal, digit, more}
use Rattle.state.specs.declared.Entry.{Entry}
use Rattle.session.specs.Line.{digit_after, fresh_line, line_after, line_of, entry_from, untimed_from, timed_from, entry_in}
use Rattle.session.specs.Entries.{EntryText, TimedText, ReadsEntries}
use Rattle.session.specs.declared.line.Number.{Number}
use Rattle.session.specs.declared.line.Number.TheVariants.{Unwritten, Is, Wrong}
use Rattle.session.specs.declared.line.Line.{Line}
use Rattle.session.specs.declared.line.Part.TheVariants.{Leaf, Outcome, Minute}
use Rattle.session.specs.declared.line.Given.{Given}
use Rattle.session.specs.declared.line.Given.TheVariants as given
use Rattle.session.proofs.Numbers.{digits, number_only, number_each}

-- no byte of it is a blank
abbrev NoBlank : List ℕ → Type 0
NoBlank [] = Unit {0}
NoBlank (b ∷ bs) = (eqb b 32 ≡ false) × NoBlank bs

no_blank_last : (bs : List ℕ) (b : ℕ) → NoBlank bs → eqb b 32 ≡ false → NoBlank (bs ++ (b ∷ []))
no_blank_last [] b h q = (q, tt)
no_blank_last (c ∷ bs) b h q = (h.0, no_blank_last bs b h.1 q)

digit_no_blank : (d : ℕ) → eqb (48 + d) 32 ≡ false
digit_no_blank d = ne_eqb (48 + d) 32 (λ h. omega arith)

decimal_no_blank : (n : ℕ) (t : List ℕ) → Decimal n t → NoBlank t
decimal_no_blank n t (digit d e) = rw e (digit_no_blank n, tt)
decimal_no_blank n t (more m d before pos less decimal value text) =
    rw text (no_blank_last before (48 + d) (decimal_no_blank m before decimal) (digit_no_blank d))

-- bytes up to their first blank, and what comes after it
data Parted (bs : List ℕ) : Type 0 where
  whole : NoBlank bs → Parted bs
  at_blank : (left right : List ℕ) → NoBlank left → bs ≡ left ++ (32 ∷ right) → Parted bs

parted_after : (b : ℕ) (bs : List ℕ) (blank : Bool) → eqb b 32 ≡ blank → Parted bs → Parted (b ∷ bs)
parted_after b bs true q p = at_blank [] bs tt (ap (λ (x : ℕ). x ∷ bs) (eqb-true b 32 q))
parted_after b bs false q (whole h) = whole (q, h)
parted_after b bs false q (at_blank left right h e) = at_blank (b ∷ left) right (q, h) (ap (λ (r : List ℕ). b ∷ r) e)

parted : (bs : List ℕ) → Parted bs
parted [] = whole tt
parted (b ∷ bs) = parted_after b bs (eqb b 32) refl (parted bs)

-- a line in its leaf, in its outcome, in its minute
abbrev in_leaf : Number → Line
in_leaf x = record { leaf = x; outcome = Unwritten; minute = Unwritten; part = Leaf }

abbrev in_outcome : Number → Number → Line
in_outcome x y = record { leaf = x; outcome = y; minute = Unwritten; part = Outcome }

abbrev in_minute : Number → Number → Number → Line
in_minute x y z = record { leaf = x; outcome = y; minute = z; part = Minute }

-- bytes that are no blanks go to the number at hand
module _ (at_hand : Number → Line) (step : (x : Number) (b : ℕ) → eqb b 32 ≡ false → line_after (at_hand x) b ≡ at_hand (digit_after x b)) where
  read_on : (x : Number) (bs rest : List ℕ) → NoBlank bs → line_of (at_hand x) (bs ++ rest) ≡ line_of (at_hand (digits x bs)) rest
  unfolding line_of digits
  read_on x [] rest h = refl
  read_on x (b ∷ bs) rest h = ap (λ (l : Line). line_of l (bs ++ rest)) (step x b h.0) ∙ read_on (digit_after x b) bs rest h.1

  read_out : (x : Number) (bs : List ℕ) → NoBlank bs → line_of (at_hand x) bs ≡ at_hand (digits x bs)
  unfolding line_of
  read_out x bs h = rw (append-nil bs) at (read_on x bs [] h)

leaf_step : (x : Number) (b : ℕ) → eqb b 32 ≡ false → line_after (in_leaf x) b ≡ in_leaf (digit_after x b)
leaf_step x b q = rw q

outcome_step : (x y : Number) (b : ℕ) → eqb b 32 ≡ false → line_after (in_outcome x y) b ≡ in_outcome x (digit_after y b)
outcome_step x y b q = rw q

-- and in the minute blanks do too
minute_read : (x y z : Number) (bs : List ℕ) → line_of (in_minute x y z) bs ≡ in_minute x y (digits z bs)
unfolding line_of digits
minute_read x y z [] = refl
minute_read x y z (b ∷ bs) = minute_read x y (digit_after z b) bs

-- what a line of one part is read as, of two, and of three
one_read : (l : List ℕ) → NoBlank l → entry_in (line_of fresh_line l) ≡ untimed_from (entry_from (digits Unwritten l) Unwritten)
one_read l h = rw (read_out in_leaf leaf_step Unwritten l h)

two_read : (l o : List ℕ) → NoBlank l → NoBlank o → entry_in (line_of fresh_line (l ++ (32 ∷ o))) ≡ untimed_from (entry_from (digits Unwritten l) (digits Unwritten o))
unfolding line_of
two_read l o h k =
    let x = digits Unwritten l in
    rw (read_on in_leaf leaf_step Unwritten l (32 ∷ o) h, read_out (in_outcome x) (outcome_step x) Unwritten o k)

three_read : (l o m : List ℕ) → NoBlank l → NoBlank o
    → entry_in (line_of fresh_line (l ++ (32 ∷ (o ++ (32 ∷ m))))) ≡ timed_from (entry_from (digits Unwritten l) (digits Unwritten o)) (digits Unwritten m)
unfolding line_of
three_read l o m h k =
    let x = digits Unwritten l in
    let y = digits Unwritten o in
    rw (
      read_on in_leaf leaf_step Unwritten l (32 ∷ (o ++ (32 ∷ m))) h,
      read_on (in_outcome x) (outcome_step x) Unwritten o (32 ∷ m) k,
      minute_read x y Unwritten m,
    )

-- the line is the text of the entry that is found
abbrev EntryTextOf : List ℕ → Option Entry → Type 0
EntryTextOf line (Some e) = EntryText e line
EntryTextOf line None = Unit {0}

-- and of what it gives
abbrev TextOf : List ℕ → Option Given → Type 0
TextOf line (Some (given.Entry e)) = EntryText e line
TextOf line (Some (given.Timed e m)) = TimedText e m line
TextOf line None = Unit {0}

untimed_text : (line : List ℕ) (x : Option Entry) → EntryTextOf line x → TextOf line (untimed_from x)
untimed_text line (Some e) h = h
untimed_text line None h = tt

one_text : (line : List ℕ) (x : Number) → TextOf line (untimed_from (entry_from x Unwritten))
one_text line Unwritten = tt
one_text line (Is n) = tt
one_text line Wrong = tt

fitting_text : (l o : List ℕ) (n k : ℕ) (n_large k_large : Bool) → ltb 255 n ≡ n_large → ltb 255 k ≡ k_large → Decimal n l → Decimal k o
    → EntryTextOf (l ++ (32 ∷ o)) (cond n_large None (cond k_large None (Some (record { leaf = n; outcome = k }))))
fitting_text l o n k true k_large e f d g = tt
fitting_text l o n k false true e f d g = tt
fitting_text l o n k false false e f d g = record {
  leaf_text = l;
  outcome_text = o;
  leaf_decimal = d;
  leaf_fits = ltb-false 255 n e;
  outcome_decimal = g;
  outcome_fits = ltb-false 255 k f;
  parted = refl;
}

two_text : (l o : List ℕ) (x y : Number) → digits Unwritten l ≡ x → digits Unwritten o ≡ y → EntryTextOf (l ++ (32 ∷ o)) (entry_from x y)
two_text l o (Is n) (Is k) e f = fitting_text l o n k (ltb 255 n) (ltb 255 k) refl refl (number_only l n e).0 (number_only o k f).0
two_text l o (Is n) Unwritten e f = tt
two_text l o (Is n) Wrong e f = tt
two_text l o Unwritten y e f = tt
two_text l o Wrong y e f = tt

-- an entry's text, a blank and a number
timed_text : (line m : List ℕ) (f : Option Entry) (z : Number) → EntryTextOf line f → digits Unwritten m ≡ z → TextOf (line ++ (32 ∷ m)) (timed_from f z)
timed_text line m (Some e) (Is n) x q =
    let (minute, minute_small) = number_only m n q in
    record {
      leaf_text = x.leaf_text;
      outcome_text = x.outcome_text;
      minute_text = m;
      leaf_decimal = x.leaf_decimal;
      leaf_fits = x.leaf_fits;
      outcome_decimal = x.outcome_decimal;
      outcome_fits = x.outcome_fits;
      minute_decimal = minute;
      minute_fits = minute_small;
      parted = rw x.parted (append_assoc x.leaf_text (32 ∷ x.outcome_text) (32 ∷ m));
    }
timed_text line m (Some e) Unwritten x q = tt
timed_text line m (Some e) Wrong x q = tt
timed_text line m None z x q = tt

-- each line is the text of what it is read as
after_leaf : (l rest : List ℕ) → NoBlank l → Parted rest → TextOf (l ++ (32 ∷ rest)) (entry_in (line_of fresh_line (l ++ (32 ∷ rest))))
after_leaf l rest h (whole k) = rw (two_read l rest h k) (untimed_text (l ++ (32 ∷ rest)) _ (two_text l rest (digits Unwritten l) (digits Unwritten rest) refl refl))
after_leaf l rest h (at_blank o m k e) =
    let x = digits Unwritten l in
    let y = digits Unwritten o in
    let t = timed_text (l ++ (32 ∷ o)) m (entry_from x y) (digits Unwritten m) (two_text l o x y refl refl) refl in
    rw (e, three_read l o m h k) (rw (append_assoc l (32 ∷ o) (32 ∷ m)) at t)

text_at : (line : List ℕ) → Parted line → TextOf line (entry_in (line_of fresh_line line))
text_at line (whole h) = rw (one_read line h) (one_text line (digits Unwritten line))
text_at line (at_blank l rest h e) = rw e (after_leaf l rest h (parted rest))

text_read : (line : List ℕ) (f : Option Given) → entry_in (line_of fresh_line line) ≡ f → TextOf line f
text_read line f h = rw h at (text_at line (parted line))

-- the numbers of an entry's text are read as that entry
entry_each : (e : Entry) (l o : List ℕ) → Decimal e.leaf l → e.leaf ≤ 255 → Decimal e.outcome o → e.outcome ≤ 255
    → entry_from (digits Unwritten l) (digits Unwritten o) ≡ Some e
entry_each e l o leaf leaf_fits outcome outcome_fits =
    let x = number_each e.leaf l (omega arith) leaf in
    let y = number_each e.outcome o (omega arith) outcome in
    rw (x, y, le-ltb 255 e.leaf leaf_fits, le-ltb 255 e.outcome outcome_fits)

two_each : (line : List ℕ) (e : Entry) → EntryText e line → entry_in (line_of fresh_line line) ≡ Some (given.Entry e)
two_each line e x =
    let h = decimal_no_blank e.leaf x.leaf_text x.leaf_decimal in
    let k = decimal_no_blank e.outcome x.outcome_text x.outcome_decimal in
    let entry = entry_each e x.leaf_text x.outcome_text x.leaf_decimal x.leaf_fits x.outcome_decimal x.outcome_fits in
    rw (x.parted, two_read x.leaf_text x.outcome_text h k, entry)

three_each : (line : List ℕ) (e : Entry) (m : ℕ) → TimedText e m line → entry_in (line_of fresh_line line) ≡ Some (given.Timed e m)
three_each line e m x =
    let h = decimal_no_blank e.leaf x.leaf_text x.leaf_decimal in
    let k = decimal_no_blank e.outcome x.outcome_text x.outcome_decimal in
    let entry = entry_each e x.leaf_text x.outcome_text x.leaf_decimal x.leaf_fits x.outcome_decimal x.outcome_fits in
    let minute = number_each m x.minute_text x.minute_fits x.minute_decimal in
    rw (x.parted, three_read x.leaf_text x.outcome_text x.minute_text h k, entry, minute)

pub reads_entries : ReadsEntries
reads_entries =
    record {
      only = λ line e h. text_read line (Some (given.Entry e)) h;
      each = two_each;
      only_timed = λ line e m h. text_read line (Some (given.Timed e m)) h;
      each_timed = three_each;
    }
