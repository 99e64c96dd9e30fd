-- What is said of a place has room in a text: of a run of 126 bytes there are at most 63 cells, of at most 8 bytes each, and a line has as many bytes as a
-- cell with its blank.
use mathlib.Core.Path.{◌≡◌}
use mathlib.Core.Bool.{Bool, true, false, cond}
use mathlib.Core.List.{List, [], ◌∷◌, ◌++◌}
use Prim.Native.Nat.{ℕ, suc, ◌+◌, ◌*◌, ◌≤◌, ◌<◌}
use native.Mathlib.Omega.{arith}
use lib.Dec.{eqb}
use lib.ListN.{length, drop, length-append, length-drop}
use lib.Seq.{length-take-le, get_or-take, get_or-drop}
use borrow.Author.Tests.{ne_eqb}
use Rattle.text.specs.Decimal.{decimal}
use Rattle.text.specs.Lines.{line, numbered, refused}
use Rattle.text.specs.Text.{ascii}
use Rattle.text.proofs.Decimals.{decimal_of_byte, decimal_length}
use Rattle.text.proofs.Ends.{numbered_length, numbered_short}
use Rattle.state.specs.declared.Entry.{Entry}
use Rattle.judge.specs.Shown.{shown_entries}
use Rattle.std.specs.Prelude.{Result, Ok, Err}
use Rattle.judge.specs.declared.Judgement.{Judgement}
use Rattle.judge.specs.declared.Judgement.TheVariants.{Consistent, Violated}
use Rattle.report.specs.Lines.{entry_lines, run_lines, told_lines, violated}
use Rattle.report.proofs.Lengths.{Bytes}
use Rattle.place.specs.Place.{place_size}
use Rattle.sheet.specs.Said.{judgement_in, run_in}
use Rattle.sheet.specs.Lines.{plan_line, plan_lines}
use Rattle.sheet.specs.Row.{word, number, gap, cell, cells, entries, row_of, row_after_name}

gap_length : (first : Bool) → length {A = ℕ} (cond first [] (32 ∷ [])) ≤ 1
gap_length true = omega arith
gap_length false = omega arith

cell_length : (i leaf outcome : ℕ) → leaf < 256 → outcome < 256 → length (cell i leaf outcome) ≤ 8
cell_length i leaf outcome h k =
    rw (length-append (gap i) (decimal leaf ++ (58 ∷ decimal outcome)), length-append (decimal leaf) (58 ∷ decimal outcome))
    (omega (arith, gap_length (eqb i 0), decimal_of_byte leaf (omega arith), decimal_of_byte outcome (omega arith)))

one_more : (stop : Bool) (i leaf outcome m : ℕ) (es : List Entry) → leaf < 256 → outcome < 256 → length (cells (i + 1) es) ≤ m
    → length (cells i (cond stop [] (record { leaf = leaf; outcome = outcome } ∷ es))) ≤ 8 + m
unfolding cells
one_more true i leaf outcome m es h k l = omega arith
one_more false i leaf outcome m es h k l = rw (length-append (cell i leaf outcome) (cells (i + 1) es)) (omega (arith, cell_length i leaf outcome h k))

cells_length : (run : List ℕ) → Bytes run → (i : ℕ) → length (cells i (shown_entries run)) ≤ 4 * length run
unfolding shown_entries cells
cells_length [] h i = omega arith
cells_length (a ∷ []) h i = omega arith
cells_length (a ∷ b ∷ run) h i =
    let rest = cells_length run (λ k l. h (suc (suc k)) (omega arith)) (i + 1) in
    let all = one_more (eqb b 0) i a b (4 * length run) (shown_entries run) (h 0 (omega arith)) (h 1 (omega arith)) rest in
    omega arith

-- the lines have as many bytes as the cells after another
line_length : (i leaf outcome : ℕ) → length (numbered (decimal leaf) outcome) ≡ length (cell (i + 1) leaf outcome)
line_length i leaf outcome =
    rw (numbered_length (decimal leaf) outcome, ne_eqb (i + 1) 0 (λ e. omega arith), length-append (decimal leaf) (58 ∷ decimal outcome)) (omega arith)

lines_length : (i : ℕ) (es : List Entry) → length (entry_lines es) ≡ length (cells (i + 1) es)
unfolding entry_lines cells
lines_length i [] = omega arith
lines_length i (e ∷ es) =
    rw (length-append (numbered (decimal e.leaf) e.outcome) (entry_lines es), length-append (cell (i + 1) e.leaf e.outcome) (cells (i + 1 + 1) es))
    (omega (arith, line_length i e.leaf e.outcome, lines_length (i + 1) es))

verdict_length : (v : Result Judgement ℕ) (run : List ℕ) → length run ≡ 126 → Bytes run → length (told_lines v run) ≤ 536
verdict_length (Ok Consistent) run e h = omega arith
verdict_length (Ok (Violated set)) run e h =
    rw (length-append (numbered violated set) (run_lines run))
    (omega (arith, numbered_short violated set (omega arith), lines_length 0 (shown_entries run), cells_length run h 1))
verdict_length (Err n) run e h = omega (arith, numbered_short refused n (omega arith))

entries_length : (v : Result Judgement ℕ) (run : List ℕ) → length run ≡ 126 → Bytes run → length (entries v run) ≤ 504
entries_length (Ok Consistent) run e h = omega arith
entries_length (Ok (Violated set)) run e h = omega (arith, cells_length run h 0)
entries_length (Err n) run e h = omega arith

word_length : (v : Result Judgement ℕ) → length (word v) ≤ 10
word_length (Ok Consistent) = omega arith
word_length (Ok (Violated set)) = omega arith
word_length (Err n) = omega arith

number_length : (v : Result Judgement ℕ) → length (number v) ≤ 20
number_length (Ok Consistent) = omega arith
number_length (Ok (Violated set)) = decimal_length set
number_length (Err n) = decimal_length n

row_length : (v : Result Judgement ℕ) (run : List ℕ) → length run ≡ 126 → Bytes run → length (row_of v run) ≤ 640
row_length v run e h =
    rw (length-append (word v) (9 ∷ (number v ++ (9 ∷ line (entries v run)))), length-append (number v) (9 ∷ line (entries v run)), length-append (entries v run) (10 ∷ []))
    (omega (arith, word_length v, number_length v, entries_length v run e h))

-- a place of bytes
module _ (p : List ℕ) (h : place_size ≤ length p) (b : Bytes p) where
  run_long : length (run_in p) ≡ 126
  run_long = length-take-le 126 (drop 4 p) (omega (arith, length-drop 4 p))

  run_bytes : Bytes (run_in p)
  run_bytes k l =
      let small = b (4 + k) (omega (arith, run_long)) in
      rw (get_or-take 126 (drop 4 p) k 0 (omega (arith, run_long)), get_or-drop 4 p k 0) small

  pub plan_room : (i : ℕ) → length (plan_lines i p) ≤ 640
  plan_room i =
      rw (length-append (plan_line i) (told_lines (judgement_in p) (run_in p)))
      (omega (arith, numbered_short (ascii "plan") i (omega arith), verdict_length (judgement_in p) (run_in p) run_long run_bytes))

  pub row_room : length (row_after_name p) ≤ 640
  row_room = row_length (judgement_in p) (run_in p) run_long run_bytes
