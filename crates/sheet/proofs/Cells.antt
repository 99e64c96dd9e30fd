-- The entries of a run in a row, two bytes after two bytes.
use mathlib.Core.Path.{◌≡◌, sym, ap, ◌∙◌}
use mathlib.Core.List.{List, [], ◌∷◌, ◌++◌, append_assoc}
use Prim.Native.Nat.{ℕ, suc, ◌+◌, ◌*◌, ◌≤◌, ◌<◌}
use lib.ListN.{length, get_or, drop, drop_of_length-le}
use Rattle.std.specs.Prelude.{Ok, Err}
use Rattle.text.specs.Text.{pushed, appended}
use Rattle.text.specs.declared.Text.{Text}
use Rattle.text.specs.Decimal.{decimal}
use Rattle.text.specs.Lines.{line, refused}
use Rattle.text.proofs.Ends.{appended_first, lined}
use Rattle.text.proofs.Texts.{appended_both, appended_one}
use Rattle.judge.specs.Shown.{shown_entries}
use Rattle.judge.proofs.Entries.{entry_shown}
use Rattle.judge.specs.declared.Judgement.TheVariants.{Violated}
use Rattle.report.specs.Lines.{violated}
use Rattle.sheet.specs.Row.{cell, cells, columns, row_of}

module _ (t : Text) (run : List ℕ) (i : ℕ) where
  -- after the last entry there is nothing to put
  pub cells_over : length (shown_entries run) ≤ i → appended t (cells i (drop i (shown_entries run))) ≡ t
  unfolding cells appended
  cells_over h = rw (drop_of_length-le (shown_entries run) h)

  -- an entry has its cell, before those of the rest
  pub cells_go : i < length (shown_entries run)
      → appended t (cells i (drop i (shown_entries run))) ≡ appended (appended t (cell i (get_or run (2 * i) 0) (get_or run (2 * i + 1) 0))) (cells (i + 1) (drop (suc i) (shown_entries run)))
  unfolding cells
  cells_go h = rw (entry_shown run i h) (appended_both t _ (cells (i + 1) (drop (suc i) (shown_entries run))))

-- columns of a row
pub put_columns : (t : Text) (word number : List ℕ) → pushed (appended (appended t word) number) 9 ≡ appended t (word ++ (number ++ (9 ∷ [])))
put_columns t word number = sym (appended_both t word (number ++ (9 ∷ [])) ∙ appended_both (appended t word) number (9 ∷ []) ∙ appended_one (appended (appended t word) number) 9)

-- and what comes after them
pub columns_then : (t : Text) (word number rest : List ℕ) → appended (appended t (word ++ (number ++ (9 ∷ [])))) rest ≡ appended t (word ++ (number ++ (9 ∷ rest)))
columns_then t word number rest =
    sym (appended_both t (word ++ (number ++ (9 ∷ []))) rest)
    ∙ ap (appended t) (append_assoc word (number ++ (9 ∷ [])) rest ∙ ap (λ (l : List ℕ). word ++ l) (append_assoc number (9 ∷ []) rest))

-- the parts of a cell, one after the other
pub cell_parts : (t : Text) (before leaf outcome : List ℕ) → appended t (before ++ (leaf ++ (58 ∷ outcome))) ≡ appended (pushed (appended (appended t before) leaf) 58) outcome
cell_parts t before leaf outcome =
    appended_both t before (leaf ++ (58 ∷ outcome)) ∙ appended_both (appended t before) leaf (58 ∷ outcome) ∙ sym (appended_first (appended (appended t before) leaf) 58 outcome)

-- a row is put
pub violated_row : (t : Text) (set : ℕ) (run : List ℕ) → pushed (appended (appended t (columns (9 ∷ (violated ++ (9 ∷ []))) set)) (cells 0 (shown_entries run))) 10 ≡ appended t (row_of (Ok (Violated set)) run)
violated_row t set run = lined _ (cells 0 (shown_entries run)) ∙ columns_then t (9 ∷ (violated ++ (9 ∷ []))) (decimal set) (line (cells 0 (shown_entries run)))

pub refused_row : (t : Text) (n : ℕ) (run : List ℕ) → pushed (appended t (columns (9 ∷ (refused ++ (9 ∷ []))) n)) 10 ≡ appended t (row_of (Err n) run)
refused_row t n run = sym (appended_one _ 10) ∙ columns_then t (9 ∷ (refused ++ (9 ∷ []))) (decimal n) (10 ∷ [])
