-- The chart's lines, put into a text cell by cell; and all of them have room in one, which is computed.
use mathlib.Core.Path.{◌≡◌, refl, sym}
use mathlib.Core.List.{List, ◌++◌}
use Prim.Native.Nat.{ℕ, ◌/◌, ◌%◌, ◌≤◌, ◌<◌}
use lib.ListN.{length}
use borrow.Author.Tests.{lt-ltb, le-ltb}
use Rattle.text.specs.Decimal.{decimal, digits}
use Rattle.text.specs.Lines.{each}
use Rattle.text.specs.Text.{empty, pushed, appended, text_of}
use Rattle.text.specs.declared.Text.{Text}
use Rattle.text.proofs.Texts.{appended_both, appended_one, appended_empty}
use Rattle.outcomes.specs.Cells.{cell, lines}
use Rattle.chart.specs.Lines.{cell_text, table_text, chart_lines}

module _ (t : Text) (form place : ℕ) where
  pub within_row : place % 7 < 6 → pushed (appended t (decimal (cell form (place / 7) (place % 7)))) 32 ≡ appended t (cell_text form place)
  unfolding cell_text
  within_row h = rw (lt-ltb (place % 7) 6 h, appended_both, appended_one)

  pub row_ends : 6 ≤ place % 7 → pushed (appended t (decimal (cell form (place / 7) (place % 7)))) 10 ≡ appended t (cell_text form place)
  unfolding cell_text
  row_ends h = rw (le-ltb (place % 7) 6 h, appended_both, appended_one)

pub chart_room : length chart_lines ≡ 540
unfolding chart_lines table_text each cell_text digits cell lines
chart_room = refl

-- five lists, put into the empty text one after the other, where there is room for them
pub five : (a b c d e : List ℕ) → length (a ++ (b ++ (c ++ (d ++ e)))) ≤ 640
    → appended (appended (appended (appended (appended empty a) b) c) d) e ≡ text_of (a ++ (b ++ (c ++ (d ++ e))))
five a b c d e h = rw (sym (appended_empty _ h), appended_both, appended_both, appended_both, appended_both) refl
