-- The lines of a run's entries, one after the other.
use mathlib.Core.Path.{◌≡◌, ap, ◌∙◌}
use mathlib.Core.List.{List}
use Prim.Native.Nat.{ℕ, suc, ◌+◌, ◌*◌, ◌≤◌, ◌<◌}
use native.Mathlib.Numerals.{add-one}
use lib.ListN.{length, get_or, drop, drop_of_length-le}
use Rattle.text.specs.Decimal.{decimal}
use Rattle.text.specs.Text.{appended}
use Rattle.text.specs.declared.Text.{Text}
use Rattle.text.specs.Lines.{numbered}
use Rattle.text.proofs.Texts.{appended_both}
use Rattle.judge.specs.Shown.{shown_entries}
use Rattle.report.specs.Lines.{entry_lines}
use Rattle.judge.proofs.Entries.{entry_shown}

module _ (t : Text) (run : List ℕ) (i : ℕ) where
  -- after the last entry there is nothing to put
  pub run_over : length (shown_entries run) ≤ i → appended t (entry_lines (drop i (shown_entries run))) ≡ t
  unfolding entry_lines appended
  run_over h = rw (drop_of_length-le (shown_entries run) h)

  -- an entry has its line, before those of the rest
  pub run_goes : i < length (shown_entries run)
      → appended t (entry_lines (drop i (shown_entries run))) ≡ appended (appended t (numbered (decimal (get_or run (2 * i) 0)) (get_or run (2 * i + 1) 0))) (entry_lines (drop (i + 1) (shown_entries run)))
  unfolding entry_lines
  run_goes h = rw (add-one i, entry_shown run i h) (appended_both t _ (entry_lines (drop (suc i) (shown_entries run))))
