-- The lines of a data file, put into a text part by part; and all of them have room in one.
use mathlib.Core.Path.{◌≡◌, refl, sym, ap, ◌∙◌}
use mathlib.Core.Bool.{Bool, true, false, cond}
use mathlib.Core.List.{List, [], ◌++◌}
use Prim.Native.Nat.{ℕ, ◌+◌, ◌≤◌}
use native.Mathlib.Omega.{arith}
use lib.ListN.{length, take, drop, length-append, length-take}
use Rattle.text.specs.Decimal.{decimal}
use Rattle.text.specs.Text.{ascii, empty, pushed, appended, text_of}
use Rattle.text.specs.declared.Text.{Text}
use Rattle.text.proofs.Texts.{appended_both, appended_one, appended_empty}
use Rattle.text.proofs.Decimals.{decimal_length}
use Rattle.vectors.specs.declared.Group.{Group}
use Rattle.vectors.specs.declared.Group.TheVariants.{Files, Runs, Hours, Verdicts, Formulas, Classes}
use Rattle.comparison.specs.Data.{is_named, name_length, name_at}
use Rattle.comparison.specs.Lines.{title_of, difference_line, counts_line, damage_line, difference_lines, damage_lines, lines_for}
use Rattle.std.specs.Prelude.{Option, Some, None}
use Rattle.comparison.specs.declared.Difference.{Difference}
use Rattle.comparison.specs.declared.Comparison.{Comparison}
use Rattle.comparison.proofs.Vectors.{named_says}

module _ (t : Text) (group : Group) where
  pub difference_put : (name : List ℕ) (d : Difference)
      → pushed (appended (appended (appended (appended (appended (appended (appended (appended (appended t (title_of group)) (ascii ": vector ")) (decimal d.number)) (ascii " (")) name) (ascii "): expected ")) (decimal d.expected)) (ascii ", found ")) (decimal d.found)) 10
      ≡ appended t (difference_line group name d)
  unfolding difference_line
  difference_put name d =
      rw (appended_both, appended_both, appended_both, appended_both, appended_both, appended_both, appended_both, appended_both, appended_both, appended_one)

  pub counts_put : (c : Comparison)
      → appended (appended (appended (appended (appended (appended t (title_of group)) (ascii ": ")) (decimal c.vectors)) (ascii " vectors, ")) (decimal c.agree)) (ascii " agree\n")
      ≡ appended t (counts_line group c)
  unfolding counts_line
  counts_put c = rw (appended_both, appended_both, appended_both, appended_both, appended_both)

-- how long the lines are
title_few : (group : Group) → length (title_of group) ≤ 8
title_few Files = omega arith
title_few Runs = omega arith
title_few Hours = omega arith
title_few Verdicts = omega arith
title_few Formulas = omega arith
title_few Classes = omega arith

name_few : (s : List ℕ) (at : ℕ) → length (name_at s at) ≤ 64
unfolding name_at
name_few s at = go (is_named s at) refl
  where
    go : (b : Bool) → is_named s at ≡ b → length (cond b (take (name_length s at) (drop (at + 8) s)) []) ≤ 64
    go true e = simp length-take (omega (arith, (named_says s at e).0))
    go false e = omega arith

difference_few : (group : Group) (s : List ℕ) (first : Option Difference) → length (difference_lines group s first) ≤ 200
unfolding difference_line
difference_few group s None = omega arith
difference_few group s (Some d) = simp length-append (omega (arith, title_few group, name_few s d.at, decimal_length d.number, decimal_length d.expected, decimal_length d.found))

counts_few : (group : Group) (c : Comparison) → length (counts_line group c) ≤ 100
unfolding counts_line
counts_few group c = simp length-append (omega (arith, title_few group, decimal_length c.vectors, decimal_length c.agree))

damage_few : (group : Group) (c : Comparison) → length (damage_lines group c) ≤ 100
unfolding damage_line
damage_few group c = go c.whole
  where
    go : (b : Bool) → length (cond b [] (damage_line group)) ≤ 100
    go true = omega arith
    go false = simp length-append (omega (arith, title_few group))

module _ (group : Group) (s : List ℕ) (c : Comparison) where
  all_put : appended (appended (appended empty (difference_lines group s c.first)) (counts_line group c)) (damage_lines group c) ≡ text_of (lines_for group s c)
  all_put =
      let few : length (lines_for group s c) ≤ 640 = simp length-append (omega (arith, difference_few group s c.first, counts_few group c, damage_few group c)) in
      sym (appended_both (appended empty (difference_lines group s c.first)) (counts_line group c) (damage_lines group c))
      ∙ (sym (appended_both empty (difference_lines group s c.first) (counts_line group c ++ damage_lines group c)) ∙ appended_empty (lines_for group s c) few)

  abbrev counts : Text
  counts = appended (appended empty (difference_lines group s c.first)) (counts_line group c)

  pub undamaged : c.whole ≡ true → counts ≡ text_of (lines_for group s c)
  unfolding appended
  undamaged h = let none : damage_lines group c ≡ [] = rw h in ap (appended counts) (sym none) ∙ all_put

  pub also_damaged : c.whole ≡ false → appended counts (damage_line group) ≡ text_of (lines_for group s c)
  also_damaged h = let one : damage_lines group c ≡ damage_line group = rw h in ap (appended counts) (sym one) ∙ all_put
