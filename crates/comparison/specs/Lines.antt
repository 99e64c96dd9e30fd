-- The lines that tell of a data file's vectors: the first that differs, where one does; how many there are and how many agree; and that
-- the file is damaged, where it is.
use Rattle.std.specs.Prelude.{cond, List, [], ◌∷◌, ◌++◌, ℕ, Option, None, Some}
use Rattle.text.specs.Decimal.{decimal}
use Rattle.text.specs.Text.{ascii}
use Rattle.vectors.specs.declared.Group.{Group}
use Rattle.vectors.specs.declared.Group.TheVariants.{Files, Runs, Hours, Verdicts, Formulas, Classes}
use Rattle.comparison.specs.Data.{name_at, compared_of}
use Rattle.comparison.specs.declared.Difference.{Difference}
use Rattle.comparison.specs.declared.Comparison.{Comparison}

-- the group's name, which is its data file's too
abbrev pub title_of : Group → List ℕ
title_of Files = ascii "files"
title_of Runs = ascii "runs"
title_of Hours = ascii "hours"
title_of Verdicts = ascii "verdicts"
title_of Formulas = ascii "formulas"
title_of Classes = ascii "classes"

-- TITLE: vector NUMBER (NAME): expected E, found F
unfoldable pub difference_line : Group → List ℕ → Difference → List ℕ
difference_line group name d =
    title_of group
    ++ ((ascii ": vector ")
    ++ (decimal d.number
    ++ ((ascii " (")
    ++ (name
    ++ ((ascii "): expected ")
    ++ (decimal d.expected
    ++ (ascii ", found " ++ (decimal d.found ++ (10 ∷ [])))))))))

-- TITLE: N vectors, M agree
unfoldable pub counts_line : Group → Comparison → List ℕ
counts_line group c =
    title_of group
    ++ ((ascii ": ")
    ++ (decimal c.vectors
    ++ (ascii " vectors, " ++ (decimal c.agree ++ (ascii " agree\n")))))

-- TITLE: the data file is damaged after these
unfoldable pub damage_line : Group → List ℕ
damage_line group =
    title_of group
    ++ (ascii ": the data file is damaged after these\n")

abbrev pub difference_lines : Group → List ℕ → Option Difference → List ℕ
difference_lines group s None = []
difference_lines group s (Some d) = difference_line group (name_at s d.at) d

abbrev pub damage_lines : Group → Comparison → List ℕ
damage_lines group c = cond c.whole [] (damage_line group)

abbrev pub lines_for : Group → List ℕ → Comparison → List ℕ
lines_for group s c = difference_lines group s c.first ++ (counts_line group c ++ damage_lines group c)

-- the lines of a data file
abbrev pub comparison_lines : Group → List ℕ → List ℕ
comparison_lines group s = lines_for group s (compared_of group s)
