-- What a vector of each group comes to. Those of `hours` are read as those of `runs`.
use Rattle.std.specs.Prelude.{List, ℕ}
use Rattle.vectors.specs.Files.{files_outcome}
use Rattle.vectors.specs.Runs.{runs_outcome}
use Rattle.vectors.specs.Verdicts.{verdicts_outcome}
use Rattle.vectors.specs.Formulas.{formulas_outcome}
use Rattle.vectors.specs.Classes.{classes_outcome}
use Rattle.vectors.specs.declared.Group.{Group}
use Rattle.vectors.specs.declared.Group.TheVariants.{Files, Runs, Hours, Verdicts, Formulas, Classes}
use Rattle.vectors.specs.declared.outcome.Outcome.{Outcome}

abbrev pub outcome_in : Group → List ℕ → Outcome
outcome_in Files body = files_outcome body
outcome_in Runs body = runs_outcome body
outcome_in Hours body = runs_outcome body
outcome_in Verdicts body = verdicts_outcome body
outcome_in Formulas body = formulas_outcome body
outcome_in Classes body = classes_outcome body
