-- N7's failed entries, counted on a run: of a throw that ran, an action that failed and one that finished there are two.
use mathlib.Core.List.{[], ◌∷◌}
use mathlib.Core.Path.{◌≡◌, refl}
use Rattle.process.specs.Process.{ok, fail, entry}
use Rattle.reorder.specs.Entries.{failures}

pub two_failed : failures (entry 0 fail ∷ entry 1 fail ∷ entry 2 ok ∷ []) ≡ 2
two_failed = refl
