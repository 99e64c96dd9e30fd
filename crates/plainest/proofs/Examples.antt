-- Record bytes, failed entries and byte order on examples: a throw's entry counts, of two runs the one whose lower leaf comes first is first, and finished comes before failed.
use mathlib.Core.Path.{◌≡◌, refl}
use mathlib.Core.List.{[], ◌∷◌, ◌++◌}
use native.Mathlib.Omega.{arith}
use lib.ListN.{replicate}
use Rattle.process.specs.Process.{ok, fail, fails, Process, leaf, entry, Run}
use Rattle.process.specs.Figure2.{f_leaf, f_done, Complete, c_ok, c_fail}
use Rattle.reorder.specs.Entries.{failures}
use Rattle.plainest.specs.Bytes.{record_bytes, Before, here, later}

stored : Run
stored = entry 0 ok ∷ entry 2 fail ∷ entry 3 ok ∷ []

stored_bytes : record_bytes stored ≡ (0 ∷ 1 ∷ 2 ∷ 2 ∷ 3 ∷ 1 ∷ []) ++ replicate 120 0
unfolding stored
stored_bytes = refl

-- a throw, run alone
throw : Process
throw = leaf 1 fails

throw_runs : Complete throw (entry 1 fail ∷ []) fail
unfolding throw
throw_runs = c_fail (f_leaf refl) (c_ok f_done) refl

throw_counts : failures (entry 1 fail ∷ []) ≡ 1
throw_counts = refl

two_failures : failures (entry 1 fail ∷ entry 2 fail ∷ entry 3 ok ∷ []) ≡ 2
two_failures = refl

-- as bytes, not as text: leaf 2 comes before leaf 10
lower_leaf : Before (record_bytes (entry 2 fail ∷ [])) (record_bytes (entry 10 ok ∷ []))
lower_leaf = here {x = 2} {y = 10} (omega arith)

finished_first : Before (record_bytes (entry 7 ok ∷ entry 9 fail ∷ [])) (record_bytes (entry 7 fail ∷ entry 8 ok ∷ []))
finished_first = later refl (here {x = 1} {y = 2} (omega arith))
