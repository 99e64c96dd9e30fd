-- The bytes of a job: a file copied into an area of zeros.
use mathlib.Core.Path.{◌≡◌, ap}
use mathlib.Core.List.{List, ◌++◌}
use Prim.Native.Nat.{ℕ, ◌-◌}
use lib.ListN.{length, drop, replicate}
use Rattle.std.proofs.lemmas.List.{drop-replicate}

-- bytes at the start of an area that was zeros
pub padded : (size : ℕ) (s : List ℕ) → s ++ drop (length s) (replicate size 0) ≡ s ++ replicate (size - length s) 0
padded size s = ap (λ (r : List ℕ). s ++ r) (drop-replicate (length s) size 0)
