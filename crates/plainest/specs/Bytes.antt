-- A run as record bytes, and their order.
use Rattle.std.specs.Prelude.{◌≡◌, List, [], ◌∷◌, ◌++◌, ℕ, ◌-◌, ◌<◌, length, replicate}
use Rattle.process.specs.Process.{entry, Run}
use Rattle.job.specs.Offer.{status_number}

-- An entry is two bytes, "the leaf's node number, then 1 (finished) or 2 (failed)".
abbrev pub encode : Run → List ℕ
encode [] = []
encode (entry n s ∷ w) = n ∷ status_number s ∷ encode w

-- The run, then zeros: 126 bytes in all for a run of at most 63 entries.
abbrev pub record_bytes : Run → List ℕ
record_bytes w = encode w ++ replicate (126 - length (encode w)) 0

-- Byte order: they differ, and at the first byte where they do, the first has the smaller one.
pub data Before : List ℕ → List ℕ → Type 0 where
  here : {x y : ℕ} {xs ys : List ℕ} → x < y → Before (x ∷ xs) (y ∷ ys)
  later : {x y : ℕ} {xs ys : List ℕ} → x ≡ y → Before xs ys → Before (x ∷ xs) (y ∷ ys)
