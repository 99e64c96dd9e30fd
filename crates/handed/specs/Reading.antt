-- The files of an input as they are read, for callers that hold what they get against bytes of their own.
use Rattle.std.specs.Prelude.{cond, List, [], ◌∷◌, ℕ, zero, suc, ◌+◌, ◌*◌, ltb, length, take, drop}
use Rattle.std.proofs.Math.Option.{Option, none, some}

-- What the first file of an input is read before, and the files once those after it are read. There are none where a length or a file is cut.
abbrev pub after_first : List ℕ → List ℕ
after_first [] = []
after_first (x ∷ []) = []
after_first (low ∷ high ∷ s) = drop (low + 256 * high) s

abbrev pub before : List ℕ → Option (List (List ℕ)) → Option (List (List ℕ))
before f none = none
before f (some fs) = some (f ∷ fs)

abbrev pub with_first : List ℕ → Option (List (List ℕ)) → Option (List (List ℕ))
with_first [] others = some []
with_first (x ∷ []) others = none
with_first (low ∷ high ∷ s) others = cond (ltb (length s) (low + 256 * high)) none (before (take (low + 256 * high) s) others)

abbrev pub ended : List ℕ → Option (List (List ℕ))
ended [] = some []
ended (x ∷ s) = none

-- The files of an input that has at most k of them.
unfoldable pub files_of : ℕ → List ℕ → Option (List (List ℕ))
files_of zero s = ended s
files_of (suc k) s = with_first s (files_of k (after_first s))
