-- Little-endian numbers in an area of bytes. A byte past the end counts as 0.
use Rattle.std.specs.Prelude.{◌≡◌, List, ℕ, ◌+◌, ◌*◌, ◌<◌, length, get_or}

-- these are the bytes from `at` on
abbrev pub IsBytesAt : List ℕ → ℕ → List ℕ → Type 0
IsBytesAt s at bytes = (i : ℕ) → i < length bytes → get_or bytes i 0 ≡ get_or s (at + i) 0

-- the number of the four bytes at `at`
abbrev pub four_at : List ℕ → ℕ → ℕ
four_at s at = get_or s at 0 + 256 * (get_or s (at + 1) 0 + 256 * (get_or s (at + 2) 0 + 256 * get_or s (at + 3) 0))

-- the number of the eight bytes at `at`
abbrev pub number_at : List ℕ → ℕ → ℕ
number_at s at =
    get_or s at 0 + 256 * (get_or s (at + 1) 0 + 256 * (get_or s (at + 2) 0 + 256 * (get_or s (at + 3) 0 + 256 * (get_or s (at + 4) 0 + 256 * (get_or s (at + 5) 0 + 256 * (get_or s (at + 6) 0 + 256 * get_or s (at + 7) 0))))))
