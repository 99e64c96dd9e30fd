-- Document 01's block: "a two-byte body length, a two-byte kind, then the body", over a list of bytes.
use Rattle.std.specs.Prelude.{List, [], ◌∷◌, ◌++◌, Bool, cond, Option, Some, None, ℕ, ◌+◌, ◌*◌, ◌/◌, ◌%◌, leb, length, get_or}
use Rattle.blocks.specs.declared.Heading.{Heading}

-- "Numbers are little-endian": the number of the two bytes at `at`.
abbrev pub le16 : List ℕ → ℕ → ℕ
le16 s at = get_or s at 0 + 256 * get_or s (at + 1) 0

-- The heading at `at`, a cursor: its kind and its body's length; none where it is cut short.
abbrev pub heading_at : List ℕ → ℕ → Option Heading
heading_at s at = cond (leb (at + 4) (length s)) (Some (record { kind = le16 s (at + 2); len = le16 s at })) None

-- The body of the block at `at` starts after its heading's four bytes, and is not cut short.
abbrev pub body_fits : List ℕ → ℕ → ℕ → Bool
body_fits s at len = leb (at + 4 + len) (length s)

-- A block as bytes: how a file that holds it is written.
abbrev pub two : ℕ → List ℕ
two n = n % 256 ∷ n / 256 ∷ []

abbrev pub block : ℕ → List ℕ → List ℕ
block kind body = two (length body) ++ (two kind ++ body)
