-- A lent area of bytes, a part of which is written: the rest stays as it was.
use Rattle.std.specs.Prelude.{List, ◌++◌, Bool, cond, ℕ, ◌+◌, leb, length, take, drop}

-- n bytes from `at` on lie inside the area d
abbrev pub fits : List ℕ → ℕ → ℕ → Bool
fits d at n = leb (at + n) (length d)

-- the area d with s in it from `at` on
abbrev pub placed : List ℕ → ℕ → List ℕ → List ℕ
placed d at s = take at d ++ s ++ drop (at + length s) d

-- the same where s fits, and else d as it was
abbrev pub written : List ℕ → ℕ → List ℕ → List ℕ
written d at s = cond (fits d at (length s)) (placed d at s) d
