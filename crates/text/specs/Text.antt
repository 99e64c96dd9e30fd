-- A text of at most 640 bytes as a value, from the list of its bytes.
use Rattle.std.specs.Prelude.{cond, List, [], ◌∷◌, ◌++◌, ℕ, ◌+◌, ◌-◌, ltb, length, set, replicate}
use Prim.Native.String.{String}
use Prim.Native.String as string
use Prim.Native.Char.{code}
use Rattle.text.specs.declared.Text.{Text}

-- The bytes of a text in ASCII.
abbrev pub ascii : String → List ℕ
ascii string.[] = []
ascii (string.◌∷◌ c s) = code c ∷ ascii s

-- The empty text.
abbrev pub empty : Text
empty = record { bytes = replicate 640 0; len = 0 }

-- One byte more, where there is room for it.
unfoldable pub pushed : Text → ℕ → Text
pushed t b = cond (ltb t.len 640) (record { bytes = set t.bytes t.len b; len = t.len + 1 }) t

-- The bytes of a list more, as far as there is room for them.
unfoldable pub appended : Text → List ℕ → Text
appended t [] = t
appended t (b ∷ bs) = appended (pushed t b) bs

-- The text of these bytes, for at most 640 of them; zeros stand past them.
abbrev pub text_of : List ℕ → Text
text_of l = record { bytes = l ++ replicate (640 - length l) 0; len = length l }
