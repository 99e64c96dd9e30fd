-- The line that is written for a typed rule: its postfix bytes as two lower-case hexadecimal digits each, one blank between them; or `refused` and the number.
use Rattle.std.specs.Prelude.{cond, List, [], ◌∷◌, ℕ, ◌+◌, ◌/◌, ◌%◌, min, ltb, eqb, get_or, Ok, Err}
use Rattle.text.specs.Lines.{line, numbered, refused, each}
use Rattle.formula.specs.Answer.{room}
use Rattle.formula.specs.Numbers.{Answer, number}
use Rattle.formula.specs.declared.Turned.{Turned}

-- 0 to 9 are the bytes 48 to 57, a to f those from 97 on
abbrev pub hex_digit : ℕ → ℕ
hex_digit d = cond (ltb d 10) (48 + d) (87 + d)

abbrev pub hex : ℕ → List ℕ
hex b = hex_digit (b / 16) ∷ hex_digit (b % 16) ∷ []

-- a byte at its place: a blank before each but the first
abbrev pub item : ℕ → ℕ → List ℕ
item i b = cond (eqb i 0) (hex b) (32 ∷ hex b)

abbrev pub item_at : List ℕ → ℕ → List ℕ
item_at bytes i = item i (get_or bytes i 0)

abbrev pub line_with : List ℕ → Answer → List ℕ
line_with bytes (Ok n) = line (each (item_at bytes) 0 (min n room))
line_with bytes (Err f) = numbered refused (number f)

abbrev pub line_for : Turned → List ℕ
line_for turned = line_with turned.bytes turned.answer
