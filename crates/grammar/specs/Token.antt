-- Document 02, N1: what a typed rule is made of. "Actions are the letters a to j; the words are not, and, or, implies, with brackets".
use Rattle.std.specs.Prelude.{ℕ}

-- "and and or group to the left"
pub data Operator : Type 0 where
  and : Operator
  or : Operator

pub data Token : Type 0 where
  -- the letter of an action
  letter : ℕ → Token
  not : Token
  operator : Operator → Token
  implies : Token
  opening : Token
  closing : Token

-- The byte of an operator in a rule, and that of not: document 01's "hexadecimal 80 is not, 81 and, 82 or".
abbrev pub byte : Operator → ℕ
byte and = 0x81
byte or = 0x82

abbrev pub not_byte : ℕ
not_byte = 0x80
