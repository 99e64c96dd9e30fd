-- The tokens of a text from a place on.
use Rattle.std.specs.Prelude.{List, ℕ, cond, ◌+◌, drop, eqb, ltb}
use Rattle.grammar.specs.Next.{blanks, clear, none, token_number, size, wrong}
use Rattle.tokens.specs.declared.Next.{Next}
use Rattle.tokens.specs.declared.Token.{Token}
use Rattle.tokens.specs.declared.Token.TheVariants.{Letter, Not, And, Or, Implies, Opening, Closing, Wrong, End}

-- A token's number, that of `grammar`.
abbrev pub number : Token → ℕ
number (Letter a) = a
number Not = 0x80
number And = 0x81
number Or = 0x82
number Implies = 0x83
number Opening = 0x84
number Closing = 0x85
number Wrong = wrong
number End = none

-- The token of a number.
abbrev pub token_of : ℕ → Token
token_of k =
    cond (eqb k 0x80) Not
    (cond (eqb k 0x81) And
    (cond (eqb k 0x82) Or
    (cond (eqb k 0x83) Implies
    (cond (eqb k 0x84) Opening
    (cond (eqb k 0x85) Closing
    (cond (eqb k wrong) Wrong
    (cond (ltb wrong k) End (Letter k))))))))

-- How many bytes a token takes.
abbrev pub size_of : Token → ℕ
size_of (Letter a) = 1
size_of Not = 3
size_of And = 3
size_of Or = 2
size_of Implies = 7
size_of Opening = 1
size_of Closing = 1
size_of Wrong = 0
size_of End = 0

-- The next token, and the place after it. The proof that it has the number of `token_number` is `next_number`.
abbrev pub next_of : List ℕ → ℕ → Next
next_of text at = record {
  kind = token_of (token_number (clear (drop at text)));
  at = at + blanks (drop at text) + size (token_number (clear (drop at text)));
}
