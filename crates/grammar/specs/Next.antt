-- The next token of some bytes, by computation: its number, and how many bytes it takes with the blanks before it.
use Rattle.std.specs.Prelude.{Bool, true, false, cond, List, [], ◌∷◌, ℕ, suc, ◌-◌, ltb, leb, eqb, drop}
use Rattle.grammar.specs.Token.{Token, letter, not, operator, implies, opening, closing, byte, not_byte}

-- A token's number: that of its byte in a postfix list where it has one.
abbrev pub number : Token → ℕ
number (letter a) = a
number not = not_byte
number (operator o) = byte o
number implies = 0x83
number opening = 0x84
number closing = 0x85

-- The numbers of what is no token: bytes that spell none, and the end.
abbrev pub wrong : ℕ
wrong = 0xFE

abbrev pub none : ℕ
none = 0xFF

-- The number of the first of some tokens, and the tokens after it.
abbrev pub first : List Token → ℕ
first [] = none
first (t ∷ ts) = number t

abbrev pub others : List Token → List Token
others [] = []
others (t ∷ ts) = ts

-- Is it a blank or a bracket?
abbrev pub parts : ℕ → Bool
parts x = cond (eqb x 32) true (cond (eqb x 40) true (eqb x 41))

-- Is this the end, or does a blank or a bracket stand here?
unfoldable pub parted : List ℕ → Bool
parted [] = true
parted (x ∷ b) = parts x

-- Do the bytes begin with the word, and does nothing join it?
unfoldable pub stands : List ℕ → List ℕ → Bool
stands [] b = parted b
stands (x ∷ w) [] = false
stands (x ∷ w) (y ∷ b) = cond (eqb x y) (stands w b) false

-- The number of the word that the bytes begin with.
unfoldable pub word_number : List ℕ → ℕ
word_number b =
    cond (stands (110 ∷ 111 ∷ 116 ∷ []) b) 0x80
    (cond (stands (97 ∷ 110 ∷ 100 ∷ []) b) 0x81
    (cond (stands (111 ∷ 114 ∷ []) b) 0x82
    (cond (stands (105 ∷ 109 ∷ 112 ∷ 108 ∷ 105 ∷ 101 ∷ 115 ∷ []) b) 0x83 wrong)))

-- Is the byte one of a to j?
abbrev pub is_letter : ℕ → Bool
is_letter x = cond (leb 97 x) (ltb x 107) false

-- The number of the token that the bytes begin with, which do not begin with a blank.
unfoldable pub token_number : List ℕ → ℕ
token_number [] = none
token_number (x ∷ b) =
    cond (eqb x 40) 0x84
    (cond (eqb x 41) 0x85
    (cond (is_letter x) (cond (parted b) (x - 97) (word_number (x ∷ b))) (word_number (x ∷ b))))

-- How many bytes the token of a number takes.
abbrev pub size : ℕ → ℕ
size k =
    cond (eqb k 0x80) 3 (cond (eqb k 0x81) 3 (cond (eqb k 0x82) 2 (cond (eqb k 0x83) 7 (cond (leb wrong k) 0 1))))

-- How many blanks the bytes begin with.
unfoldable pub blanks : List ℕ → ℕ
blanks [] = 0
blanks (x ∷ b) = cond (eqb x 32) (suc (blanks b)) 0

-- What follows the blanks.
abbrev pub clear : List ℕ → List ℕ
clear b = drop (blanks b) b
