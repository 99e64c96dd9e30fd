-- Document 02, N1: how the bytes of a text spell its tokens. "brackets and blanks (byte 32), all lower case; neighbouring letters and words have a
-- blank or bracket between them".
use Rattle.std.specs.Prelude.{◌≡◌, List, [], ◌∷◌, ◌++◌, ℕ, ◌+◌, ◌<◌}
use Rattle.grammar.specs.Token.{Token, letter, not, operator, and, or, implies, opening, closing}

-- The bytes of a letter or of a word: a to j are the actions 0 to 9.
pub data Word : List ℕ → Token → Type 0 where
  a_to_j : {a : ℕ} → a < 10 → Word ((97 + a) ∷ []) (letter a)
  n_o_t : Word (110 ∷ 111 ∷ 116 ∷ []) not
  a_n_d : Word (97 ∷ 110 ∷ 100 ∷ []) (operator and)
  o_r : Word (111 ∷ 114 ∷ []) (operator or)
  i_m_p_l_i_e_s : Word (105 ∷ 109 ∷ 112 ∷ 108 ∷ 105 ∷ 101 ∷ 115 ∷ []) implies

-- What may stand behind a letter or a word: the end, a blank, a bracket.
pub data Parted : List ℕ → Type 0 where
  at_end : Parted []
  at_blank : {b : List ℕ} → Parted (32 ∷ b)
  at_opening : {b : List ℕ} → Parted (40 ∷ b)
  at_closing : {b : List ℕ} → Parted (41 ∷ b)

-- The bytes of a text, and the tokens that stand in them from left to right.
pub data Spells : List ℕ → List Token → Type 0 where
  end : Spells [] []
  blank : {b : List ℕ} {ts : List Token} → Spells b ts → Spells (32 ∷ b) ts
  opened : {b : List ℕ} {ts : List Token} → Spells b ts → Spells (40 ∷ b) (opening ∷ ts)
  closed : {b : List ℕ} {ts : List Token} → Spells b ts → Spells (41 ∷ b) (closing ∷ ts)
  word : {w b c : List ℕ} {t : Token} {ts : List Token} → Word w t → Parted b → Spells b ts → w ++ b ≡ c → Spells c (t ∷ ts)
