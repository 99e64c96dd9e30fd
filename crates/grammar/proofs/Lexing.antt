-- The computed next token is that of the text.
use mathlib.Core.Path.{◌≡◌, refl, sym, ap, subst, ◌∙◌}
use mathlib.Core.Bool.{true, cond}
use mathlib.Core.List.{List, [], ◌∷◌, ◌++◌}
use Prim.Native.Nat.{ℕ, ◌+◌, ◌<◌}
use native.Mathlib.Omega.{arith}
use lib.Dec.{ltb, eqb}
use lib.ListN.{drop}
use borrow.Author.Tests.{lt-ltb, le-leb, ne_eqb, lt-leb}
use Rattle.grammar.specs.Token.{Token, letter, not, operator, and, or, implies, opening, closing}
use Rattle.grammar.specs.Spelling.{Word, a_to_j, n_o_t, a_n_d, o_r, i_m_p_l_i_e_s, Parted, at_end, at_blank, at_opening, at_closing, Spells, end, blank, opened, closed, word}
use Rattle.grammar.specs.Next.{number, wrong, first, others, parted, stands, word_number, token_number, size, blanks, clear}

parted_true : {b : List ℕ} → Parted b → parted b ≡ true
unfolding parted
parted_true at_end = refl
parted_true at_blank = refl
parted_true at_opening = refl
parted_true at_closing = refl

-- What the bytes of a text show of its tokens.
pub record Shows (b : List ℕ) (ts : List Token) : Type 0 where
  pub this : token_number (clear b) ≡ first ts
  pub next : Spells (drop (size (first ts)) (clear b)) (others ts)

pub small : (a : ℕ) → a < 10 → size a ≡ 1
small a h = simp (ne_eqb a 0x80 (λ e. omega arith), ne_eqb a 0x81 (λ e. omega arith), ne_eqb a 0x82 (λ e. omega arith), ne_eqb a 0x83 (λ e. omega arith), lt-leb 0xFE a (omega arith))

letter_number : (a : ℕ) (b : List ℕ) → a < 10 → parted b ≡ true → token_number ((97 + a) ∷ b) ≡ a
unfolding token_number
letter_number a b h p =
    simp (ne_eqb (97 + a) 40 (λ e. omega arith), ne_eqb (97 + a) 41 (λ e. omega arith), le-leb 97 (97 + a) (omega arith), lt-ltb (97 + a) 107 (omega arith), p) (omega arith)

shows_letter : (a : ℕ) (b : List ℕ) (ts : List Token) → a < 10 → Parted b → Spells b ts → Shows ((97 + a) ∷ b) (letter a ∷ ts)
unfolding blanks
shows_letter a b ts h p x =
    let n = ne_eqb (97 + a) 32 (λ e. omega arith) in
    record { this = rw n (letter_number a b h (parted_true p)); next = rw (n, small a h) x }

shows_word : {w : List ℕ} {t : Token} (b : List ℕ) (ts : List Token) → Word w t → Parted b → Spells b ts → Shows (w ++ b) (t ∷ ts)
unfolding blanks token_number word_number stands parted
shows_word b ts (a_to_j {a} h) p x = shows_letter a b ts h p x
shows_word b ts n_o_t p x = record { this = rw (parted_true p); next = x }
shows_word b ts a_n_d p x = record { this = rw (parted_true p); next = x }
shows_word b ts o_r p x = record { this = rw (parted_true p); next = x }
shows_word b ts i_m_p_l_i_e_s p x = record { this = rw (parted_true p); next = x }

pub shows : {b : List ℕ} {ts : List Token} → Spells b ts → Shows b ts
unfolding blanks token_number
shows end = record { this = refl; next = end }
shows (blank x) = let s = shows x in record { this = s.this; next = s.next }
shows (opened x) = record { this = refl; next = x }
shows (closed x) = record { this = refl; next = x }
shows (word {b = b} {t = t} {ts = ts} sp p x e) = subst (λ (c : List ℕ). Shows c (t ∷ ts)) e (shows_word b ts sp p x)

-- The token of a number.
pub token : ℕ → Token
token n =
    cond (ltb n 10) (letter n)
    (cond (eqb n 0x80) not (cond (eqb n 0x81) (operator and) (cond (eqb n 0x82) (operator or) (cond (eqb n 0x83) implies (cond (eqb n 0x84) opening closing)))))

-- The letters of the tokens are a to j.
abbrev pub Valid : Token → Type 0
Valid (letter a) = a < 10
Valid not = Unit {0}
Valid (operator o) = Unit {0}
Valid implies = Unit {0}
Valid opening = Unit {0}
Valid closing = Unit {0}

-- A token is that of its number, which is below those of what is no token.
pub record Known (t : Token) : Type 0 where
  pub back : token (number t) ≡ t
  pub small : number t < wrong

pub known : (t : Token) → Valid t → Known t
unfolding token
known (letter a) v = record { back = rw (lt-ltb a 10 v); small = omega arith }
known not v = record { back = refl; small = omega arith }
known (operator and) v = record { back = refl; small = omega arith }
known (operator or) v = record { back = refl; small = omega arith }
known implies v = record { back = refl; small = omega arith }
known opening v = record { back = refl; small = omega arith }
known closing v = record { back = refl; small = omega arith }

pub same_token : (t u : Token) → Valid t → Valid u → number t ≡ number u → t ≡ u
same_token t u v w e = sym (known t v).back ∙ ap token e ∙ (known u w).back

-- A text spells such tokens alone.
valid_word : {w : List ℕ} {t : Token} → Word w t → Valid t
valid_word (a_to_j h) = h
valid_word n_o_t = tt
valid_word a_n_d = tt
valid_word o_r = tt
valid_word i_m_p_l_i_e_s = tt

abbrev ValidFirst : List Token → Type 0
ValidFirst [] = Unit {0}
ValidFirst (t ∷ ts) = Valid t

pub valid : {b : List ℕ} {ts : List Token} → Spells b ts → ValidFirst ts
valid end = tt
valid (blank x) = valid x
valid (opened x) = tt
valid (closed x) = tt
valid (word sp p x e) = valid_word sp

pub one_text : (ts us : List Token) {b : List ℕ} → Spells b ts → Spells b us → ts ≡ us
one_text [] [] x y = refl
one_text [] (u ∷ us) x y = absurd (let k = (known u (valid y)).small in let e = (shows x).this in let f = (shows y).this in omega arith)
one_text (t ∷ ts) [] x y = absurd (let k = (known t (valid x)).small in let e = (shows x).this in let f = (shows y).this in omega arith)
one_text (t ∷ ts) (u ∷ us) {b} x y =
    let e = sym (shows x).this ∙ (shows y).this in
    let f = one_text ts us (shows x).next (subst (λ (n : ℕ). Spells (drop (size n) (clear b)) us) (sym e) (shows y).next) in
    let g = same_token t u (valid x) (valid y) e in
    rw (f, g)
