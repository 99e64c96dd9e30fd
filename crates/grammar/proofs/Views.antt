-- The computed next token is one that stands there: the converse of `shows`.
use mathlib.Core.Path.{◌≡◌, refl, sym, ap, subst, ◌∙◌}
use mathlib.Core.Bool.{true, false, true≢false}
use mathlib.Core.List.{List, [], ◌∷◌, ◌++◌}
use mathlib.Core.Logic.{◌⊎◌, inl, inr}
use Prim.Native.Nat.{ℕ, ◌+◌, ◌-◌, ◌≤◌, ◌<◌}
use native.Mathlib.Omega.{arith}
use lib.Dec.{ltb, leb, eqb}
use lib.ListN.{length, drop}
use borrow.Author.Tests.{eqb-true, leb-true, ltb-true, lt-leb}
use Rattle.blocks.proofs.Bounded.{decide, both_true}
use Rattle.grammar.specs.Token.{Token, letter, opening, closing}
use Rattle.grammar.specs.Spelling.{Word, a_to_j, n_o_t, a_n_d, o_r, i_m_p_l_i_e_s, Parted, at_end, at_blank, at_opening, at_closing, Spells, end, blank, opened, closed, word}
use Rattle.grammar.specs.Next.{number, parted, stands, word_number, token_number, is_letter, size, blanks, clear}
use Rattle.grammar.proofs.Lexing.{Valid, known, same_token, small}

parted_back : (b : List ℕ) → parted b ≡ true → Parted b
unfolding parted
parted_back [] h = at_end
parted_back (x ∷ b) h = go (decide (eqb x 32)) (decide (eqb x 40))
  where
    go : (eqb x 32 ≡ true) ⊎ (eqb x 32 ≡ false) → (eqb x 40 ≡ true) ⊎ (eqb x 40 ≡ false) → Parted (x ∷ b)
    go (inl e) f = rw (eqb-true x 32 e) at_blank
    go (inr e) (inl f) = rw (eqb-true x 40 f) at_opening
    go (inr e) (inr f) = rw (eqb-true x 41 (rw (e, f) at h)) at_closing

-- A word that stands at the front.
record Stood (w b : List ℕ) : Type 0 where
  rest : List ℕ
  parts_it : Parted rest
  whole : w ++ rest ≡ b
  dropped : drop (length w) b ≡ rest

stood_more : (x y : ℕ) (w b : List ℕ) → x ≡ y → Stood w b → Stood (x ∷ w) (y ∷ b)
stood_more x y w b e s = record { rest = s.rest; parts_it = s.parts_it; whole = rw (e, s.whole); dropped = s.dropped }

stood : (w b : List ℕ) → stands w b ≡ true → Stood w b
unfolding stands
stood [] b h = record { rest = b; parts_it = parted_back b h; whole = refl; dropped = refl }
stood (x ∷ w) [] h = absurd (true≢false (sym h))
stood (x ∷ w) (y ∷ b) h = let k = both_true (eqb x y) (stands w b) h in stood_more x y w b (eqb-true x y k.0) (stood w b k.1)

-- A token takes a byte or more.
pub size_some : (k : ℕ) → k < 0xFE → 1 ≤ size k
size_some k h = go (decide (eqb k 0x80)) (decide (eqb k 0x81)) (decide (eqb k 0x82)) (decide (eqb k 0x83))
  where
    go : (eqb k 0x80 ≡ true) ⊎ (eqb k 0x80 ≡ false) → (eqb k 0x81 ≡ true) ⊎ (eqb k 0x81 ≡ false) → (eqb k 0x82 ≡ true) ⊎ (eqb k 0x82 ≡ false)
        → (eqb k 0x83 ≡ true) ⊎ (eqb k 0x83 ≡ false) → 1 ≤ size k
    go (inl a) b c d = rw a (omega arith)
    go (inr a) (inl b) c d = rw (a, b) (omega arith)
    go (inr a) (inr b) (inl c) d = rw (a, b, c) (omega arith)
    go (inr a) (inr b) (inr c) (inl d) = rw (a, b, c, d) (omega arith)
    go (inr a) (inr b) (inr c) (inr d) = rw (a, b, c, d, lt-leb 0xFE k h) (omega arith)

-- What the number of the next token tells.
pub data View : List ℕ → ℕ → Type 0 where
  none : View [] 0xFF
  wrong : {b : List ℕ} → View b 0xFE
  token : {b : List ℕ} (t : Token) → Valid t → ((ts : List Token) → Spells (drop (size (number t)) b) ts → Spells b (t ∷ ts)) → View b (number t)

worded : {w : List ℕ} {t : Token} (b : List ℕ) → Word w t → Valid t → size (number t) ≡ length w → stands w b ≡ true → View b (number t)
worded {w} {t} b sp v e h =
    let s = stood w b h in
    token t v (λ ts x. word sp s.parts_it (subst (λ (c : List ℕ). Spells c ts) (ap (λ (n : ℕ). drop n b) e ∙ s.dropped) x) s.whole)

-- the bytes of the four words
abbrev bytes_not : List ℕ
bytes_not = 110 ∷ 111 ∷ 116 ∷ []

abbrev bytes_and : List ℕ
bytes_and = 97 ∷ 110 ∷ 100 ∷ []

abbrev bytes_or : List ℕ
bytes_or = 111 ∷ 114 ∷ []

abbrev bytes_implies : List ℕ
bytes_implies = 105 ∷ 109 ∷ 112 ∷ 108 ∷ 105 ∷ 101 ∷ 115 ∷ []

word_view : (b : List ℕ) → View b (word_number b)
unfolding word_number
word_view b = go (decide (stands bytes_not b)) (decide (stands bytes_and b)) (decide (stands bytes_or b)) (decide (stands bytes_implies b))
  where
    go : (stands bytes_not b ≡ true) ⊎ (stands bytes_not b ≡ false) → (stands bytes_and b ≡ true) ⊎ (stands bytes_and b ≡ false)
        → (stands bytes_or b ≡ true) ⊎ (stands bytes_or b ≡ false) → (stands bytes_implies b ≡ true) ⊎ (stands bytes_implies b ≡ false) → View b (word_number b)
    go (inl h) i j k = rw h (worded b n_o_t tt refl h)
    go (inr h) (inl i) j k = rw (h, i) (worded b a_n_d tt refl i)
    go (inr h) (inr i) (inl j) k = rw (h, i, j) (worded b o_r tt refl j)
    go (inr h) (inr i) (inr j) (inl k) = rw (h, i, j, k) (worded b i_m_p_l_i_e_s tt refl k)
    go (inr h) (inr i) (inr j) (inr k) = rw (h, i, j, k) wrong

letter_view : (x : ℕ) (b : List ℕ) → 97 ≤ x → x < 107 → Parted b → View (x ∷ b) (x - 97)
letter_view x b h k p = token (letter (x - 97)) (omega arith) front
  where
    spelled : Word (x ∷ []) (letter (x - 97))
    spelled = let e : 97 + (x - 97) ≡ x = omega arith in subst (λ (y : ℕ). Word (y ∷ []) (letter (x - 97))) e (a_to_j (omega arith))

    front : (ts : List Token) → Spells (drop (size (x - 97)) (x ∷ b)) ts → Spells (x ∷ b) (letter (x - 97) ∷ ts)
    front ts y = word spelled p (subst (λ (n : ℕ). Spells (drop n (x ∷ b)) ts) (small (x - 97) (omega arith)) y) refl

opening_view : (x : ℕ) (b : List ℕ) → x ≡ 40 → View (x ∷ b) 0x84
opening_view x b e = token opening tt front
  where
    front : (ts : List Token) → Spells b ts → Spells (x ∷ b) (opening ∷ ts)
    front ts y = rw e (opened y)

closing_view : (x : ℕ) (b : List ℕ) → x ≡ 41 → View (x ∷ b) 0x85
closing_view x b e = token closing tt front
  where
    front : (ts : List Token) → Spells b ts → Spells (x ∷ b) (closing ∷ ts)
    front ts y = rw e (closed y)

pub view : (b : List ℕ) → View b (token_number b)
unfolding token_number
view [] = none
view (x ∷ b) = go (decide (eqb x 40)) (decide (eqb x 41)) (decide (is_letter x)) (decide (parted b))
  where
    go : (eqb x 40 ≡ true) ⊎ (eqb x 40 ≡ false) → (eqb x 41 ≡ true) ⊎ (eqb x 41 ≡ false) → (is_letter x ≡ true) ⊎ (is_letter x ≡ false)
        → (parted b ≡ true) ⊎ (parted b ≡ false) → View (x ∷ b) (token_number (x ∷ b))
    go (inl e) f l p = rw e (opening_view x b (eqb-true x 40 e))
    go (inr e) (inl f) l p = rw (e, f) (closing_view x b (eqb-true x 41 f))
    go (inr e) (inr f) (inl l) (inl p) =
        let k = both_true (leb 97 x) (ltb x 107) l in
        rw (e, f, l, p) (letter_view x b (leb-true 97 x k.0) (ltb-true x 107 k.1) (parted_back b p))
    go (inr e) (inr f) (inl l) (inr p) = rw (e, f, l, p) (word_view (x ∷ b))
    go (inr e) (inr f) (inr l) p = rw (e, f, l) (word_view (x ∷ b))

-- Blanks before a text make no difference.
pub unblank : (b : List ℕ) (ts : List Token) → Spells (clear b) ts → Spells b ts
unfolding blanks
unblank [] ts x = x
unblank (y ∷ b) ts x = go (decide (eqb y 32)) (λ z. unblank b ts z)
  where
    go : (eqb y 32 ≡ true) ⊎ (eqb y 32 ≡ false) → (Spells (clear b) ts → Spells b ts) → Spells (y ∷ b) ts
    go (inl e) more = rw (eqb-true y 32 e) (blank (more (rw e at x)))
    go (inr e) more = rw e at x

-- So the bytes begin with the token that has the next token's number.
pub begins : (b : List ℕ) (t : Token) (ts : List Token) → Valid t → token_number (clear b) ≡ number t → Spells (drop (size (number t)) (clear b)) ts → Spells b (t ∷ ts)
begins b t ts v e x = unblank b (t ∷ ts) (go (clear b) (token_number (clear b)) e (view (clear b)) x)
  where
    go : (c : List ℕ) (n : ℕ) → n ≡ number t → View c n → Spells (drop (size (number t)) c) ts → Spells c (t ∷ ts)
    go c n f none y = absurd (let k = (known t v).small in omega arith)
    go c n f wrong y = absurd (let k = (known t v).small in omega arith)
    go c n f (token u w front) y =
        subst (λ (a : Token). Spells c (a ∷ ts)) (same_token u t w v f) (front ts (subst (λ (m : ℕ). Spells (drop (size m) c) ts) (sym f) y))

pub ends : (b : List ℕ) → token_number (clear b) ≡ 0xFF → Spells b []
ends b e = unblank b [] (go (clear b) (token_number (clear b)) e (view (clear b)))
  where
    go : (c : List ℕ) (n : ℕ) → n ≡ 0xFF → View c n → Spells c []
    go c n f none = end
    go c n f wrong = absurd (omega arith)
    go c n f (token u w front) = absurd (let k = (known u w).small in omega arith)
