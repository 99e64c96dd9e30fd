-- Which bytes a typed rule has, and that blanks around it make no difference: by how its bytes spell it.
use mathlib.Core.Path.{◌≡◌, refl, sym, ap, subst, ◌∙◌}
use mathlib.Core.Bool.{Bool, true, false, cond}
use mathlib.Core.List.{List, [], ◌∷◌, ◌++◌, append_assoc}
use Prim.Native.Nat.{ℕ, zero, suc, ◌+◌, ◌<◌}
use native.Mathlib.Omega.{arith}
use lib.Dec.{ltb, leb}
use lib.ListN.{length, get_or}
use borrow.Author.Tests.{leb-true, ltb-true}
use Rattle.blocks.proofs.Bounded.{both_true}
use Rattle.grammar.specs.Token.{Token}
use Rattle.grammar.specs.Spelling.{Word, a_to_j, n_o_t, a_n_d, o_r, i_m_p_l_i_e_s, Parted, at_end, at_blank, at_opening, at_closing, Spells, end, blank, opened, closed, word}
use Rattle.grammar.specs.Typed.{InText}
use Rattle.grammar.specs.Typed as text

-- Each of some bytes may stand in a text.
unfoldable All : List ℕ → Type 0
All [] = Unit {0}
All (x ∷ b) = InText x × All b

all_append : (w b : List ℕ) → All w → All b → All (w ++ b)
unfolding All
all_append [] b x y = y
all_append (c ∷ w) b x y = (x.0, all_append w b x.1 y)

-- small letters, by a test that computes
unfoldable are_small : List ℕ → Bool
are_small [] = true
are_small (x ∷ w) = cond (leb 97 x) (cond (ltb x 123) (are_small w) false) false

all_small : (w : List ℕ) → are_small w ≡ true → All w
unfolding All are_small
all_small [] h = tt
all_small (x ∷ w) h =
    let a = both_true (leb 97 x) _ h in
    let b = both_true (ltb x 123) _ a.1 in
    (text.small (leb-true 97 x a.0) (ltb-true x 123 b.0), all_small w b.1)

all_word : {w : List ℕ} {t : Token} → Word w t → All w
unfolding All are_small
all_word (a_to_j {a} h) = (text.small {x = 97 + a} (omega arith) (omega arith), tt)
all_word n_o_t = all_small (110 ∷ 111 ∷ 116 ∷ []) refl
all_word a_n_d = all_small (97 ∷ 110 ∷ 100 ∷ []) refl
all_word o_r = all_small (111 ∷ 114 ∷ []) refl
all_word i_m_p_l_i_e_s = all_small (105 ∷ 109 ∷ 112 ∷ 108 ∷ 105 ∷ 101 ∷ 115 ∷ []) refl

all_spelled : {b : List ℕ} {ts : List Token} → Spells b ts → All b
unfolding All
all_spelled end = tt
all_spelled (blank x) = (text.blank, all_spelled x)
all_spelled (opened x) = (text.opening, all_spelled x)
all_spelled (closed x) = (text.closing, all_spelled x)
all_spelled (word {w} {b} sp p x e) = subst (λ (c : List ℕ). All c) e (all_append w b (all_word sp) (all_spelled x))

each : (b : List ℕ) → All b → (i : ℕ) → i < length b → InText (get_or b i 0)
unfolding All
each [] x i h = absurd (omega arith)
each (c ∷ b) x zero h = x.0
each (c ∷ b) x (suc i) h = each b x.1 i (omega arith)

pub bytes : {b : List ℕ} {ts : List Token} → Spells b ts → (i : ℕ) → i < length b → InText (get_or b i 0)
bytes {b} x i h = each b (all_spelled x) i h

-- a blank behind
parted_on : (b : List ℕ) → Parted b → Parted (b ++ (32 ∷ []))
parted_on b at_end = at_blank
parted_on b at_blank = at_blank
parted_on b at_opening = at_opening
parted_on b at_closing = at_closing

pub behind : {b : List ℕ} {ts : List Token} → Spells b ts → Spells (b ++ (32 ∷ [])) ts
behind end = blank end
behind (blank x) = blank (behind x)
behind (opened x) = opened (behind x)
behind (closed x) = closed (behind x)
behind (word {w} {b} sp p x e) = word sp (parted_on b p) (behind x) (sym (append_assoc w b (32 ∷ [])) ∙ ap (λ (c : List ℕ). c ++ (32 ∷ [])) e)
