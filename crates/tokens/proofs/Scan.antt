-- What the tests of the bytes show of what they begin with.
use mathlib.Core.Path.{◌≡◌, refl, ap}
use mathlib.Core.Bool.{Bool, true, false, cond, ◌&&◌}
use mathlib.Core.List.{List, [], ◌∷◌}
use mathlib.Core.Logic.{◌≢◌}
use Prim.Native.Nat.{ℕ, ◌-◌, ◌≤◌, ◌<◌}
use native.Mathlib.Omega.{arith}
use lib.Dec.{eqb}
use lib.ListN.{length, drop, get_or, take, drop_of_length-le}
use Rattle.std.specs.List.{take_while, prefix_len}
use Rattle.std.specs.Cmp.Lexicographic.{pointwise}
use Rattle.std.proofs.lemmas.List.Folds.{length-prefix_len}
use Rattle.std.proofs.lemmas.List.Sums.{prefix_len-le-length}
use Rattle.std.proofs.lemmas.Grind.{common_steps}
use Rattle.std.proofs.lemmas.Bool.Decides.{nat_tests}
use Rattle.grammar.specs.Next.{parts, parted, stands, word_number, token_number, is_letter, blanks}
use Rattle.tokens.specs.Tokens.{next_of, token_of}
use Rattle.tokens.specs.declared.Next.{Next}
use Rattle.tokens.specs.declared.Token.{Token}
use Rattle.tokens.specs.declared.Token.TheVariants.{Letter, End}

pub blanks_lead : (b : List ℕ) → length (take_while (λ x. eqb x 32) b) ≡ blanks b
unfolding blanks
blanks_lead b = rw (length-prefix_len (λ x. eqb x 32) b) (go b)
  where
    go : (b : List ℕ) → prefix_len (λ x. eqb x 32) b ≡ blanks b
    go [] = refl
    go (x ∷ b) = rw (go b) (grind arith)

pub blanks_most : (b : List ℕ) → blanks b ≤ length b
blanks_most b = rw (← blanks_lead b) (grind (arith, common_steps, prefix_len-le-length))

pub parted_none : (b : List ℕ) → length b < 1 → parted b ≡ true
unfolding parted
parted_none [] h = refl
parted_none (x ∷ b) h = absurd (omega arith)

pub parted_some : (b : List ℕ) → 1 ≤ length b → parted b ≡ parts (get_or b 0 0)
unfolding parted
parted_some [] h = absurd (omega arith)
parted_some (x ∷ b) h = refl

stands_lead : (w b : List ℕ) → stands w b ≡ cond (pointwise eqb w (take (length w) b)) (parted (drop (length w) b)) false
unfolding stands
stands_lead [] b = refl
stands_lead (x ∷ w) [] = refl
stands_lead (x ∷ w) (y ∷ b) = rw (stands_lead w b) (both (eqb x y) (pointwise eqb w (take (length w) b)) (parted (drop (length w) b)))
  where
    both : (s t u : Bool) → cond s (cond t u false) false ≡ cond (s && t) u false
    both true t u = refl
    both false t u = refl

pub ruleset parted_first = (parted_none, parted_some)

-- the rest of a list, as the part of a slice up to its end
rest : (n : ℕ) (b : List ℕ) → take (length b - n) (drop n b) ≡ drop n b
rest n b = grind (arith, common_steps)

pub stands_true : (w b : List ℕ) → true ≡ pointwise eqb w (take (length w) b) → stands w b ≡ parted (take (length b - length w) (drop (length w) b))
stands_true w b h = rw (stands_lead w b, ← h, rest (length w) b) refl

pub stands_false : (w b : List ℕ) → false ≡ pointwise eqb w (take (length w) b) → stands w b ≡ false
stands_false w b h = rw (stands_lead w b, ← h) refl

pub ruleset stands_first = (stands_true, stands_false)

pub token_none : (b : List ℕ) → length b < 1 → token_number b ≡ 0xFF
unfolding token_number
token_none [] h = refl
token_none (x ∷ b) h = absurd (omega arith)

token_some : (b : List ℕ) → 1 ≤ length b
    → token_number b
    ≡ cond (eqb (get_or b 0 0) 40) 0x84
    (cond (eqb (get_or b 0 0) 41) 0x85
    (cond (is_letter (get_or b 0 0)) (cond (parted (drop 1 b)) (get_or b 0 0 - 97) (word_number b)) (word_number b)))
unfolding token_number
token_some [] h = absurd (omega arith)
token_some (x ∷ b) h = refl

pub token_opening : (b : List ℕ) → 1 ≤ length b → get_or b 0 0 ≡ 40 → token_number b ≡ 0x84
token_opening b h e = grind (arith, nat_tests, token_some)

pub token_closing : (b : List ℕ) → 1 ≤ length b → get_or b 0 0 ≡ 41 → token_number b ≡ 0x85
token_closing b h e = grind (arith, nat_tests, token_some)

pub letter_of : (a : ℕ) → a < 10 → token_of a ≡ Letter a
letter_of a h = grind (arith, nat_tests)

pub token_letter : (b : List ℕ) → 1 ≤ length b → 97 ≤ get_or b 0 0 → get_or b 0 0 < 107 → parted (take (length b - 1) (drop 1 b)) ≡ true
    → token_of (token_number b) ≡ Letter (get_or b 0 0 - 97)
token_letter b h l m e =
    let p = rw rest at e in
    let n : token_number b ≡ get_or b 0 0 - 97 = grind (arith, nat_tests, token_some) in
    rw n (letter_of (get_or b 0 0 - 97) (omega arith))

pub word_low : (b : List ℕ) → 1 ≤ length b → get_or b 0 0 < 97 → get_or b 0 0 ≢ 40 → get_or b 0 0 ≢ 41 → token_number b ≡ word_number b
word_low b h l m n = grind (arith, nat_tests, token_some)

pub word_high : (b : List ℕ) → 1 ≤ length b → 107 ≤ get_or b 0 0 → token_number b ≡ word_number b
word_high b h l = grind (arith, nat_tests, token_some)

pub word_joined : (b : List ℕ) → 1 ≤ length b → 97 ≤ get_or b 0 0 → parted (take (length b - 1) (drop 1 b)) ≡ false → token_number b ≡ word_number b
word_joined b h l e = let p = rw rest at e in grind (arith, nat_tests, token_some)

pub ruleset token_first = (token_none, token_opening, token_closing, token_letter, word_low, word_high, word_joined)

pub next_none : (text : List ℕ) (at : ℕ) → length text ≤ at → next_of text at ≡ record { kind = End; at = at }
unfolding blanks token_number
next_none text at h = rw (drop_of_length-le text h) (ap (λ (n : ℕ). next End n) (omega arith))
  where
    next : Token → ℕ → Next
    next k n = record { kind = k; at = n }
