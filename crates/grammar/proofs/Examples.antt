-- Texts and what they become: the tokens by a test that computes, the parts written out; and texts that are no rules, by the test that tokens pass.
use mathlib.Core.Path.{◌≡◌, refl}
use mathlib.Core.Bool.{Bool, true, false, cond}
use mathlib.Core.List.{List, [], ◌∷◌, ◌++◌}
use Prim.Native.Nat.{ℕ, zero, suc, ◌<◌}
use native.Mathlib.Omega.{arith}
use lib.Dec.{ltb, eqb}
use lib.ListN.{drop}
use borrow.Author.Tests.{ltb-true, eqb-true}
use Rattle.blocks.proofs.Bounded.{both_true}
use Rattle.text.specs.Text.{ascii}
use Rattle.grammar.specs.Token.{and, Token, letter, not, operator, implies, opening, closing}
use Rattle.grammar.specs.Spelling.{Spells}
use Rattle.grammar.specs.Grammar.{Part, implication, negation, loosest, action, bracket, negated, plain, joined, single, if_then, no_implies}
use Rattle.grammar.specs.Typed.{Typed, deepest}
use Rattle.grammar.specs.Next.{none, number, parted, stands, word_number, token_number, size, blanks, clear}
use Rattle.grammar.specs.Examples.{Examples, Outside, bracketed}
use Rattle.grammar.proofs.Lexing.{Valid}
use Rattle.grammar.proofs.Views.{begins, ends}
use Rattle.grammar.proofs.Decided.{passing, not_typed, never_wrong}

-- Do the bytes spell the tokens?
abbrev is_valid : Token → Bool
is_valid (letter a) = ltb a 10
is_valid not = true
is_valid (operator o) = true
is_valid implies = true
is_valid opening = true
is_valid closing = true

valid : (t : Token) → is_valid t ≡ true → Valid t
valid (letter a) h = ltb-true a 10 h
valid not h = tt
valid (operator o) h = tt
valid implies h = tt
valid opening h = tt
valid closing h = tt

unfoldable spelling : List ℕ → List Token → Bool
spelling b [] = eqb (token_number (clear b)) none
spelling b (t ∷ ts) = cond (is_valid t) (cond (eqb (token_number (clear b)) (number t)) (spelling (drop (size (number t)) (clear b)) ts) false) false

spelled : (b : List ℕ) (ts : List Token) → spelling b ts ≡ true → Spells b ts
unfolding spelling
spelled b [] h = ends b (eqb-true (token_number (clear b)) none h)
spelled b (t ∷ ts) h =
    let v = both_true (is_valid t) _ h in
    let k = both_true (eqb (token_number (clear b)) (number t)) _ v.1 in
    begins b t ts (valid t v.0) (eqb-true _ _ k.0) (spelled (drop (size (number t)) (clear b)) ts k.1)

typed : (text : List ℕ) (ts : List Token) (p : List ℕ) → spelling text ts ≡ true → Part implication deepest ts p → Typed text p
typed text ts p h x = record { tokens = ts; spelled = spelled text ts h; part = x }

outside : (text : List ℕ) (ts : List Token) → spelling text ts ≡ true → passing true 0 ts ≡ false → Outside text
outside text ts h k = not_typed text ts (spelled text ts h) k

-- A letter, and a part as one of a looser level.
one : {d : ℕ} (a : ℕ) → a < 10 → Part negation d (letter a ∷ []) (a ∷ [])
one a h = plain (action h)

module _ {d : ℕ} where
  a : Part negation d (letter 0 ∷ []) (0 ∷ [])
  a = one 0 (omega arith)

  b : Part negation d (letter 1 ∷ []) (1 ∷ [])
  b = one 1 (omega arith)

  c : Part negation d (letter 2 ∷ []) (2 ∷ [])
  c = one 2 (omega arith)

  tight : {s : List Token} {p : List ℕ} → Part negation d s p → Part loosest d s p
  tight x = single (single x)

-- a in brackets
abbrev deep : ℕ → List Token
deep zero = letter 0 ∷ []
deep (suc n) = opening ∷ (deep n ++ (closing ∷ []))

brackets : (n : ℕ) → Part implication n (deep n) (0 ∷ [])
brackets zero = no_implies (tight a)
brackets (suc n) = no_implies (tight (plain (bracket (brackets n))))

pub examples : Examples
unfolding spelling token_number word_number stands parted blanks passing
examples = record {
  request = typed (ascii "not a or (b and c)") _ _ refl (no_implies (joined (tight (negated a)) (single (plain (bracket (no_implies (single (joined (single b) c))))))));
  swallowed = typed (ascii "not d or b") _ _ refl (no_implies (joined (tight (negated (one 3 (omega arith)))) (single b)));
  not_and = typed (ascii "not a and b") _ _ refl (no_implies (single (joined (single (negated a)) b)));
  and_or = typed (ascii "a and b or c") _ _ refl (no_implies (joined (single (joined (single a) b)) (single c)));
  or_and = typed (ascii "a or b and c") _ _ refl (no_implies (joined (tight a) (joined (single b) c)));
  or_implies_or = typed (ascii "a or b implies c or d") _ _ refl (if_then (joined (tight a) (single b)) (no_implies (joined (tight c) (single (one 3 (omega arith))))));
  and_and = typed (ascii "a and b and c") _ _ refl (no_implies (single (joined (joined (single a) b) c)));
  or_or = typed (ascii "a or b or c") _ _ refl (no_implies (joined (joined (tight a) (single b)) (single c)));
  implies_implies = typed (ascii "a implies b implies c") _ _ refl (if_then (tight a) (if_then (tight b) (no_implies (tight c))));
  not_bracket = typed (ascii "not(a)") _ _ refl (no_implies (tight (negated (plain (bracket (no_implies (tight a)))))));
  and_bracket = typed (ascii " a and(j) ") _ _ refl (no_implies (single (joined (single a) (plain (bracket (no_implies (tight (one 9 (omega arith)))))))));
  nota = λ p t. never_wrong (ascii "nota") t.tokens refl t.spelled;
  two_letters = outside (ascii "a b") (letter 0 ∷ letter 1 ∷ []) refl refl;
  newline = λ p t. never_wrong (ascii "a\n") t.tokens refl t.spelled;
  letter_k = λ p t. never_wrong (ascii "k") t.tokens refl t.spelled;
  capital = λ p t. never_wrong (ascii "A") t.tokens refl t.spelled;
  sixteen = typed (bracketed 16) (deep 16) (0 ∷ []) refl (brackets 16);
  seventeen = outside (bracketed 17) (deep 17) refl refl;
  nothing = outside [] [] refl refl;
  no_operand = outside (ascii "a and") (letter 0 ∷ operator and ∷ []) refl refl;
  no_closing = outside (ascii "(a") (opening ∷ letter 0 ∷ []) refl refl;
  no_opening = outside (ascii "a)") (letter 0 ∷ closing ∷ []) refl refl;
}
