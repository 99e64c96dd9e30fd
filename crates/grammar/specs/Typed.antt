-- Document 02, N1: which texts are typed rules, and what each becomes. The proof of the promises is `typed_rules`.
use Rattle.std.specs.Prelude.{List, [], ◌∷◌, ◌++◌, ◌↔◌, ◌≡◌, ℕ, ◌≤◌, ◌<◌, length, get_or}
use Rattle.bodies.specs.Rule.{Rule}
use Rattle.grammar.specs.Token.{Token, not_byte}
use Rattle.grammar.specs.Spelling.{Spells}
use Rattle.grammar.specs.Grammar.{Part, implication}

-- "Brackets inside brackets go at most 16 deep; 17 open at once are too deep."
abbrev pub deepest : ℕ
deepest = 16

-- The text is a rule as people type it, no deeper than that, and p is its postfix list.
pub record Typed (text p : List ℕ) : Type 0 where
  pub tokens : List Token
  pub spelled : Spells text tokens
  pub part : Part implication deepest tokens p

-- A text is a typed rule, or is none.
pub data Decision (text : List ℕ) : Type 0 where
  inside : (p : List ℕ) → Typed text p → Decision text
  outside : ((p : List ℕ) → Typed text p → ⊥) → Decision text

-- Every action of a postfix list is below the number: a byte below hexadecimal 80 is an action.
unfoldable pub Below : ℕ → List ℕ → Type 0
Below actions [] = Unit {0}
Below actions (t ∷ p) = (t < not_byte → t < actions) × Below actions p

-- The bytes that a text may have: blanks, brackets and small letters.
pub data InText : ℕ → Type 0 where
  blank : InText 32
  opening : InText 40
  closing : InText 41
  small : {x : ℕ} → 97 ≤ x → x < 123 → InText x

pub record TypedRules : Type 0 where
  pub decided : (text : List ℕ) → Decision text
  -- a text may be as long as one likes: blanks before it and behind it make no difference
  pub blank_before : (text p : List ℕ) → Typed text p → Typed (32 ∷ text) p
  pub blank_behind : (text p : List ℕ) → Typed text p → Typed (text ++ (32 ∷ [])) p
  -- "blanks (byte 32), all lower case"
  pub bytes : (text p : List ℕ) → Typed text p → (i : ℕ) → i < length text → InText (get_or text i 0)
  -- no text has two postfix lists
  pub unambiguous : (text p q : List ℕ) → Typed text p → Typed text q → p ≡ q
  -- what a text becomes is a rule of the plan file for ten actions,
  pub a_rule : (text p : List ℕ) → Typed text p → Rule 10 p
  -- and for any number of them, exactly where that has every letter of the text: else the plan file meets 9
  pub letters : (text p : List ℕ) (actions : ℕ) → Typed text p → Rule actions p ↔ Below actions p
