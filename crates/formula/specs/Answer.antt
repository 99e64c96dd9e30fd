-- Document 02, N1: what is answered to a text. "The text becomes a postfix rule with operands left to right, handed back by value with its length,
-- the bytes after it 0." "Checks: 14 for text outside this grammar or too deep, then 15 for more than 127 postfix bytes".
-- The proof of the promises is `answers`.
use Rattle.std.specs.Prelude.{◌≡◌, cond, List, ◌++◌, ◌↔◌, ℕ, ◌-◌, ◌≤◌, ◌<◌, leb, length, take, drop, replicate, Ok, Err}
use Rattle.std.proofs.Math.Option.{some}
use Rattle.bodies.specs.Rule.{Rule}
use Rattle.grammar.specs.Typed.{Typed, Decision, inside, outside}
use Rattle.grammar.proofs.TypedRules.{typed_rules}
use Rattle.formula.specs.Numbers.{number_of, length_of}
use Rattle.formula.specs.declared.Refusal.{Refusal}
use Rattle.formula.specs.declared.Refusal.TheVariants as why
use Rattle.formula.specs.declared.Turned.{Turned}

-- "127 postfix bytes"
abbrev pub room : ℕ
room = 127

abbrev pub written : List ℕ → Turned
written p = record { answer = Ok (length p); bytes = p ++ replicate (room - length p) 0 }

abbrev pub refusal : Refusal → Turned
refusal f = record { answer = Err f; bytes = replicate room 0 }

abbrev pub answer_for : {text : List ℕ} → Decision text → Turned
answer_for (outside h) = refusal why.NotARule
answer_for (inside p t) = cond (leb (length p) room) (written p) (refusal why.TooLong)

-- A text is a typed rule or is none, and as one it has one postfix list: `typed_rules`.
unfoldable pub answer_of : List ℕ → Turned
answer_of text = answer_for (typed_rules.decided text)

-- The text is a rule whose postfix list has n bytes.
pub record Becomes (text : List ℕ) (n : ℕ) : Type 0 where
  pub postfix : List ℕ
  pub typed : Typed text postfix
  pub bytes : length postfix ≡ n

-- more than there is room for
pub record TooLong (text : List ℕ) : Type 0 where
  pub postfix : List ℕ
  pub typed : Typed text postfix
  pub long : room < length postfix

-- The postfix bytes p are "handed back by value with its length, the bytes after it 0".
pub record HandsBack (p : List ℕ) (t : Turned) : Type 0 where
  pub long : length_of t.answer ≡ some (length p)
  pub bytes : t.bytes ≡ p ++ replicate (127 - length p) 0

pub record Answers : Type 0 where
  -- exactly a text of the grammar whose postfix list has at most 127 bytes gets them
  pub postfix : (text p : List ℕ) → length p ≤ room → HandsBack p (answer_of text) ↔ Typed text p
  -- 14 exactly where the text is outside the grammar or too deep
  pub fourteen : (text : List ℕ) → (number_of (answer_of text).answer ≡ some 14) ↔ ((p : List ℕ) → Typed text p → ⊥)
  -- else 15
  pub fifteen : (text : List ℕ) → (number_of (answer_of text).answer ≡ some 15) ↔ TooLong text
  -- "the bytes after it 0", and all of them after a refusal
  pub zeros : (text : List ℕ) (n : ℕ) → length_of (answer_of text).answer ≡ some n → drop n (answer_of text).bytes ≡ replicate (127 - n) 0
  pub refused_zeros : (text : List ℕ) (n : ℕ) → number_of (answer_of text).answer ≡ some n → (answer_of text).bytes ≡ replicate 127 0
  -- what is handed back is a rule of the plan file for ten actions
  pub a_rule : (text : List ℕ) (n : ℕ) → length_of (answer_of text).answer ≡ some n → Rule 10 (take n (answer_of text).bytes)
