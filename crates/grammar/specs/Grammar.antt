-- Document 02, N1: the grammar of typed rules. "Not binds tightest, then and, or, implies; and and or group to the left, implies to the right.
-- Brackets inside brackets go at most 16 deep". `Part l d s p`: the tokens s are a part of level l in which at most d brackets are open at
-- once, and p is its postfix list, "operands left to right".
use Rattle.std.specs.Prelude.{List, [], ◌∷◌, ◌++◌, ℕ, suc, ◌<◌}
use Rattle.grammar.specs.Token.{Operator, and, or, Token, letter, not, operator, implies, opening, closing, byte, not_byte}

-- From the loosest to the tightest; `chain o` is parts joined by the operator o.
pub data Level : Type 0 where
  implication : Level
  chain : Operator → Level
  negation : Level
  operand : Level

-- "Not binds tightest, then and, or": what an operator joins.
abbrev pub tighter : Operator → Level
tighter and = negation
tighter or = chain and

-- and what implies joins
abbrev pub loosest : Level
loosest = chain or

pub data Part : Level → ℕ → List Token → List ℕ → Type 0 where
  -- "Actions are the letters a to j"
  action : {d a : ℕ} → a < 10 → Part operand d (letter a ∷ []) (a ∷ [])
  -- a rule in brackets, in which one bracket less may be opened
  bracket : {d : ℕ} {s : List Token} {p : List ℕ} → Part implication d s p → Part operand (suc d) (opening ∷ (s ++ (closing ∷ []))) p
  -- "Not binds tightest"
  negated : {d : ℕ} {s : List Token} {p : List ℕ} → Part negation d s p → Part negation d (not ∷ s) (p ++ (not_byte ∷ []))
  plain : {d : ℕ} {s : List Token} {p : List ℕ} → Part operand d s p → Part negation d s p
  -- "and and or group to the left"
  joined : {d : ℕ} {o : Operator} {s t : List Token} {p q : List ℕ} → Part (chain o) d s p → Part (tighter o) d t q
      → Part (chain o) d (s ++ (operator o ∷ t)) (p ++ (q ++ (byte o ∷ [])))
  single : {d : ℕ} {o : Operator} {s : List Token} {p : List ℕ} → Part (tighter o) d s p → Part (chain o) d s p
  -- "implies to the right"; ""p implies q" means "not p or q""
  if_then : {d : ℕ} {s t : List Token} {p q : List ℕ} → Part loosest d s p → Part implication d t q
      → Part implication d (s ++ (implies ∷ t)) ((p ++ (not_byte ∷ [])) ++ (q ++ (byte or ∷ [])))
  no_implies : {d : ℕ} {s : List Token} {p : List ℕ} → Part loosest d s p → Part implication d s p
