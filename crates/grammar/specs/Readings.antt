-- How the readers go through a text, token by token: the grammar without its choices. `Reads l d ts p rest`: from the tokens ts the reader
-- of l takes a part with the postfix list p and leaves rest. A tail is what follows the first part of a chain or of an implication.
use Rattle.std.specs.Prelude.{List, [], ◌∷◌, ◌++◌, ◌≡◌, ℕ, suc, ◌<◌}
use Rattle.grammar.specs.Token.{Operator, and, or, Token, letter, not, operator, implies, opening, closing, byte, not_byte}
use Rattle.grammar.specs.Next.{first, number}

pub data Reader : Type 0 where
  implication : Reader
  implies_tail : Reader
  chain : Operator → Reader
  tail : Operator → Reader
  negation : Reader
  operand : Reader

-- what the reader of a chain calls
abbrev pub inner : Operator → Reader
inner and = negation
inner or = chain and

pub data Reads : Reader → ℕ → List Token → List ℕ → List Token → Type 0 where
  action : {d a : ℕ} {rest : List Token} → a < 10 → Reads operand d (letter a ∷ rest) (a ∷ []) rest
  bracket : {d : ℕ} {ts rest : List Token} {p : List ℕ} → Reads implication d ts p (closing ∷ rest) → Reads operand (suc d) (opening ∷ ts) p rest
  negated : {d : ℕ} {ts rest : List Token} {p : List ℕ} → Reads negation d ts p rest → Reads negation d (not ∷ ts) (p ++ (not_byte ∷ [])) rest
  plain : {d : ℕ} {ts rest : List Token} {p : List ℕ} → Reads operand d ts p rest → Reads negation d ts p rest
  chained : {d : ℕ} {o : Operator} {ts us rest : List Token} {p q : List ℕ} → Reads (inner o) d ts p us → Reads (tail o) d us q rest → Reads (chain o) d ts (p ++ q) rest
  more : {d : ℕ} {o : Operator} {ts us rest : List Token} {p q : List ℕ} → Reads (inner o) d ts p us → Reads (tail o) d us q rest
      → Reads (tail o) d (operator o ∷ ts) ((p ++ (byte o ∷ [])) ++ q) rest
  no_more : {d : ℕ} {o : Operator} {ts : List Token} → (first ts ≡ byte o → ⊥) → Reads (tail o) d ts [] ts
  then : {d : ℕ} {ts us rest : List Token} {p q : List ℕ} → Reads (chain or) d ts p us → Reads implies_tail d us q rest → Reads implication d ts (p ++ q) rest
  implied : {d : ℕ} {ts rest : List Token} {p : List ℕ} → Reads implication d ts p rest
      → Reads implies_tail d (implies ∷ ts) (not_byte ∷ (p ++ (byte or ∷ []))) rest
  not_implied : {d : ℕ} {ts : List Token} → (first ts ≡ number implies → ⊥) → Reads implies_tail d ts [] ts
