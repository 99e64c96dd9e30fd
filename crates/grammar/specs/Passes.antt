-- What may follow what in a typed rule, without regard to how operators group, and how many postfix bytes it becomes: what can be told of a
-- text in one pass. Its tokens are in the grammar exactly where they pass.
use Rattle.std.specs.Prelude.{Bool, true, false, List, [], ◌∷◌, ℕ, suc, ◌+◌, ◌<◌}
use Rattle.grammar.specs.Token.{Operator, Token, letter, not, operator, implies, opening, closing}
use Rattle.grammar.specs.Typed.{deepest}

-- `Passes due k ts`: an operand is due (or an operator), k brackets are open, and the tokens ts close them all and end a rule.
pub data Passes : Bool → ℕ → List Token → Type 0 where
  end : Passes false 0 []
  action : {k a : ℕ} {ts : List Token} → a < 10 → Passes false k ts → Passes true k (letter a ∷ ts)
  negated : {k : ℕ} {ts : List Token} → Passes true k ts → Passes true k (not ∷ ts)
  opened : {k : ℕ} {ts : List Token} → k < deepest → Passes true (suc k) ts → Passes true k (opening ∷ ts)
  joined : {k : ℕ} {o : Operator} {ts : List Token} → Passes true k ts → Passes false k (operator o ∷ ts)
  implied : {k : ℕ} {ts : List Token} → Passes true k ts → Passes false k (implies ∷ ts)
  closed : {k : ℕ} {ts : List Token} → Passes false k ts → Passes false (suc k) (closing ∷ ts)

-- How many postfix bytes a token becomes, and some tokens.
abbrev pub weight : Token → ℕ
weight (letter a) = 1
weight not = 1
weight (operator o) = 1
weight implies = 2
weight opening = 0
weight closing = 0

unfoldable pub weights : List Token → ℕ
weights [] = 0
weights (t ∷ ts) = weight t + weights ts
