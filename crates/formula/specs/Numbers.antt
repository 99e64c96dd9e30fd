-- The papers' number and values for each answer to a text: "If an answer is an enum, a definition gives this paper's number and values for each
-- of its cases. The promises use this definition."
use Rattle.std.proofs.Math.Option.{Option, none, some}
use Rattle.std.specs.Prelude.{ℕ, Result, Ok, Err}
use Rattle.formula.specs.declared.Refusal.{Refusal}
use Rattle.formula.specs.declared.Refusal.TheVariants.{NotARule, TooLong}

-- what a text is answered: how many postfix bytes it becomes, or why it is refused
abbrev pub Answer : Type 0
Answer = Result ℕ Refusal

-- document 02's number of a refusal
abbrev pub number : Refusal → ℕ
number NotARule = 14
number TooLong = 15

-- the number of a refusal; a text that became a rule has none
abbrev pub number_of : Answer → Option ℕ
number_of (Ok n) = none
number_of (Err f) = some (number f)

-- "its length": how many postfix bytes the rule has; a refusal has none
abbrev pub length_of : Answer → Option ℕ
length_of (Ok n) = some n
length_of (Err f) = none
