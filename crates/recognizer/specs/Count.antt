-- How many postfix bytes a text becomes, if it is a typed rule: the whole contract of the pass.
use Rattle.std.specs.Prelude.{List, Option, Some, None, ℕ, length}
use Rattle.grammar.specs.Typed.{Decision, inside, outside}
use Rattle.grammar.proofs.TypedRules.{typed_rules}

abbrev pub count_for : {text : List ℕ} → Decision text → Option ℕ
count_for (inside p t) = Some (length p)
count_for (outside h) = None

-- A text is a typed rule or is none, and as one it has one postfix list: `typed_rules`.
unfoldable pub count_of : List ℕ → Option ℕ
count_of text = count_for (typed_rules.decided text)
