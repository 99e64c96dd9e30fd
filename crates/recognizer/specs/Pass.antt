-- The pass over the tokens of a text, step by step.
use Rattle.std.specs.Prelude.{Bool, true, false, cond, Option, Some, None, ℕ, ◌+◌, ◌-◌, ltb}
use Rattle.grammar.specs.Typed.{deepest}
use Rattle.tokens.specs.declared.Token.{Token}
use Rattle.tokens.specs.declared.Token.TheVariants.{Letter, Not, And, Or, Implies, Opening, Closing, Wrong, End}
use Rattle.recognizer.specs.declared.Pass.{Pass}

abbrev pub passing : Bool → ℕ → ℕ → Pass
passing due depth count = record { due = due; depth = depth; count = count }

-- After a token that may come; there is no pass after one that may not.
abbrev pub onward : Pass → Bool → ℕ → ℕ → Option Pass
onward p due depth more = Some (passing due depth (p.count + more))

-- After a token, where an operand is due.
abbrev pub stepped_operand : Pass → Token → Option Pass
stepped_operand p (Letter a) = onward p false p.depth 1
stepped_operand p Not = onward p true p.depth 1
stepped_operand p And = None
stepped_operand p Or = None
stepped_operand p Implies = None
stepped_operand p Opening = cond (ltb p.depth deepest) (onward p true (p.depth + 1) 0) None
stepped_operand p Closing = None
stepped_operand p Wrong = None
stepped_operand p End = None

-- After a token, where an operator is due.
abbrev pub stepped_operator : Pass → Token → Option Pass
stepped_operator p (Letter a) = None
stepped_operator p Not = None
stepped_operator p And = onward p true p.depth 1
stepped_operator p Or = onward p true p.depth 1
stepped_operator p Implies = onward p true p.depth 2
stepped_operator p Opening = None
stepped_operator p Closing = cond (ltb 0 p.depth) (onward p false (p.depth - 1) 0) None
stepped_operator p Wrong = None
stepped_operator p End = None

abbrev pub stepped : Pass → Token → Option Pass
stepped p t = cond p.due (stepped_operand p t) (stepped_operator p t)

-- When no token follows.
abbrev pub is_wrong : Token → Bool
is_wrong (Letter a) = false
is_wrong Not = false
is_wrong And = false
is_wrong Or = false
is_wrong Implies = false
is_wrong Opening = false
is_wrong Closing = false
is_wrong Wrong = true
is_wrong End = false

abbrev pub ended : Pass → Token → Option ℕ
ended p t = cond (is_wrong t) None (cond p.due None (cond (ltb 0 p.depth) None (Some p.count)))
