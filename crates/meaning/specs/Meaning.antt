-- Document 01, "Normalised rule": "Each part of the rule has a positive and a negative value." The values of a part, by how it is put
-- together.
use Rattle.std.specs.Prelude.{◌&&◌, ◌||◌, List, ℕ}
use Rattle.bodies.specs.Rule.{Rule, action, not, and, or}
use Rattle.meaning.specs.declared.Value.{Value}
use Rattle.meaning.specs.Literal.{literal}

-- "Not swaps the two values."
abbrev pub swapped : Value → Value
swapped v = record { positive = v.negative; negative = v.positive }

-- "And and or take the negative value by De Morgan": "p and q" is not so where p or q is not so,
abbrev pub both : Value → Value → Value
both v w = record { positive = v.positive && w.positive; negative = v.negative || w.negative }

-- and "p or q" is not so where both are not.
abbrev pub either : Value → Value → Value
either v w = record { positive = v.positive || w.positive; negative = v.negative && w.negative }

-- the values of a part
unfoldable pub meaning : List ℕ → ℕ → {actions : ℕ} {part : List ℕ} → Rule actions part → Value
meaning pairs set (action {a} h) = literal pairs set a
meaning pairs set (not r) = swapped (meaning pairs set r)
meaning pairs set (and r s) = both (meaning pairs set r) (meaning pairs set s)
meaning pairs set (or r s) = either (meaning pairs set r) (meaning pairs set s)
