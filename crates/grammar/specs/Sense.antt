-- Document 02, N1: what a typed rule means, by the two values that document 01's "Normalised rule" gives each part, here on the grammar.
-- ""p implies q" means "not p or q"." The proof is `keeps_sense`.
use Rattle.std.specs.Prelude.{◌≡◌, ◌&&◌, ◌||◌, List, [], ◌∷◌, ℕ, ◌≤◌, length}
use Rattle.meaning.specs.declared.Value.{Value}
use Rattle.meaning.specs.Literal.{literal}
use Rattle.meaning.specs.Meaning.{swapped, both, either}
use Rattle.meaning.specs.Value.{values, satisfies}
use Rattle.grammar.specs.Token.{Operator, and, or, Token}
use Rattle.grammar.specs.Grammar.{Level, Part, action, bracket, negated, plain, joined, single, if_then, no_implies}
use Rattle.grammar.specs.Typed.{Typed}

-- "p implies q" is so where p is not so or q is so; it is not so where p is so and q is not so.
abbrev pub implied : Value → Value → Value
implied v w = record { positive = v.negative || w.positive; negative = v.positive && w.negative }

abbrev pub combined : Operator → Value → Value → Value
combined and = both
combined or = either

-- The values of a part at a set of finished actions.
unfoldable pub sense : List ℕ → ℕ → {l : Level} {d : ℕ} {s : List Token} {p : List ℕ} → Part l d s p → Value
sense pairs set (action {a = a} h) = literal pairs set a
sense pairs set (bracket x) = sense pairs set x
sense pairs set (negated x) = swapped (sense pairs set x)
sense pairs set (plain x) = sense pairs set x
sense pairs set (joined {o = o} x y) = combined o (sense pairs set x) (sense pairs set y)
sense pairs set (single x) = sense pairs set x
sense pairs set (if_then x y) = implied (sense pairs set x) (sense pairs set y)
sense pairs set (no_implies x) = sense pairs set x

pub record KeepsSense : Type 0 where
  -- the one value that remains of the postfix list is the text's
  pub same_values : (text p pairs : List ℕ) (set : ℕ) (t : Typed text p) → length p ≤ 127
      → values pairs set [] p ≡ sense pairs set t.part ∷ []
  -- so a set satisfies the rule where the text is so
  pub same_sets : (text p pairs : List ℕ) (set : ℕ) (t : Typed text p) → length p ≤ 127
      → satisfies p pairs set ≡ (sense pairs set t.part).positive
