-- The values of the postfix list are those of the text: those of its rule, part by part.
use mathlib.Core.Path.{◌≡◌, refl, ap, ◌∙◌}
use mathlib.Core.List.{List, [], ◌∷◌}
use Prim.Native.Nat.{ℕ}
use native.Mathlib.Omega.{arith}
use Rattle.meaning.specs.declared.Value.{Value}
use Rattle.meaning.specs.Meaning.{meaning}
use Rattle.meaning.proofs.Laws.{laws}
use Rattle.grammar.specs.Token.{and, or, Token}
use Rattle.grammar.specs.Grammar.{Level, Part, action, bracket, negated, plain, joined, single, if_then, no_implies}
use Rattle.grammar.specs.Sense.{sense, KeepsSense}
use Rattle.grammar.proofs.Rules.{a_rule}

module _ (pairs : List ℕ) (set : ℕ) where
  means : {l : Level} {d : ℕ} {s : List Token} {p : List ℕ} (x : Part l d s p) → meaning pairs set (a_rule x) ≡ sense pairs set x
  unfolding meaning sense a_rule
  means (action h) = refl
  means (bracket x) = means x
  means (negated x) = rw (means x)
  means (plain x) = means x
  means (joined {o = and} x y) = rw (means x, means y)
  means (joined {o = or} x y) = rw (means x, means y)
  means (single x) = means x
  means (if_then x y) = rw (means x, means y)
  means (no_implies x) = means x

pub keeps_sense : KeepsSense
keeps_sense = record {
  same_values = λ text p pairs set t few. (laws pairs set).one_part (a_rule t.part) (omega arith) few ∙ ap (λ (v : Value). v ∷ []) (means pairs set t.part);
  same_sets = λ text p pairs set t few. (laws pairs set).satisfied (a_rule t.part) (omega arith) few ∙ ap (λ (v : Value). v.positive) (means pairs set t.part);
}
