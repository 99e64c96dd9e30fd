-- The postfix list of a part is a rule of the plan file for ten actions, and for fewer exactly where these have each of its actions.
use mathlib.Core.Logic.{◌↔◌}
use mathlib.Core.List.{List, [], ◌∷◌, ◌++◌}
use Prim.Native.Nat.{ℕ, ◌≤◌, ◌<◌}
use native.Mathlib.Omega.{arith}
use Rattle.bodies.specs.Rule.{Rule}
use Rattle.bodies.specs.Rule as rule
use Rattle.grammar.specs.Token.{and, or, Token, not_byte}
use Rattle.grammar.specs.Grammar.{Part, Level, action, bracket, negated, plain, joined, single, if_then, no_implies}
use Rattle.grammar.specs.Typed.{Below}

module _ (n : ℕ) where
  -- the actions of two lists, one behind the other
  below_append : (p q : List ℕ) → Below n p → Below n q → Below n (p ++ q)
  unfolding Below
  below_append [] q x y = y
  below_append (t ∷ p) q x y = (x.0, below_append p q x.1 y)

  below_parts : (p q : List ℕ) → Below n (p ++ q) → Below n p × Below n q
  unfolding Below
  below_parts [] q x = (tt, x)
  below_parts (t ∷ p) q x = let y = below_parts p q x.1 in ((x.0, y.0), y.1)

  -- an action, and a byte that is none
  below_action : (a : ℕ) → a < n → Below n (a ∷ [])
  unfolding Below
  below_action a h = (λ k. h, tt)

  action_below : (a : ℕ) → a < not_byte → Below n (a ∷ []) → a < n
  unfolding Below
  action_below a h x = x.0 h

  below_other : (t : ℕ) → not_byte ≤ t → Below n (t ∷ [])
  unfolding Below
  below_other t h = (λ k. absurd (omega arith), tt)

  -- a rule has no action past its number
  below_two : (p q : List ℕ) (t : ℕ) → not_byte ≤ t → Below n p → Below n q → Below n (p ++ (q ++ (t ∷ [])))
  below_two p q t h x y = below_append p (q ++ (t ∷ [])) x (below_append q (t ∷ []) y (below_other t h))

  rule_below : {p : List ℕ} → Rule n p → Below n p
  rule_below (rule.action {a} h) = below_action a h
  rule_below (rule.not {p} x) = below_append p (0x80 ∷ []) (rule_below x) (below_other 0x80 (omega arith))
  rule_below (rule.and {p} {q} x y) = below_two p q 0x81 (omega arith) (rule_below x) (rule_below y)
  rule_below (rule.or {p} {q} x y) = below_two p q 0x82 (omega arith) (rule_below x) (rule_below y)

  -- and is one for any number that it has no action past
  two_below : (p q : List ℕ) (t : ℕ) → Below n (p ++ (q ++ (t ∷ []))) → Below n p × Below n q
  two_below p q t x = let y = below_parts p (q ++ (t ∷ [])) x in (y.0, (below_parts q (t ∷ []) y.1).0)

  rule_for : {p : List ℕ} → Rule 10 p → Below n p → Rule n p
  rule_for (rule.action {a} h) x = rule.action (action_below a (omega arith) x)
  rule_for (rule.not {p} y) x = rule.not (rule_for y (below_parts p (0x80 ∷ []) x).0)
  rule_for (rule.and {p} {q} y z) x = let b = two_below p q 0x81 x in rule.and (rule_for y b.0) (rule_for z b.1)
  rule_for (rule.or {p} {q} y z) x = let b = two_below p q 0x82 x in rule.or (rule_for y b.0) (rule_for z b.1)

unfoldable pub a_rule : {l : Level} {d : ℕ} {s : List Token} {p : List ℕ} → Part l d s p → Rule 10 p
a_rule (action h) = rule.action h
a_rule (bracket x) = a_rule x
a_rule (negated x) = rule.not (a_rule x)
a_rule (plain x) = a_rule x
a_rule (joined {o = and} x y) = rule.and (a_rule x) (a_rule y)
a_rule (joined {o = or} x y) = rule.or (a_rule x) (a_rule y)
a_rule (single x) = a_rule x
a_rule (if_then x y) = rule.or (rule.not (a_rule x)) (a_rule y)
a_rule (no_implies x) = a_rule x

pub letters : {l : Level} {d : ℕ} {s : List Token} {p : List ℕ} (n : ℕ) → Part l d s p → Rule n p ↔ Below n p
letters n x = (rule_below n, rule_for n (a_rule x))
