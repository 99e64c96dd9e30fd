-- Document 01, kind 4: the rule, "in postfix order. A byte below the action count is that action; hexadecimal 80 is not, 81 and, 82 or.
-- Exactly one value remains."
use Rattle.std.specs.Prelude.{Bool, false, cond, Option, Some, None, List, [], ◌∷◌, ◌++◌, ℕ, ◌+◌, ◌-◌, ◌<◌, ltb, leb, eqb}

-- what the body may hold: the bytes of a part in postfix order, its operands before it
pub data Rule (actions : ℕ) : List ℕ → Type 0 where
  action : {a : ℕ} → a < actions → Rule actions (a ∷ [])
  not : {p : List ℕ} → Rule actions p → Rule actions (p ++ (0x80 ∷ []))
  and : {p q : List ℕ} → Rule actions p → Rule actions q → Rule actions (p ++ (q ++ (0x81 ∷ [])))
  or : {p q : List ℕ} → Rule actions p → Rule actions q → Rule actions (p ++ (q ++ (0x82 ∷ [])))

-- how many values a byte takes, each byte leaving one: an action 0, not 1, and and or 2; 3 for a byte that is none of these
abbrev pub operands : ℕ → ℕ → ℕ
operands actions t =
    cond (ltb t actions) 0 (cond (eqb t 0x80) 1 (cond (eqb t 0x81) 2 (cond (eqb t 0x82) 2 3)))

-- the same; none where it may not stand in a rule
abbrev pub taken : ℕ → ℕ → Option ℕ
taken actions t = cond (leb (operands actions t) 2) (Some (operands actions t)) None

-- the test of it, from d values on
unfoldable pub rule_from : ℕ → ℕ → List ℕ → Bool
rule_from actions d [] = eqb d 1
rule_from actions d (t ∷ ts) =
    cond (leb (operands actions t) 2)
    (cond (leb (operands actions t) d) (rule_from actions (d + 1 - operands actions t) ts) false)
    false

abbrev pub rule_ok : ℕ → List ℕ → Bool
rule_ok actions b = rule_from actions 0 b
