-- Typed rules in plan files: what is handed back is a rule for as many actions exactly where these have its letters, and that is all that check 9 asks.
use mathlib.Core.Path.{refl, sym}
use mathlib.Core.List.{List, [], ◌∷◌, ◌++◌, append-nil}
use Prim.Native.Nat.{ℕ, ◌≤◌}
use native.Mathlib.Omega.{arith}
use lib.ListN.{length, length-append}
use Rattle.blocks.specs.Block.{block}
use Rattle.bodies.specs.Rule.{Rule}
use Rattle.bodies.specs.Rule as rule
use Rattle.plan.specs.PlanFile.{RuleSize}
use Rattle.plan.specs.Refusals.{in_rule, contents, broken}
use Rattle.grammar.specs.Typed.{Typed}
use Rattle.grammar.proofs.TypedRules.{typed_rules}
use Rattle.formula.proofs.Answers.{answers}
use Rattle.promises.specs.TypedPlans.{file_of, TypedInto, TypedPlans}
use Rattle.promises.proofs.Refused.{demand_1}

-- a rule is not empty
rule_some : {n : ℕ} {p : List ℕ} → Rule n p → 1 ≤ length p
rule_some (rule.action h) = omega arith
rule_some (rule.not {p} x) = omega (arith, length-append p (0x80 ∷ []))
rule_some (rule.and {p} {q} x y) = let h = rule_some x in omega (arith, length-append p (q ++ (0x81 ∷ [])))
rule_some (rule.or {p} {q} x y) = let h = rule_some x in omega (arith, length-append p (q ++ (0x82 ∷ [])))

module _ (text p types pairs nodes : List ℕ) (t : TypedInto text p types pairs nodes) where
  typed : Typed text p
  typed = (answers.postfix text p t.fits).0 t.answered

  size : RuleSize (length p)
  size = let h = rule_some (typed_rules.a_rule text p typed) in let k = t.fits in record { number = length p; whole = omega arith; enough = h; few = k }

pub typed_plans : TypedPlans
typed_plans = record {
  taken = λ text p types pairs nodes t h.
      demand_1.accepting (file_of types pairs nodes p) t.bytes
      (record {
        types = types;
        pairs = pairs;
        nodes = nodes;
        rule = p;
        blocks = refl;
        hold = record {
          types_hold = t.types_hold;
          pairs_hold = t.pairs_hold;
          nodes_hold = t.nodes_hold;
          rule_holds = record { size = size text p types pairs nodes t; holds = (typed_rules.letters text p (length types) (typed text p types pairs nodes t)).1 h };
        };
      });
  nine = λ text p types pairs nodes t h.
      ((demand_1.reading (file_of types pairs nodes p) t.bytes).broken 9).1
      (in_rule types pairs nodes (block 4 p) refl t.types_hold t.pairs_hold t.nodes_hold
      (contents p [] (sym (append-nil (block 4 p))) (size text p types pairs nodes t) (broken (λ r. h ((typed_rules.letters text p (length types) (typed text p types pairs nodes t)).0 r)))));
}
