-- A plan file as long as one can be: ten actions, 21 pairs, 63 nodes and 127 bytes of rule. What document 01 asks of its bodies is computed;
-- that of compensations holds because there are none.
use mathlib.Core.Path.{◌≡◌, refl}
use mathlib.Core.Bool.{true}
use mathlib.Core.List.{List, [], ◌∷◌, ◌++◌}
use Prim.Native.Nat.{ℕ, zero, suc, ◌+◌}
use native.Mathlib.Omega.{arith}
use lib.Dec.{ltb}
use lib.ListN.{length, replicate}
use borrow.Author.Tests.{ltb-true}
use Rattle.blocks.specs.Block.{block}
use Rattle.blocks.specs.Bounded.{every, total}
use Rattle.blocks.proofs.Bounded.{every_at}
use Rattle.bodies.specs.Rule.{rule_from}
use Rattle.bodies.proofs.TypesPairs.{types_say, pairs_say}
use Rattle.bodies.proofs.Postfix.{rule_say}
use Rattle.nodes.specs.Nodes.{count, form, NodeRules, NotTooDeep}
use Rattle.nodes.proofs.Forms.{forms_say}
use Rattle.nodes.proofs.Named.{named_say}
use Rattle.nodes.proofs.Depth.{nested_present, nested_six}
use Rattle.plan.specs.PlanFile.{most_actions, most_pairs, most_bytes, TypesBody, PairsBody, NodesBody, RuleBody, PlanFile}

-- each of the first n actions with the undos 7, 8 and 9
three_undos : ℕ → List ℕ
three_undos zero = []
three_undos (suc n) = n ∷ 7 ∷ n ∷ 8 ∷ n ∷ 9 ∷ three_undos n

-- k times a skip and the sequence of node n and the skip
then_skips : ℕ → ℕ → List ℕ
then_skips zero n = []
then_skips (suc k) n = 1 ∷ 0 ∷ 0 ∷ 3 ∷ n ∷ (n + 1) ∷ then_skips k (n + 2)

types : List ℕ
types = replicate 10 3

pairs : List ℕ
pairs = three_undos 7

nodes : List ℕ
nodes = 1 ∷ 0 ∷ 0 ∷ then_skips 31 0

rule : List ℕ
rule = 0 ∷ replicate 126 0x80

types_hold : TypesBody most_actions types
unfolding types every
types_hold = record { size = record { number = 10; whole = refl; enough = omega arith; few = omega arith }; holds = (types_say types).0 refl }

pairs_hold : PairsBody most_pairs 10 pairs
unfolding pairs three_undos every total
pairs_hold = record { size = record { number = 21; whole = refl; enough = omega arith; few = omega arith }; holds = (pairs_say 10 pairs).0 refl }

-- no node is a compensation
plain : every (count nodes) (λ i. ltb (form nodes i) 6) ≡ true
unfolding nodes then_skips every
plain = refl

not_too_deep : NotTooDeep nodes
not_too_deep i x = omega (arith, ltb-true (form nodes i) 6 (every_at (λ i. ltb (form nodes i) 6) (count nodes) i plain (nested_present nodes x)), nested_six nodes x)

node_rules : NodeRules 10 nodes
unfolding nodes then_skips every total
node_rules = record { keep = (forms_say 10 nodes).0 refl; once = (named_say nodes).0 refl; shallow = not_too_deep }

nodes_hold : NodesBody 10 nodes
unfolding nodes then_skips
nodes_hold = record { size = record { number = 63; whole = refl; enough = omega arith; few = omega arith }; holds = node_rules }

rule_holds : RuleBody 10 rule
unfolding rule rule_from
rule_holds = record { size = record { number = 127; whole = refl; enough = omega arith; few = omega arith }; holds = (rule_say 10 (omega arith) rule).0 refl }

pub largest : List ℕ
largest = block 1 types ++ (block 2 pairs ++ (block 3 nodes ++ block 4 rule))

pub largest_file : PlanFile most_actions most_pairs largest
unfolding largest types
largest_file = record {
  types = types;
  pairs = pairs;
  nodes = nodes;
  rule = rule;
  blocks = refl;
  hold = record { types_hold = types_hold; pairs_hold = pairs_hold; nodes_hold = nodes_hold; rule_holds = rule_holds };
}

pub largest_long : length largest ≡ most_bytes
unfolding largest types pairs three_undos nodes then_skips rule
largest_long = refl
