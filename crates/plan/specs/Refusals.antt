-- What each of the numbers 1 to 9 stands for, without a reader: document 01's conditions ("What is turned away"), each where all that
-- comes before it in 01's order is in order. "For each block: heading 1, kind 2, length 3, body 1, contents; nodes are checked for 6,
-- then 7, then 8. Trailing bytes come last."
use Rattle.std.specs.Prelude.{List, ◌++◌, ◌≡◌, ℕ, ◌<◌, length}
use Rattle.blocks.specs.Block.{two, block}
use Rattle.bodies.specs.Types.{Types}
use Rattle.bodies.specs.Pairs.{Pairs}
use Rattle.nodes.specs.Nodes.{FormRules, EachNamedOnce, NotTooDeep}
use Rattle.bodies.specs.Rule.{Rule}
use Rattle.plan.specs.PlanFile.{TypesSize, PairsSize, NodesSize, RuleSize, TypesBody, PairsBody, NodesBody, Bodies}

-- The number of what is wrong with a block of the kind due, where the file goes on with `rest`. Size: the lengths that its body may have.
-- Fault: the number of what is wrong with the contents of a whole body.
pub data BlockFault (kind : ℕ) (Size : ℕ → Type 0) (Fault : List ℕ → ℕ → Type 0) (rest : List ℕ) : ℕ → Type 0 where
  -- "heading .. cut short"
  cut_heading : length rest < 4 → BlockFault kind Size Fault rest 1
  -- "not the kind due"
  other_kind : (len other : ℕ) (tail : List ℕ) → rest ≡ two len ++ (two other ++ tail) → (other ≡ kind → ⊥) → BlockFault kind Size Fault rest 2
  -- "body length not permitted"
  other_length : (len : ℕ) (tail : List ℕ) → rest ≡ two len ++ (two kind ++ tail) → (Size len → ⊥) → BlockFault kind Size Fault rest 3
  -- "body cut short"
  cut_body : (len : ℕ) (tail : List ℕ) → rest ≡ two len ++ (two kind ++ tail) → Size len → length tail < len → BlockFault kind Size Fault rest 1
  -- a whole body whose contents are broken
  contents : (body tail : List ℕ) {n : ℕ} → rest ≡ block kind body ++ tail → Size (length body) → Fault body n → BlockFault kind Size Fault rest n

-- the number k, where A is broken
pub data Unless (A : Type 0) (k : ℕ) : ℕ → Type 0 where
  broken : (A → ⊥) → Unless A k k

-- 4: "type not 1 to 3"
abbrev pub TypesFault : List ℕ → ℕ → Type 0
TypesFault types n = Unless (Types types) 4 n

-- 5: "pair rule broken or number too large"
abbrev pub PairsFault : ℕ → List ℕ → ℕ → Type 0
PairsFault actions pairs n = Unless (Pairs actions pairs) 5 n

pub data NodesFault (actions : ℕ) (nodes : List ℕ) : ℕ → Type 0 where
  -- "form above 7, or node's bytes break its form's rule, an action number too large included"
  six : (FormRules actions nodes → ⊥) → NodesFault actions nodes 6
  -- "node not named exactly once"
  seven : FormRules actions nodes → (EachNamedOnce nodes → ⊥) → NodesFault actions nodes 7
  -- by document 02 (N14), "8 now falls only on a third level"
  eight : FormRules actions nodes → EachNamedOnce nodes → (NotTooDeep nodes → ⊥) → NodesFault actions nodes 8

-- 9: "rule malformed"
abbrev pub RuleFault : ℕ → List ℕ → ℕ → Type 0
RuleFault actions rule n = Unless (Rule actions rule) 9 n

-- The number of what is wrong with the file s: in one of its four blocks, where those before it are in order, or after the fourth.
pub data Broken (action_limit pair_limit : ℕ) (s : List ℕ) : ℕ → Type 0 where
  in_types : {n : ℕ} → BlockFault 1 (TypesSize action_limit) TypesFault s n → Broken action_limit pair_limit s n
  in_pairs : (types rest : List ℕ) {n : ℕ} → s ≡ block 1 types ++ rest → TypesBody action_limit types
      → BlockFault 2 (PairsSize pair_limit) (PairsFault (length types)) rest n → Broken action_limit pair_limit s n
  in_nodes : (types pairs rest : List ℕ) {n : ℕ} → s ≡ block 1 types ++ (block 2 pairs ++ rest)
      → TypesBody action_limit types → PairsBody pair_limit (length types) pairs
      → BlockFault 3 NodesSize (NodesFault (length types)) rest n → Broken action_limit pair_limit s n
  in_rule : (types pairs nodes rest : List ℕ) {n : ℕ} → s ≡ block 1 types ++ (block 2 pairs ++ (block 3 nodes ++ rest))
      → TypesBody action_limit types → PairsBody pair_limit (length types) pairs → NodesBody (length types) nodes
      → BlockFault 4 RuleSize (RuleFault (length types)) rest n → Broken action_limit pair_limit s n
  -- "bytes after block four"
  bytes_after : (types pairs nodes rule tail : List ℕ) → s ≡ block 1 types ++ (block 2 pairs ++ (block 3 nodes ++ (block 4 rule ++ tail)))
      → Bodies action_limit pair_limit types pairs nodes rule → 0 < length tail → Broken action_limit pair_limit s 1
