-- What a plan file is, without a reader: four blocks, one after the other, whose bodies hold what document 01 permits. The limits for
-- actions and pairs are parameters.
use Rattle.std.specs.Prelude.{List, ◌++◌, ◌≡◌, ℕ, ◌*◌, ◌≤◌, ◌<◌, length, get_or}
use Rattle.blocks.specs.Block.{block}
use Rattle.bodies.specs.Types.{Types}
use Rattle.bodies.specs.Pairs.{Pairs}
use Rattle.nodes.specs.Nodes.{NodeRules}
use Rattle.bodies.specs.Rule.{Rule}

-- each element is a byte
abbrev pub Bytes : List ℕ → Type 0
Bytes s = (i : ℕ) → get_or s i 0 < 256

-- n bytes are from `least` to `most` items of `unit` bytes each
pub record Items (unit least most n : ℕ) : Type 0 where
  pub number : ℕ
  pub whole : n ≡ unit * number
  pub enough : least ≤ number
  pub few : number ≤ most

-- The limits of a plan file: document 01's "1 to 10 actions", N3's "up to 21 pairs", and the bytes that these come to: "the largest file has 384".
abbrev pub most_actions : ℕ
most_actions = 10

abbrev pub most_pairs : ℕ
most_pairs = 21

abbrev pub most_bytes : ℕ
most_bytes = 384

-- The lengths that a body may have. "Kind 1, types: one byte for each action, 1 to 10 actions"
abbrev pub TypesSize : ℕ → ℕ → Type 0
TypesSize action_limit n = Items 1 1 action_limit n

-- "Kind 2, undo pairs: two bytes each", as many as the limit says
abbrev pub PairsSize : ℕ → ℕ → Type 0
PairsSize pair_limit n = Items 2 0 pair_limit n

-- "Kind 3, nodes: three bytes each (form, left, right), 1 to 63 nodes"
abbrev pub NodesSize : ℕ → Type 0
NodesSize n = Items 3 1 63 n

-- "Kind 4, rule: 1 to 127 bytes in postfix order."
abbrev pub RuleSize : ℕ → Type 0
RuleSize n = Items 1 1 127 n

-- a body in order: it has a length that it may have, and holds what it may hold
pub record Body (Size : ℕ → Type 0) (Contents : List ℕ → Type 0) (body : List ℕ) : Type 0 where
  pub size : Size (length body)
  pub holds : Contents body

abbrev pub TypesBody : ℕ → List ℕ → Type 0
TypesBody action_limit types = Body (TypesSize action_limit) Types types

-- these three of a plan of so many actions
abbrev pub PairsBody : ℕ → ℕ → List ℕ → Type 0
PairsBody pair_limit actions pairs = Body (PairsSize pair_limit) (Pairs actions) pairs

abbrev pub NodesBody : ℕ → List ℕ → Type 0
NodesBody actions nodes = Body NodesSize (NodeRules actions) nodes

abbrev pub RuleBody : ℕ → List ℕ → Type 0
RuleBody actions rule = Body RuleSize (Rule actions) rule

-- the four bodies are in order; there are as many actions as types
pub record Bodies (action_limit pair_limit : ℕ) (types pairs nodes rule : List ℕ) : Type 0 where
  pub types_hold : TypesBody action_limit types
  pub pairs_hold : PairsBody pair_limit (length types) pairs
  pub nodes_hold : NodesBody (length types) nodes
  pub rule_holds : RuleBody (length types) rule

pub record PlanFile (action_limit pair_limit : ℕ) (s : List ℕ) : Type 0 where
  pub types : List ℕ
  pub pairs : List ℕ
  pub nodes : List ℕ
  pub rule : List ℕ
  -- "A file is exactly four blocks, kinds 1, 2, 3, 4 in that order."
  pub blocks : s ≡ block 1 types ++ (block 2 pairs ++ (block 3 nodes ++ block 4 rule))
  pub hold : Bodies action_limit pair_limit types pairs nodes rule

-- What running a plan rests on: its types and its nodes, as a file has them that is accepted within a limit for actions.
pub record RunnableWithin (action_limit : ℕ) (types nodes : List ℕ) : Type 0 where
  pub types_few : length types ≤ action_limit
  pub types_hold : Types types
  pub nodes_some : 3 ≤ length nodes
  pub nodes_few : length nodes ≤ 189
  pub nodes_hold : NodeRules (length types) nodes

-- As an accepted plan file has them.
abbrev pub Runnable : List ℕ → List ℕ → Type 0
Runnable types nodes = RunnableWithin most_actions types nodes
