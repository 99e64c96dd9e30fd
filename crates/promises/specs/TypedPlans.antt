-- Document 02, N1: typed rules in plan files. "A letter that the plan lacks meets 9 when its file is read."
use Rattle.std.specs.Prelude.{◌≡◌, List, ◌++◌, ℕ, ◌≤◌, length, Ok}
use Rattle.std.proofs.Math.Option.{some}
use Rattle.blocks.specs.Block.{block}
use Rattle.plan.specs.PlanFile.{most_actions, most_pairs, Bytes, TypesBody, PairsBody, NodesBody}
use Rattle.plan.specs.Reading.{read_of, number_of}
use Rattle.plan.specs.declared.Layout.{Layout}
use Rattle.grammar.specs.Typed.{Below}
use Rattle.formula.specs.Answer.{room, answer_of, HandsBack}

-- "A file is exactly four blocks, kinds 1, 2, 3, 4 in that order."
abbrev pub file_of : List ℕ → List ℕ → List ℕ → List ℕ → List ℕ
file_of types pairs nodes rule = block 1 types ++ (block 2 pairs ++ (block 3 nodes ++ block 4 rule))

-- The bytes p are handed back for a text, and stand as the rule in a plan file whose other bodies are in order.
pub record TypedInto (text p types pairs nodes : List ℕ) : Type 0 where
  pub fits : length p ≤ room
  pub answered : HandsBack p (answer_of text)
  pub types_hold : TypesBody most_actions types
  pub pairs_hold : PairsBody most_pairs (length types) pairs
  pub nodes_hold : NodesBody (length types) nodes
  pub bytes : Bytes (file_of types pairs nodes p)

pub record TypedPlans : Type 0 where
  -- a plan that has every letter of the text takes it,
  pub taken : (text p types pairs nodes : List ℕ) → TypedInto text p types pairs nodes → Below (length types) p
      → (l : Layout) × (read_of (file_of types pairs nodes p) ≡ Ok l)
  -- and one that lacks a letter is refused with 9
  pub nine : (text p types pairs nodes : List ℕ) → TypedInto text p types pairs nodes → (Below (length types) p → ⊥)
      → number_of (read_of (file_of types pairs nodes p)) ≡ some 9
