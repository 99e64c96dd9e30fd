-- Demand 1 for plan files: what the reader's answer says of every list of bytes. `demand1` in proofs/ proves it, and the contract of
-- `read` equates its result with `read_of`.
use Rattle.std.specs.Prelude.{◌≡◌, List, ◌++◌, ◌↔◌, ℕ, ◌+◌, ◌-◌, ◌*◌, ◌≤◌, ◌<◌, length, take, Ok}
use Rattle.std.proofs.Math.Option.{some}
use Rattle.process.specs.Leaves.{AsWritten, HasLeaf, Distinct}
use Rattle.process.specs.Depth.{Flat, Shallow}
use Rattle.blocks.specs.Block.{block}
use Rattle.bodies.specs.Pairs.{Pairs, pair_count, first}
use Rattle.nodes.specs.Nodes.{count, form, FormRules, EachNamedOnce, Under, Nested, NotTooDeep}
use Rattle.plan.specs.PlanFile.{most_actions, most_pairs, most_bytes, Bytes, Bodies, PlanFile}
use Rattle.plan.specs.Refusals.{Broken}
use Rattle.plan.specs.Reading.{bytes_of, end_of, read_within, read_of, number_of}
use Rattle.plan.specs.Tree.{process_of}
use Rattle.plan.specs.declared.Layout.{Layout}

-- where the four bodies of an accepted file lie: one after the other, each after its heading, up to the file's end
pub record InARow (s : List ℕ) (l : Layout) : Type 0 where
  pub types : l.types.at ≡ 4
  pub pairs : l.pairs.at ≡ end_of l.types + 4
  pub nodes : l.nodes.at ≡ end_of l.pairs + 4
  pub rule : l.rule.at ≡ end_of l.nodes + 4
  pub end : end_of l.rule ≡ length s

-- an accepted file is written as the blocks of the four bodies that its layout names
abbrev pub InBlocks : List ℕ → Layout → Type 0
InBlocks s l = s ≡ block 1 (bytes_of s l.types) ++ (block 2 (bytes_of s l.pairs) ++ (block 3 (bytes_of s l.nodes) ++ block 4 (bytes_of s l.rule)))

-- the four bodies of an accepted file have the lengths and the contents that they may have
abbrev pub Holds : ℕ → ℕ → List ℕ → Layout → Type 0
Holds action_limit pair_limit s l = Bodies action_limit pair_limit (bytes_of s l.types) (bytes_of s l.pairs) (bytes_of s l.nodes) (bytes_of s l.rule)

-- the process of a node list: every node is in the tree of the last one, its leaves are the nodes of forms 0 to 2, each once, and it
-- has no more levels of undos than a plan may have
pub record Drawn (types nodes : List ℕ) : Type 0 where
  pub whole : (j : ℕ) → j < count nodes → Under nodes (count nodes - 1) j
  pub leaves : (n : ℕ) → HasLeaf n (process_of types nodes) ↔ ((n < count nodes) × (form nodes n < 3))
  pub written : AsWritten (process_of types nodes)
  pub distinct : Distinct (process_of types nodes)
  pub shallow : Shallow (process_of types nodes)

pub record Demand1 : Type 0 where
  -- a file is accepted exactly where it is a plan file
  pub accepts : (s : List ℕ) → Bytes s → ((l : Layout) × (read_of s ≡ Ok l)) ↔ PlanFile most_actions most_pairs s
  -- and refused by a number exactly where that is document 01's number for what is wrong with it
  pub refuses : (s : List ℕ) → Bytes s → (n : ℕ) → (number_of (read_of s) ≡ some n) ↔ Broken most_actions most_pairs s n
  -- and so it is under other limits for actions and pairs, which another call may read with
  pub accepts_within : (action_limit pair_limit : ℕ) → action_limit ≤ 128 → (s : List ℕ) → Bytes s
      → ((l : Layout) × (read_within action_limit pair_limit s ≡ Ok l)) ↔ PlanFile action_limit pair_limit s
  pub refuses_within : (action_limit pair_limit : ℕ) → action_limit ≤ 128 → (s : List ℕ) → Bytes s → (n : ℕ)
      → (number_of (read_within action_limit pair_limit s) ≡ some n) ↔ Broken action_limit pair_limit s n
  -- of pairs that keep the pair rule no four have one first
  pub no_fourth : (actions : ℕ) (pairs : List ℕ) → Pairs actions pairs → (h i j k : ℕ) → h < i → i < j → j < k → k < pair_count pairs
      → first pairs h ≡ first pairs k → first pairs i ≡ first pairs k → first pairs j ≡ first pairs k → ⊥
  -- the limit of pairs that goes with a limit of actions, 21 with ten and 63 with 24, turns away no pairs that keep the pair rule
  pub most_pairs_lem : (action_limit actions : ℕ) (pairs : List ℕ) → 5 ≤ action_limit → actions ≤ action_limit → Pairs actions pairs
      → pair_count pairs ≤ 3 * (action_limit - 3)
  -- of nodes that neither 6 nor 7 is for, 8 is for just those whose process has more levels of undos than a plan may have
  pub levels : (actions : ℕ) (types nodes : List ℕ) → FormRules actions nodes → EachNamedOnce nodes → 1 ≤ count nodes
      → NotTooDeep nodes ↔ Shallow (process_of types nodes)
  -- and the outcome chart is for just those in which no compensation stands in the right side of another
  pub flat : (actions : ℕ) (types nodes : List ℕ) → FormRules actions nodes → EachNamedOnce nodes → 1 ≤ count nodes
      → ((i : ℕ) → Nested nodes 2 i → ⊥) ↔ Flat (process_of types nodes)
  -- the bodies of an accepted file are those of its blocks, and hold what document 01 permits
  pub blocks : (s : List ℕ) → Bytes s → (l : Layout) → read_of s ≡ Ok l → InBlocks s l
  pub holds : (s : List ℕ) (l : Layout) → read_of s ≡ Ok l → Holds most_actions most_pairs s l
  -- an accepted file is at most as long as the largest, some file is as long, and the bodies lie in a row
  pub most : (s : List ℕ) (l : Layout) → read_of s ≡ Ok l → length s ≤ most_bytes
  pub largest : (s : List ℕ) × PlanFile most_actions most_pairs s × (length s ≡ most_bytes)
  pub row : (s : List ℕ) (l : Layout) → read_of s ≡ Ok l → InARow s l
  -- its nodes draw one tree
  pub tree : (s : List ℕ) (l : Layout) → read_of s ≡ Ok l → Drawn (bytes_of s l.types) (bytes_of s l.nodes)
  -- of a longer input the beginning decides
  pub beginning : (s : List ℕ) (n : ℕ) → most_bytes < n → n ≤ length s → read_of (take n s) ≡ read_of s
