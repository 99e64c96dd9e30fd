-- The loop of check 8: a table of the nodes' depths, filled in the order of the nodes, decides each node by its own. What is kept is small,
-- so that the next depth does not wrap.
use mathlib.Core.Path.{◌≡◌, refl, ◌∙◌}
use mathlib.Core.Bool.{Bool, true, cond}
use mathlib.Core.List.{List}
use Prim.Native.Nat.{ℕ, ◌+◌, ◌<◌}
use native.Mathlib.Omega.{arith}
use lib.Dec.{ltb, leb}
use lib.ListN.{length, get_or, set}
use borrow.Author.Tests.{leb-true}
use Rattle.process.specs.Depth.{most_undos}
use Rattle.blocks.proofs.Bounded.{Passed, every_at, passed_none, passed_more}
use Rattle.nodes.specs.Nodes.{count, form, left, right, Descending}
use Rattle.nodes.specs.NodeTests.{deeper, no_depth, depth_at}
use Rattle.nodes.proofs.Fold.{fold_entry}
use Rattle.nodes.proofs.Filled.{Filled, filled_none, filled_more}

-- what each turn tests
abbrev pub depth_test : List ℕ → ℕ → Bool
depth_test b i = leb (depth_at b i) most_undos

module _ (b : List ℕ) where
  -- the algebra that the table is filled by
  abbrev deep : ℕ → ℕ → ℕ → ℕ
  deep n = deeper (form b n)

  pub record Kept (size i : ℕ) (depths : List ℕ) : Type 0 where
    pub filled : Filled no_depth deep b 0 size i depths
    pub passed : Passed (depth_test b) (count b) i

  pub kept_none : (depths : List ℕ) → Kept (length depths) 0 depths
  kept_none depths = record {
    filled = filled_none no_depth deep b 0 (length depths) depths refl;
    passed = passed_none (depth_test b) (count b);
  }

  pub kept_small : (size i k : ℕ) (depths : List ℕ) → k < i → Kept size i depths → get_or depths k 0 < 255
  kept_small size i k depths l f =
      let most = leb-true (depth_at b k) most_undos (every_at (depth_test b) i k f.passed.held l) in
      rw (f.filled.entries k l) (omega arith)

  module _ (down : Descending b) (size i : ℕ) (depths : List ℕ) (v : ℕ) (c : i < count b)
      (e : v ≡ cond (ltb (form b i) 3) 0 (deeper (form b i) (get_or depths (left b i) 0) (get_or depths (right b i) 0))) (f : Kept size i depths) where
    -- the table gives the node's depth
    pub kept_entry : v ≡ depth_at b i
    kept_entry = e ∙ fold_entry no_depth deep b down depths 0 i c f.filled.entries

    pub kept_more : i < size → depth_test b i ≡ true → Kept size (i + 1) (set depths i v)
    kept_more s t = record {
      filled = filled_more no_depth deep b 0 down size i depths v c s e f.filled;
      passed = passed_more (depth_test b) (count b) i c t f.passed;
    }
