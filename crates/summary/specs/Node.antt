-- The summary of a node from those of its sides, by cells: "for each cell .. every union of one left set under the cell's left code and
-- one right set under its right code". `cells l r` is the code of the left code l and the right code r; in the chart of three levels, for a
-- node of a form, `cell3 form`.
use Rattle.std.specs.Prelude.{◌≡◌, false, List, ℕ, ◌≤◌, ◌<◌}
use Rattle.std.specs.Int.Bits.{bit_or}
use Rattle.family.specs.Family.{In}
use Rattle.product.specs.Product.{Union}
use Rattle.outcomes.specs.ThreeLevels.{unsettled}
use Rattle.summary.specs.declared.Summary.{Summary}
use Rattle.summary.specs.Summary.{family_of}

-- t is under the code by a cell: the union of a left set and a right set under the cell's two codes.
pub record FromCell (cells : ℕ → ℕ → ℕ) (a b : Summary) (code t : ℕ) : Type 0 where
  pub left : ℕ
  pub right : ℕ
  pub is_cell : cells left right ≡ code
  pub union : Union (family_of a left) (family_of b right) t

-- The family u has the sets of a node under the code, and no others.
pub record Under (cells : ℕ → ℕ → ℕ) (code : ℕ) (a b : Summary) (u : List ℕ) : Type 0 where
  pub sound : (t : ℕ) → In u t → FromCell cells a b code t
  pub complete : (left right x y : ℕ) → cells left right ≡ code → In (family_of a left) x → In (family_of b right) y → In u (bit_or x y)

-- The same for each of the settled codes above 0: the node's summary.
abbrev pub NodeSummary : (ℕ → ℕ → ℕ) → Summary → Summary → Summary → Type 0
NodeSummary cells a b s = (code : ℕ) → 1 ≤ code → code < 15 → unsettled code ≡ false → Under cells code a b (family_of s code)
