-- The sets of the right side that go with a left code, by its row of cells. Only the contract of a private function cites these.
use Rattle.std.specs.Prelude.{◌≡◌, List, ℕ}
use Rattle.family.specs.Family.{In}
use Rattle.summary.specs.declared.Summary.{Summary}
use Rattle.summary.specs.Summary.{family_of}

-- t is a right set whose code gives this code, by the row of cells of a left code.
pub record FromRight (row : ℕ → ℕ) (code : ℕ) (b : Summary) (t : ℕ) : Type 0 where
  pub right : ℕ
  pub is_cell : row right ≡ code
  pub has : In (family_of b right) t

-- The family g has just these.
pub record Gathered (row : ℕ → ℕ) (code : ℕ) (b : Summary) (g : List ℕ) : Type 0 where
  pub sound : (t : ℕ) → In g t → FromRight row code b t
  pub complete : (right t : ℕ) → row right ≡ code → In (family_of b right) t → In g t
