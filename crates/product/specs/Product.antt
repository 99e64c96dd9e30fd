-- What is promised of the product of two families, in both directions.
use Rattle.std.specs.Prelude.{◌≡◌, List, ℕ}
use Rattle.std.specs.Int.Bits.{bit_or}
use Rattle.family.specs.Family.{In}

-- t is the union of a set of a and a set of b.
pub record Union (a b : List ℕ) (t : ℕ) : Type 0 where
  pub x : ℕ
  pub y : ℕ
  pub in_left : In a x
  pub in_right : In b y
  pub is : bit_or x y ≡ t

-- r has the unions of a set of a and a set of b.
pub record Product (a b r : List ℕ) : Type 0 where
  pub sound : (t : ℕ) → In r t → Union a b t
  pub complete : (x y : ℕ) → In a x → In b y → In r (bit_or x y)
