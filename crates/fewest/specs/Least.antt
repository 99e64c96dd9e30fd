-- The least number that is so, where it is below a bound; else the bound.
use Rattle.std.specs.Prelude.{◌≡◌, ℕ, ◌≤◌, ◌<◌}

pub record LeastBelow (bound : ℕ) (F : ℕ → Type 0) (x : ℕ) : Type 0 where
  pub low : x ≤ bound
  pub reached : x < bound → F x
  pub least : (j : ℕ) → F j → x ≤ j

-- There is at most one such number.
abbrev pub OnlyLeast : Type 1
OnlyLeast = (bound : ℕ) (F : ℕ → Type 0) (x y : ℕ) → LeastBelow bound F x → LeastBelow bound F y → x ≡ y
