-- A test that antt computes at all 245 places of the chart, and the law that carries it to each cell. The chart as a list has each cell at
-- its place (`in_chart`).
use mathlib.Core.Path.{◌≡◌, refl}
use mathlib.Core.Bool.{Bool, true, false, ◌&&◌}
use Prim.Native.Nat.{ℕ, zero, suc, ◌+◌, ◌-◌, ◌*◌, ◌/◌, ◌%◌, ◌≤◌, ◌<◌}
use native.Mathlib.Omega.{arith}
use lib.Dec.{T}
use lib.ListN.{get_or}
use Rattle.outcomes.specs.Cells.{cell}
use Rattle.outcomes.specs.Table.{listed, chart}

-- a test at each number below n
abbrev pub below : ℕ → (ℕ → Bool) → Bool
below zero p = true
below (suc n) p = p 0 && below n (λ k. p (suc k))

pub both_hold : (a b : Bool) → T (a && b) → T a × T b
both_hold true b t = (tt, t)
both_hold false b t = absurd t

pub at_number : (n : ℕ) (p : ℕ → Bool) → T (below n p) → (k : ℕ) → k < n → T (p k)
at_number zero p t k h = absurd (omega arith)
at_number (suc n) p t zero h = (both_hold (p 0) (below n (λ k. p (suc k))) t).0
at_number (suc n) p t (suc k) h = at_number n (λ k. p (suc k)) (both_hold (p 0) (below n (λ k. p (suc k))) t).1 k (omega arith)

-- the place of a cell is (form - 3) * 49 + left * 7 + right: what holds at every place holds at every cell's
at_place : (P : ℕ → ℕ → ℕ → ℕ → Type 0) → ((k : ℕ) → k < 245 → P k (k / 49 + 3) (k / 7 % 7) (k % 7))
    → (form l r : ℕ) → 3 ≤ form → form ≤ 7 → l < 7 → r < 7 → P ((form - 3) * 49 + l * 7 + r) form l r
at_place P h form l r h₁ h₂ h₃ h₄ =
    let k : ℕ = (form - 3) * 49 + l * 7 + r in
    let e₁ : k / 49 + 3 ≡ form = omega arith in
    let e₂ : k / 7 % 7 ≡ l = omega arith in
    let e₃ : k % 7 ≡ r = omega arith in
    rw (e₁, e₂, e₃) at (h k (omega arith))

abbrev pub all_cells : (ℕ → ℕ → ℕ → Bool) → Bool
all_cells p = below 245 (λ k. p (k / 49 + 3) (k / 7 % 7) (k % 7))

pub at_cell : (p : ℕ → ℕ → ℕ → Bool) → T (all_cells p) → {form l r : ℕ} → 3 ≤ form → form ≤ 7 → l < 7 → r < 7 → T (p form l r)
at_cell p t {form} {l} {r} = at_place (λ k form l r. T (p form l r)) (at_number 245 (λ k. p (k / 49 + 3) (k / 7 % 7) (k % 7)) t) form l r

-- what is listed stands at its place
pub get_d_listed : (n : ℕ) (f : ℕ → ℕ) (k : ℕ) → k < n → get_or (listed n f) k 0 ≡ f k
get_d_listed zero f k h = absurd (omega arith)
get_d_listed (suc n) f zero h = refl
get_d_listed (suc n) f (suc k) h = get_d_listed n (λ k. f (suc k)) k (omega arith)

pub in_chart : (form l r : ℕ) → 3 ≤ form → form ≤ 7 → l < 7 → r < 7 → get_or chart ((form - 3) * 49 + l * 7 + r) 0 ≡ cell form l r
unfolding chart
in_chart = at_place (λ k form l r. get_or chart k 0 ≡ cell form l r) (get_d_listed 245 (λ k. cell (k / 49 + 3) (k / 7 % 7) (k % 7)))
