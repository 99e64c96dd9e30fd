-- The costs of a node from those of its sides: under each code the least of the sums of a left and a right member whose cell it is. By the order in which
-- they are built, one sum after the other: of what is gathered so far each number is the least.
use mathlib.Core.Path.{◌≡◌, refl, sym, ◌∙◌}
use mathlib.Core.Bool.{Bool, true, false, cond}
use mathlib.Core.Logic.{◌⊎◌, inl, inr, ⊎_elim}
use Prim.Native.Nat.{ℕ, zero, suc, ◌+◌, ◌≤◌, ◌<◌, min}
use native.Mathlib.Omega.{arith}
use borrow.Author.Tests.{eqb-true, eqb-false, ltb-true, ltb-false}
use lib.Dec.{eqb, ltb}
use lib.ListN.{length, length-set, get_or-replicate, set}
use lib.Seq.{get_or-set_same, get_or-set_other}
use Rattle.fewest.specs.Costs.{unreached, cost_of, no_costs, with_sum, row_costs, node_costs}
use Rattle.fewest.specs.Least.{LeastBelow}
use Rattle.fewest.specs.declared.Costs.{Costs}
use Rattle.fewest.proofs.Least.{least_as, least_none, least_past, least_either, Sum, Below, below_more, below_less}

-- under each code the least of its members
pub record Told (H : ℕ → ℕ → Type 0) (z : Costs) : Type 0 where
  pub fifteen : length z.by ≡ 15
  pub each : (c : ℕ) → c < 15 → LeastBelow unreached (H c) (cost_of z c)

told_as : {H K : ℕ → ℕ → Type 0} {z : Costs} → Told H z → ((c m : ℕ) → H c m → K c m) → ((c m : ℕ) → K c m → H c m) → Told K z
told_as h f g = record { fifteen = h.fifteen; each = λ c l. least_as (h.each c l) (f c) (g c) }

-- a sum under its cell's code
pub record Celled (F G : ℕ → Type 0) (cell c m : ℕ) : Type 0 where
  pub is : cell ≡ c
  pub sum : Sum F G m

none_told : {H : ℕ → ℕ → Type 0} → ((c m : ℕ) → ¬ H c m) → Told H no_costs
none_told n = record { fifteen = refl; each = λ c l. rw (get_or-replicate 15 c unreached 0 l) (least_none (n c)) }

-- one sum more
module _ {F G : ℕ → Type 0} {H : ℕ → ℕ → Type 0} {z : Costs} (x y cell : ℕ) (hx : LeastBelow unreached F x) (hy : LeastBelow unreached G y) (h : Told H z) where
  abbrev More : ℕ → ℕ → Type 0
  More c m = Celled F G cell c m ⊎ H c m

  other : (c : ℕ) → c < 15 → ¬ (cell ≡ c) → LeastBelow unreached (More c) (cost_of z c)
  other c l d = least_past (h.each c l) (λ k a. absurd (d a.is))

  same : cell < 15 → LeastBelow unreached (More cell) (min (x + y) (cost_of z cell))
  same l =
      least_either (x + y) (cost_of z cell)
      (λ k. record { is = refl; sum = record { first = x; second = y; has_first = hx.reached (omega arith); has_second = hy.reached (omega arith); adds = refl } })
      (λ j a. let s = a.sum in omega (arith, hx.least s.first s.has_first, hy.least s.second s.has_second, s.adds))
      (h.each cell l)

  sum_told : Told More (with_sum cell (x + y) z)
  unfolding with_sum
  sum_told = go (ltb cell 15) refl
    where
      put : Costs
      put = record { by = set z.by cell (min (x + y) (cost_of z cell)) }

      at : cell < 15 → (c : ℕ) → c < 15 → (b : Bool) → eqb c cell ≡ b → LeastBelow unreached (More c) (cost_of put c)
      at k c l true e =
          let i : c ≡ cell = eqb-true c cell e in
          rw (i, get_or-set_same z.by cell (min (x + y) (cost_of z cell)) 0 (omega (arith, h.fifteen))) (same k)
      at k c l false e =
          let d = eqb-false c cell e in
          rw (get_or-set_other z.by cell c (min (x + y) (cost_of z cell)) 0 d) (other c l (λ i. d (sym i)))

      go : (b : Bool) → ltb cell 15 ≡ b → Told More (cond b put z)
      go true e = record { fifteen = length-set z.by cell _ ∙ h.fifteen; each = λ c l. at (ltb-true cell 15 e) c l (eqb c cell) refl }
      go false e = record { fifteen = h.fifteen; each = λ c l. other c l (λ i. omega (arith, ltb-false cell 15 e)) }

-- the cells of one left code, with the right codes below r
module _ {F : ℕ → Type 0} {G H : ℕ → ℕ → Type 0} {y z : Costs} (cells : ℕ → ℕ) (x : ℕ) (hx : LeastBelow unreached F x) (hy : Told G y) (h : Told H z) where
  abbrev Gathered : ℕ → ℕ → ℕ → Type 0
  Gathered r c m = Below r (λ i. Celled F (G i) (cells i) c) m ⊎ H c m

  row_told : (r : ℕ) → r ≤ 15 → Told (Gathered r) (row_costs cells x y r z)
  unfolding row_costs
  row_told zero l = told_as h (λ c m a. inr a) (λ c m a. ⊎_elim (λ b. absurd (omega (arith, b.low))) (λ b. b) a)
  row_told (suc r) l =
      told_as (sum_told x (cost_of y r) (cells r) hx (hy.each r (omega arith)) (row_told r (omega arith))) (λ c m a. up c m a) (λ c m a. down c m a)
    where
      up : (c m : ℕ) → Celled F (G r) (cells r) c m ⊎ Gathered r c m → Gathered (suc r) c m
      up c m (inl a) = inl (below_more (inl a))
      up c m (inr (inl a)) = inl (below_more (inr a))
      up c m (inr (inr a)) = inr a

      down : (c m : ℕ) → Gathered (suc r) c m → Celled F (G r) (cells r) c m ⊎ Gathered r c m
      down c m (inl a) = ⊎_elim (λ u. inl u) (λ v. inr (inl v)) (below_less a)
      down c m (inr a) = inr (inr a)

-- all cells, with the left codes below l
abbrev pub Row : (F : ℕ → Type 0) (G : ℕ → ℕ → Type 0) → (ℕ → ℕ) → ℕ → ℕ → Type 0
Row F G cells c m = Below 15 (λ r. Celled F (G r) (cells r) c) m

abbrev pub Rows : (F G : ℕ → ℕ → Type 0) → (ℕ → ℕ → ℕ) → ℕ → ℕ → ℕ → Type 0
Rows F G cells l c m = Below l (λ i. Row (F i) G (cells i) c) m

module _ {F G : ℕ → ℕ → Type 0} {x y : Costs} (cells : ℕ → ℕ → ℕ) (hx : Told F x) (hy : Told G y) where
  pub node_told : (l : ℕ) → l ≤ 15 → Told (Rows F G cells l) (node_costs cells x y l)
  unfolding node_costs
  node_told zero k = none_told (λ c m a. omega (arith, a.low))
  node_told (suc l) k = go (node_told l (omega arith)) (ltb (cost_of x l) unreached) refl
    where
      past : unreached ≤ cost_of x l → (c m : ℕ) → Row (F l) G (cells l) c m → unreached ≤ m
      past e c m a = let s = a.member.sum in omega (arith, (hx.each l (omega arith)).least s.first s.has_first, s.adds)

      go : Told (Rows F G cells l) (node_costs cells x y l) → (b : Bool) → ltb (cost_of x l) unreached ≡ b
          → Told (Rows F G cells (suc l)) (cond b (row_costs (cells l) (cost_of x l) y 15 (node_costs cells x y l)) (node_costs cells x y l))
      go h true e = told_as (row_told (cells l) (cost_of x l) (hx.each l (omega arith)) hy h 15 (omega arith)) (λ c m a. below_more a) (λ c m a. below_less a)
      go h false e = record { fifteen = h.fifteen; each = λ c low. least_as (least_past (h.each c low) (past (ltb-false (cost_of x l) unreached e) c)) (λ m a. below_more a) (λ m a. below_less a) }
