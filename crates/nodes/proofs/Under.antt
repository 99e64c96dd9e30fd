-- The tree that a node list draws. Every node is under the last one; the two sides of a composite share no node. By going down from a node
-- to its parts, whose numbers are smaller, and up from a node to the one place that names it.
use mathlib.Core.Path.{◌≡◌, refl, sym, ◌∙◌}
use mathlib.Core.Bool.{true, false}
use mathlib.Core.List.{List}
use mathlib.Core.Logic.{◌⊎◌, inl, inr}
use Prim.Native.Nat.{ℕ, zero, suc, ◌+◌, ◌-◌, ◌≤◌, ◌<◌}
use native.Mathlib.Omega.{arith}
use lib.Dec.{eqb}
use borrow.Author.Tests.{eqb-true, eqb-false}
use Rattle.blocks.proofs.Bounded.{decide}
use Rattle.nodes.specs.Nodes.{count, Side, on_left, on_right, Names, EachNamedOnce, Under, itself, named, Descending}
use Rattle.nodes.proofs.Named.{left_not_right}

module _ (b : List ℕ) where
  -- a path down may be read from its first step as well as from its last
  pub through : {i c j : ℕ} {s : Side} → Names b i s c → Under b c j → Under b i j
  through n itself = named itself n
  through n (named u m) = named (through n u) m

  pub first : {i j : ℕ} → Under b i j → (i ≡ j) ⊎ ((s : Side) × (c : ℕ) × Names b i s c × Under b c j)
  first itself = inl refl
  first (named u m) = elim (first u) [ inl e ↦ inr (_, _, rw (sym e) at m, itself) | inr (s, c, n, v) ↦ inr (s, c, n, named v m) ]

  last : {i j : ℕ} → Under b i j → (i ≡ j) ⊎ ((p : ℕ) × (s : Side) × Under b i p × Names b p s j)
  last itself = inl refl
  last (named u m) = inr (_, _, u, m)

  module _ (down : Descending b) where
    pub smaller : {i j : ℕ} {s : Side} → Names b i s j → j < i
    smaller {s = on_left} n = omega (arith, n.is, (down _ n.present n.composite).0)
    smaller {s = on_right} n = omega (arith, n.is, (down _ n.present n.composite).1)

    pub within : {i j : ℕ} → Under b i j → j ≤ i
    within itself = omega arith
    within (named u m) = omega (arith, within u, smaller m)

    -- the last node is above every other
    module _ (once : EachNamedOnce b) where
      climb : (k j : ℕ) → j < count b → count b ≤ j + k → Under b (count b - 1) j
      climb zero j l h = absurd (omega arith)
      climb (suc k) j l h = go (climb k) (decide (eqb j (count b - 1)))
        where
          go : ((p : ℕ) → p < count b → count b ≤ p + k → Under b (count b - 1) p) → (eqb j (count b - 1) ≡ true) ⊎ (eqb j (count b - 1) ≡ false) → Under b (count b - 1) j
          go up (inl e) = rw (eqb-true j (count b - 1) e) itself
          go up (inr e) =
              let z = eqb-false j (count b - 1) e in
              let n = once j (omega arith) in
              named (up n.node n.names.present (omega (arith, smaller n.names))) n.names

      pub all_under_last : (j : ℕ) → j < count b → Under b (count b - 1) j
      all_under_last j l = climb (count b) j l (omega arith)

      -- two places that name one node are the same place
      one_place : {i k j : ℕ} {s t : Side} → Names b i s j → Names b k t j → (i ≡ k) × (s ≡ t)
      one_place {i} {k} {j} {s} {t} n m =
          let o = once j (omega (arith, smaller n, n.present)) in
          let (e, f) = o.only i s n in
          let (g, h) = o.only k t m in
          (e ∙ sym g, f ∙ sym h)

      -- the two sides of a composite share no node
      pub apart : {i l r n : ℕ} → Names b i on_left l → Names b i on_right r → Under b l n → Under b r n → ⊥
      apart {i} {l} {r} x y itself v = go (last v)
        where
          go : (r ≡ l) ⊎ ((p : ℕ) × (t : Side) × Under b r p × Names b p t l) → ⊥
          go (inl e) = left_not_right (one_place x (rw e at y)).1
          go (inr (p, t, u, m)) = omega (arith, (one_place x m).0, within u, smaller y)
      apart {i} {l} {r} x y (named {p = q} {j = n} u m) v = go (apart x y u) (last v)
        where
          go : (Under b r q → ⊥) → (r ≡ n) ⊎ ((p : ℕ) × (t : Side) × Under b r p × Names b p t n) → ⊥
          go up (inl e) = omega (arith, (one_place y (rw (sym e) at m)).0, within u, smaller x)
          go up (inr (p, t, w, o)) = up (rw (one_place o m).0 at w)
