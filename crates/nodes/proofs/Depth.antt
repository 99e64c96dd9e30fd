-- The test of check 8 says what document 02 does of compensations: a node is deeper than m exactly where m + 1 of them are nested under it.
-- Down from a node to its parts, one part of a deep node is as deep, or it is a compensation itself and its right side is one less deep;
-- and up again depths do not fall.
use mathlib.Core.Path.{◌≡◌, refl}
use mathlib.Core.Bool.{Bool, true, false, cond}
use mathlib.Core.List.{List}
use mathlib.Core.Logic.{◌↔◌, ◌⊎◌, inl, inr}
use Prim.Native.Nat.{ℕ, zero, suc, ◌-◌, ◌≤◌, ◌<◌, max}
use native.Mathlib.Omega.{arith}
use lib.Dec.{leb, eqb}
use borrow.Author.Tests.{eqb-true, eq-eqb, le-leb, leb-true, leb-false}
use Rattle.process.specs.Depth.{most_undos}
use Rattle.blocks.proofs.Bounded.{decide, every_at, every_all}
use Rattle.nodes.specs.Nodes.{count, form, left, right, Side, on_left, on_right, child, Names, Under, itself, named, Nested, alone, nested, NotTooDeep, EachNamedOnce, Descending}
use Rattle.nodes.specs.NodeTests.{deeper, no_depth, depth_at, nested_ok}
use Rattle.nodes.proofs.Fold.{node_ind, fold_leaf, fold_node}
use Rattle.nodes.proofs.Under.{through, all_under_last}
use Rattle.nodes.proofs.Nested.{depth_test}

-- neither part is deeper
deeper_left : (f l r : ℕ) → l ≤ deeper f l r
deeper_left f l r = omega arith

deeper_right : (f l r : ℕ) → r ≤ deeper f l r
deeper_right f l r = go (eqb f 6)
  where
    go : (t : Bool) → r ≤ max l (cond t (suc r) r)
    go true = omega arith
    go false = omega arith

deeper_six : (f l r : ℕ) → f ≡ 6 → r < deeper f l r
deeper_six f l r e = rw (eq-eqb f 6 e) (omega arith)

-- what is so deep has a part that is, or is a compensation whose right side is one less deep
from_part : (m f l r : ℕ) → m < deeper f l r → (m < l) ⊎ ((m < r) ⊎ ((f ≡ 6) × (m ≤ r)))
from_part m f l r h = go (decide (leb (suc m) l)) (eqb f 6) refl h
  where
    go : (leb (suc m) l ≡ true) ⊎ (leb (suc m) l ≡ false) → (t : Bool) → eqb f 6 ≡ t → m < max l (cond t (suc r) r) → (m < l) ⊎ ((m < r) ⊎ ((f ≡ 6) × (m ≤ r)))
    go (inl x) t e h = inl (leb-true (suc m) l x)
    go (inr x) true e h = let z = leb-false (suc m) l x in inr (inr (eqb-true f 6 e, omega arith))
    go (inr x) false e h = let z = leb-false (suc m) l x in inr (inl (omega arith))

module _ (b : List ℕ) where
  -- the first of nested compensations
  pub nested_present : {n i : ℕ} → Nested b n i → i < count b
  nested_present (alone c e) = c
  nested_present (nested c e u x) = c

  pub nested_six : {n i : ℕ} → Nested b n i → form b i ≡ 6
  nested_six (alone c e) = e
  nested_six (nested c e u x) = e

  -- n nested compensations, of which the first stands under node i
  record Below (n i : ℕ) : Type 0 where
    pub at : ℕ
    pub under : Under b i at
    pub is : Nested b n at

  module _ (down : Descending b) where
    depth_leaf : (i : ℕ) → form b i < 3 → depth_at b i ≡ 0
    depth_leaf i f = fold_leaf no_depth (λ n. deeper (form b n)) b i f

    depth_node : (i : ℕ) → i < count b → 3 ≤ form b i → depth_at b i ≡ deeper (form b i) (depth_at b (left b i)) (depth_at b (right b i))
    depth_node i c f = fold_node no_depth (λ n. deeper (form b n)) b down i c f

    -- a deep node has as many nested under it, if a compensation whose right side is one less deep begins as many
    below_deep : (m : ℕ) → ((i : ℕ) → i < count b → form b i ≡ 6 → m ≤ depth_at b (right b i) → Nested b (suc m) i)
        → (i : ℕ) → i < count b → m < depth_at b i → Below (suc m) i
    below_deep m begins = node_ind b down (λ i. m < depth_at b i → Below (suc m) i)
        (λ i c f h. absurd (omega (arith, depth_leaf i f)))
        (λ i c f l r h. go i c f l r (from_part m (form b i) (depth_at b (left b i)) (depth_at b (right b i)) (rw (depth_node i c f) at h)))
      where
        side : (i : ℕ) (s : Side) → i < count b → 3 ≤ form b i → Below (suc m) (child b i s) → Below (suc m) i
        side i s c f x = record { at = x.at; under = through b {s = s} (record { present = c; composite = f; is = refl }) x.under; is = x.is }

        go : (i : ℕ) → i < count b → 3 ≤ form b i → (m < depth_at b (left b i) → Below (suc m) (left b i)) → (m < depth_at b (right b i) → Below (suc m) (right b i))
            → (m < depth_at b (left b i)) ⊎ ((m < depth_at b (right b i)) ⊎ ((form b i ≡ 6) × (m ≤ depth_at b (right b i)))) → Below (suc m) i
        go i c f l r (inl h) = side i on_left c f (l h)
        go i c f l r (inr (inl h)) = side i on_right c f (r h)
        go i c f l r (inr (inr (e, h))) = record { at = i; under = itself; is = begins i c e h }

    -- and it does
    begins : (m i : ℕ) → i < count b → form b i ≡ 6 → m ≤ depth_at b (right b i) → Nested b (suc m) i
    begins zero i c e h = alone c e
    begins (suc m) i c e h =
        let x = below_deep m (begins m) (right b i) (omega (arith, (down i c (omega arith)).1)) h in
        nested c e x.under x.is

    -- neither is what a node names deeper, nor what stands under it
    part_less : {i j : ℕ} {s : Side} → Names b i s j → depth_at b j ≤ depth_at b i
    part_less {i} {j} {s} n = go s n.is
      where
        here : depth_at b i ≡ deeper (form b i) (depth_at b (left b i)) (depth_at b (right b i))
        here = depth_node i n.present n.composite

        go : (s : Side) → child b i s ≡ j → depth_at b j ≤ depth_at b i
        go on_left e = rw (← e, here) (deeper_left (form b i) (depth_at b (left b i)) (depth_at b (right b i)))
        go on_right e = rw (← e, here) (deeper_right (form b i) (depth_at b (left b i)) (depth_at b (right b i)))

    under_less : {i j : ℕ} → Under b i j → depth_at b j ≤ depth_at b i
    under_less itself = omega arith
    under_less (named u n) = omega (arith, under_less u, part_less n)

    six_deeper : (i : ℕ) → i < count b → form b i ≡ 6 → depth_at b (right b i) < depth_at b i
    six_deeper i c e = omega (arith, depth_node i c (omega arith), deeper_six (form b i) (depth_at b (left b i)) (depth_at b (right b i)) e)

    nested_deep : {n i : ℕ} → Nested b n i → n ≤ depth_at b i
    nested_deep (alone c e) = omega (arith, six_deeper _ c e)
    nested_deep (nested c e u x) = omega (arith, six_deeper _ c e, under_less u, nested_deep x)

    pub depth_most : (m : ℕ) → ((i : ℕ) → Nested b (suc m) i → ⊥) → (i : ℕ) → i < count b → depth_at b i ≤ m
    depth_most m h i c = go (decide (leb (depth_at b i) m))
      where
        go : (leb (depth_at b i) m ≡ true) ⊎ (leb (depth_at b i) m ≡ false) → depth_at b i ≤ m
        go (inl e) = leb-true (depth_at b i) m e
        go (inr e) = let x = below_deep m (begins m) i c (leb-false (depth_at b i) m e) in absurd (h x.at x.is)

    -- where each node but the last is named once, all stand under the last
    pub last_most : (m : ℕ) → EachNamedOnce b → depth_at b (count b - 1) ≤ m → (i : ℕ) → Nested b (suc m) i → ⊥
    last_most m once h i x = omega (arith, h, under_less (all_under_last b down once i (nested_present x)), nested_deep x)

    pub nested_say : (nested_ok b ≡ true) ↔ NotTooDeep b
    nested_say = (
      λ h i x. omega (arith, leb-true (depth_at b i) most_undos (every_at (depth_test b) (count b) i h (nested_present x)), nested_deep x),
      λ h. every_all (depth_test b) (count b) (λ i c. le-leb _ _ (depth_most most_undos h i c)),
    )
