-- The places of composites. Different composites have different ones; and the namings, counted by the node that names and by the node that is named, show that twice the composites and one
-- are the nodes, so that 63 nodes have at most 31.
use mathlib.Core.Path.{◌≡◌, refl, sym, ◌∙◌, ap, ap₂}
use mathlib.Core.Bool.{Bool, true, false, cond}
use mathlib.Core.List.{List}
use Prim.Native.Nat.{ℕ, zero, suc, ◌+◌, ◌-◌, ◌≤◌, ◌<◌}
use native.Mathlib.Omega.{arith}
use lib.Dec.{leb, eqb}
use borrow.Author.Tests.{le-leb, lt-leb, leb-true, eqb-true, eq-eqb, ne_eqb}
use Rattle.blocks.specs.Bounded.{total, one}
use Rattle.blocks.proofs.Bounded.{every_at, total_upto, total_none, total_same, total_single, total_sum, total_exchanged}
use Rattle.nodes.specs.Nodes.{count, form, left, right, Descending, EachNamedOnce}
use Rattle.nodes.specs.NodeTests.{naming, times_named}
use Rattle.nodes.proofs.Named.{named_say}
use Rattle.plan.specs.PlanFile.{RunnableWithin}
use Rattle.plan.proofs.Tree.{parts_smaller}
use Rattle.sets.specs.Places.{composite, place, most_places}

total_ones : (g : ℕ → ℕ) (n : ℕ) → ((i : ℕ) → i < n → g i ≡ 1) → total n g ≡ n
unfolding total
total_ones g zero e = refl
total_ones g (suc n) e = omega (arith, e n (omega arith), total_ones g n (λ i l. e i (omega arith)))

-- one number below m is k
hit_once : (m k : ℕ) → k < m → total m (λ j. one (eqb k j)) ≡ 1
hit_once m k l = total_single (λ j. one (eqb k j)) m k l (λ i h d. rw (ne_eqb k i (λ e. d (sym e)))) ∙ rw (eq-eqb k k refl)

-- a composite names two nodes, a leaf none
names_two : (m f l r : ℕ) → (3 ≤ f → (l < m) × (r < m)) → total m (λ j. naming j f l r) ≡ one (leb 3 f) + one (leb 3 f)
names_two m f l r h = go (leb 3 f) refl
  where
    go : (t : Bool) → leb 3 f ≡ t → total m (λ j. cond t (one (eqb l j) + one (eqb r j)) 0) ≡ one t + one t
    go true e = let (a, b) = h (leb-true 3 f e) in total_sum (λ j. one (eqb l j)) (λ j. one (eqb r j)) m ∙ ap₂ ◌+◌ (hit_once m l a) (hit_once m r b)
    go false e = total_none (λ j. 0) m (λ i h. refl)

module _ (b : List ℕ) where
  pub place_leaf : (i : ℕ) → form b i < 3 → place b (suc i) ≡ place b i
  unfolding total
  place_leaf i f = let e = ap one (lt-leb 3 (form b i) f) in omega arith

  pub place_composite : (i : ℕ) → 3 ≤ form b i → place b (suc i) ≡ suc (place b i)
  unfolding total
  place_composite i f = let e = ap one (le-leb 3 (form b i) f) in omega arith

  pub places_grow : (i : ℕ) → place b i ≤ place b (suc i)
  unfolding total
  places_grow i = omega arith

  pub places_apart : (i j : ℕ) → i < j → 3 ≤ form b i → place b i < place b j
  places_apart i j l f = omega (arith, total_upto (composite b) j i l, le_one)
    where
      le_one : composite b i ≡ 1
      le_one = ap one (le-leb 3 (form b i) f)

  -- twice the composites and one are the nodes
  half : 1 ≤ count b → Descending b → EachNamedOnce b → place b (count b) + place b (count b) + 1 ≡ count b
  half some down once =
      let n = count b in
      let m : ℕ = count b - 1 in
      let by_named : total m (λ j. times_named b j) ≡ m = total_ones (λ j. times_named b j) m (λ j l. eqb-true _ _ (every_at (λ j. eqb (times_named b j) 1) m j ((named_say b).1 once) l)) in
      let by_naming : total n (λ i. total m (λ j. naming j (form b i) (left b i) (right b i))) ≡ total n (λ i. composite b i + composite b i) = total_same _ _ n (λ i l. names_two m (form b i) (left b i) (right b i) (λ f. let (x, y) = down i l f in (omega arith, omega arith))) in
      let e : m ≡ place b n + place b n = sym by_named ∙ total_exchanged (λ i j. naming j (form b i) (left b i) (right b i)) n m ∙ by_naming ∙ total_sum (composite b) (composite b) n in
      omega arith

module _ {actions : ℕ} (types b : List ℕ) (r : RunnableWithin actions types b) where
  pub few_composites : place b (count b) ≤ most_places
  few_composites = omega (arith, half b (omega (arith, r.nodes_some)) (parts_smaller types b r) r.nodes_hold.once, r.nodes_few)

  -- each node's place, and the next one, is among the 31
  pub few_places : (i : ℕ) → i < count b → place b (suc i) ≤ most_places
  unfolding total
  few_places i c = omega (arith, few_composites, total_upto (composite b) (count b) i c)
