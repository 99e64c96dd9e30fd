-- The count of a node's namings is 1 exactly where one node names it on one side: check 7 says what document 01 does.
use mathlib.Core.Path.{◌≡◌, refl, sym, ◌∙◌}
use mathlib.Core.Bool.{Bool, true, false, cond}
use mathlib.Core.List.{List}
use mathlib.Core.Logic.{◌↔◌, ◌⊎◌, inl, inr}
use Prim.Native.Nat.{ℕ, zero, suc, ◌+◌, ◌-◌, ◌*◌, ◌≤◌, ◌<◌}
use native.Mathlib.Omega.{arith}
use lib.Dec.{leb, eqb}
use borrow.Author.Tests.{leb-true, leb-false, le-leb, lt-leb, eqb-true, eqb-false, eq-eqb, ne_eqb}
use Rattle.blocks.specs.Bounded.{total, one}
use Rattle.blocks.proofs.Bounded.{one_most, decide, every_at, every_all, total_has, total_two, total_some, total_none, total_single}
use Rattle.nodes.specs.Nodes.{count, form, left, right, Side, on_left, on_right, child, Names, NamedOnce, EachNamedOnce, Descending}
use Rattle.nodes.specs.NodeTests.{naming, times_named, named_ok}

pub left_not_right : on_left ≡ on_right → ⊥
left_not_right e = let z : ◌≡◌ {A = ℕ} 0 1 = cc in omega arith

-- a node names another at most twice
pub naming_most : (j f l r : ℕ) → naming j f l r ≤ 2
naming_most j f l r = go (leb 3 f)
  where
    go : (t : Bool) → cond t (one (eqb l j) + one (eqb r j)) 0 ≤ 2
    go true = omega (arith, one_most (eqb l j), one_most (eqb r j))
    go false = omega arith

-- so the sum over the nodes fits where the bytes do
pub named_most : (b : List ℕ) (j : ℕ) → times_named b j ≤ 2 * count b
unfolding total
named_most b j = upto (count b)
  where
    upto : (n : ℕ) → total n (λ i. naming j (form b i) (left b i) (right b i)) ≤ 2 * n
    upto zero = omega arith
    upto (suc n) = omega (arith, naming_most j (form b n) (left b n) (right b n), upto n)

-- a node whose parts have smaller numbers than j does not name j
naming_below : (j f l r : ℕ) → (3 ≤ f → (l < j) × (r < j)) → naming j f l r ≡ 0
naming_below j f l r below = go (leb 3 f) refl
  where
    go : (t : Bool) → leb 3 f ≡ t → cond t (one (eqb l j) + one (eqb r j)) 0 ≡ 0
    go true e =
        let (p, q) = below (leb-true 3 f e) in
        simp (ne_eqb l j (λ z. omega arith), ne_eqb r j (λ z. omega arith))
    go false e = refl

-- so where parts have smaller numbers, no node up to j names it
pub none_upto : (b : List ℕ) (j : ℕ) → j < count b → Descending b → total (j + 1) (λ i. naming j (form b i) (left b i) (right b i)) ≡ 0
none_upto b j l down =
    total_none _ (j + 1) (λ i k. naming_below j (form b i) (left b i) (right b i) (λ f.
    let (p, q) = down i (omega arith) f in
    (omega arith, omega arith)))

module _ (b : List ℕ) (j : ℕ) where
  -- how often node i names j
  times : ℕ → ℕ
  times i = naming j (form b i) (left b i) (right b i)

  -- whether the side s of node i names j, as a number
  side : ℕ → Side → ℕ
  side i s = one (eqb (child b i s) j)

  times_composite : (i : ℕ) → 3 ≤ form b i → times i ≡ side i on_left + side i on_right
  unfolding times side
  times_composite i h = simp (le-leb _ _ h)

  times_leaf : (i : ℕ) → form b i < 3 → times i ≡ 0
  unfolding times
  times_leaf i h = simp (lt-leb _ _ h)

  side_here : (i : ℕ) (s : Side) → child b i s ≡ j → side i s ≡ 1
  unfolding side
  side_here i s e = rw (eq-eqb (child b i s) j e)

  side_not : (i : ℕ) (s : Side) → (child b i s ≡ j → ⊥) → side i s ≡ 0
  unfolding side
  side_not i s e = rw (ne_eqb (child b i s) j e)

  side_some : (i : ℕ) (s : Side) → 0 < side i s → child b i s ≡ j
  side_some i s h = go (decide (eqb (child b i s) j))
    where
      go : (eqb (child b i s) j ≡ true) ⊎ (eqb (child b i s) j ≡ false) → child b i s ≡ j
      go (inl e) = eqb-true _ _ e
      go (inr e) = absurd (omega (arith, side_not i s (eqb-false _ _ e)))

  -- what names j counts, and what counts names j
  times_names : (i : ℕ) (s : Side) → Names b i s j → 1 ≤ times i
  times_names i on_left n = omega (arith, times_composite i n.composite, side_here i on_left n.is)
  times_names i on_right n = omega (arith, times_composite i n.composite, side_here i on_right n.is)

  names_some : (i : ℕ) → i < count b → 0 < times i → (s : Side) × Names b i s j
  names_some i l h = go (decide (leb 3 (form b i))) (decide (eqb (left b i) j))
    where
      go : (leb 3 (form b i) ≡ true) ⊎ (leb 3 (form b i) ≡ false) → (eqb (left b i) j ≡ true) ⊎ (eqb (left b i) j ≡ false) → (s : Side) × Names b i s j
      go (inl c) (inl e) = (on_left, record { present = l; composite = leb-true _ _ c; is = eqb-true _ _ e })
      go (inl c) (inr e) =
          let k = leb-true 3 (form b i) c in
          (on_right, record { present = l; composite = k; is = side_some i on_right (omega (arith, times_composite i k, side_not i on_left (eqb-false _ _ e))) })
      go (inr c) e = absurd (omega (arith, times_leaf i (leb-false 3 (form b i) c)))

  -- named exactly once: the count is 1
  counted : times_named b j ≡ 1 → NamedOnce b j
  unfolding times
  counted e =
      let (i, l, h) = total_some times (count b) (omega arith) in
      let (s, n) = names_some i l h in
      record { node = i; side = s; names = n; only = λ k t m. same i s n k t m }
    where
      node : (i : ℕ) (s : Side) → Names b i s j → (k : ℕ) (t : Side) → Names b k t j → k ≡ i
      node i s n k t m = go (decide (eqb k i))
        where
          go : (eqb k i ≡ true) ⊎ (eqb k i ≡ false) → k ≡ i
          go (inl q) = eqb-true k i q
          go (inr q) = absurd (omega (arith, e, total_two times (count b) k i m.present n.present (eqb-false k i q), times_names i s n, times_names k t m))

      both : (i : ℕ) → Names b i on_left j → Names b i on_right j → ⊥
      both i n m = omega (arith, e, total_has times (count b) i n.present, times_composite i n.composite, side_here i on_left n.is, side_here i on_right m.is)

      sides : (i : ℕ) (s t : Side) → Names b i s j → Names b i t j → t ≡ s
      sides i on_left on_left n m = refl
      sides i on_left on_right n m = absurd (both i n m)
      sides i on_right on_left n m = absurd (both i m n)
      sides i on_right on_right n m = refl

      same : (i : ℕ) (s : Side) → Names b i s j → (k : ℕ) (t : Side) → Names b k t j → (k ≡ i) × (t ≡ s)
      same i s n k t m = let q = node i s n k t m in (q, sides i s t n (rw q at m))

  counts : NamedOnce b j → times_named b j ≡ 1
  unfolding times
  counts n = total_single times (count b) n.node n.names.present elsewhere ∙ here n.side n.names (λ s m. (n.only n.node s m).1)
    where
      elsewhere : (i : ℕ) → i < count b → (i ≡ n.node → ⊥) → times i ≡ 0
      elsewhere i l d = go (decide (eqb (times i) 0))
        where
          go : (eqb (times i) 0 ≡ true) ⊎ (eqb (times i) 0 ≡ false) → times i ≡ 0
          go (inl q) = eqb-true _ _ q
          go (inr q) = let z = eqb-false (times i) 0 q in let (s, m) = names_some i l (omega arith) in absurd (d (n.only i s m).0)

      here : (s : Side) → Names b n.node s j → ((t : Side) → Names b n.node t j → t ≡ s) → times n.node ≡ 1
      here on_left m only = omega (arith, times_composite n.node m.composite, side_here n.node on_left m.is, side_not n.node on_right (λ q. left_not_right (sym (only on_right (record { present = m.present; composite = m.composite; is = q })))))
      here on_right m only = omega (arith, times_composite n.node m.composite, side_here n.node on_right m.is, side_not n.node on_left (λ q. left_not_right (only on_left (record { present = m.present; composite = m.composite; is = q }))))

abbrev test : List ℕ → ℕ → Bool
test b j = eqb (times_named b j) 1

pub named_say : (b : List ℕ) → (named_ok b ≡ true) ↔ EachNamedOnce b
named_say b = (
  λ h j l. counted b j (eqb-true _ _ (every_at (test b) (count b - 1) j h (omega arith))),
  λ h. every_all (test b) (count b - 1) (λ j l. eq-eqb _ _ (counts b j (h j (omega arith)))),
)
