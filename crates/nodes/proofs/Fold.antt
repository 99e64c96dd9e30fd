-- The law of a fold over a node list, once for every algebra: where parts have smaller numbers, the value of a composite is made of its
-- parts' values (`fold_node`), a table that is filled in the order of the nodes holds the fold of each (`table_more`), and a map between
-- two algebras takes one fold to the other (`fold_map`). By induction on the fuel.
use mathlib.Core.Path.{◌≡◌, refl, sym, ap₂, ◌∙◌}
use mathlib.Core.Bool.{Bool, true, false, cond}
use mathlib.Core.List.{List}
use Prim.Native.Nat.{ℕ, zero, suc, ◌+◌, ◌≤◌, ◌<◌}
use native.Mathlib.Nat.{not-suc-le-zero}
use native.Mathlib.Omega.{arith}
use lib.Dec.{ltb, eqb}
use lib.ListN.{length, get_or, set}
use lib.Seq.{get_or-set_same, get_or-set_other}
use borrow.Author.Tests.{ltb-true, ltb-false, lt-ltb, le-ltb, eqb-true, eqb-false}
use Rattle.nodes.specs.Nodes.{count, form, left, right, Descending}
use Rattle.nodes.specs.Fold.{fold_from, fold_at}

-- Induction over the nodes: what holds of a leaf, and of a composite where it holds of its parts, holds of every node.
pub node_ind : (b : List ℕ) → Descending b → (Q : ℕ → Type 0) → ((i : ℕ) → i < count b → form b i < 3 → Q i)
    → ((i : ℕ) → i < count b → 3 ≤ form b i → Q (left b i) → Q (right b i) → Q i) → (i : ℕ) → i < count b → Q i
node_ind b down Q on_leaf on_node i h = go (suc i) i (omega arith) h
  where
    pick_case : (k i : ℕ) → i < count b → ((j : ℕ) → j < i → j < count b → Q j) → (t : Bool) → ltb (form b i) 3 ≡ t → Q i
    pick_case k i c below true e = on_leaf i c (ltb-true _ _ e)
    pick_case k i c below false e =
        let f = ltb-false (form b i) 3 e in
        let (l, r) = down i c f in
        on_node i c f (below (left b i) l (omega arith)) (below (right b i) r (omega arith))

    go : (k i : ℕ) → i < k → i < count b → Q i
    go zero i l c = absurd (not-suc-le-zero l)
    go (suc k) i l c = pick_case k i c (λ j m d. go k j (omega arith) d) (ltb (form b i) 3) refl

module _ {A : Type 0} (leaf : ℕ → A) (node : ℕ → A → A → A) (b : List ℕ) where
  pub fold_leaf : (i : ℕ) → form b i < 3 → fold_at leaf node b i ≡ leaf i
  unfolding fold_from
  fold_leaf i h = simp (lt-ltb _ _ h)

  module _ (down : Descending b) where
    -- more fuel changes nothing
    enough : (k m i : ℕ) → i < k → i < m → i < count b → fold_from leaf node b k i ≡ fold_from leaf node b m i
    unfolding fold_from
    enough zero m i h h' c = absurd (not-suc-le-zero h)
    enough (suc k) zero i h h' c = absurd (not-suc-le-zero h')
    enough (suc k) (suc m) i h h' c = go (enough k m (left b i)) (enough k m (right b i)) (ltb (form b i) 3) refl
      where
        go : (left b i < k → left b i < m → left b i < count b → fold_from leaf node b k (left b i) ≡ fold_from leaf node b m (left b i))
            → (right b i < k → right b i < m → right b i < count b → fold_from leaf node b k (right b i) ≡ fold_from leaf node b m (right b i))
            → (t : Bool) → ltb (form b i) 3 ≡ t
            → cond t (leaf i) (node i (fold_from leaf node b k (left b i)) (fold_from leaf node b k (right b i)))
            ≡ cond t (leaf i) (node i (fold_from leaf node b m (left b i)) (fold_from leaf node b m (right b i)))
        go on_left on_right true e = refl
        go on_left on_right false e =
            let (l, r) = down i c (ltb-false _ _ e) in
            ap₂ (node i) (on_left (omega arith) (omega arith) (omega arith)) (on_right (omega arith) (omega arith) (omega arith))

    pub fold_node : (i : ℕ) → i < count b → 3 ≤ form b i → fold_at leaf node b i ≡ node i (fold_at leaf node b (left b i)) (fold_at leaf node b (right b i))
    unfolding fold_from
    fold_node i c h =
        let (l, r) = down i c h in
        simp (le-ltb _ _ h) (ap₂ (node i) (enough i (suc (left b i)) (left b i) l (omega arith) (omega arith)) (enough i (suc (right b i)) (right b i) r (omega arith) (omega arith)))

    -- what is made from the table's entries for a node's parts is the node's value
    pub fold_entry : (t : List A) (d : A) (i : ℕ) → i < count b → ((k : ℕ) → k < i → get_or t k d ≡ fold_at leaf node b k)
        → cond (ltb (form b i) 3) (leaf i) (node i (get_or t (left b i) d) (get_or t (right b i) d)) ≡ fold_at leaf node b i
    fold_entry t d i c old = go (ltb (form b i) 3) refl
      where
        go : (q : Bool) → ltb (form b i) 3 ≡ q → cond q (leaf i) (node i (get_or t (left b i) d) (get_or t (right b i) d)) ≡ fold_at leaf node b i
        go true e = sym (fold_leaf i (ltb-true _ _ e))
        go false e =
            let h = ltb-false _ _ e in
            let (l, r) = down i c h in
            ap₂ (node i) (old (left b i) l) (old (right b i) r) ∙ sym (fold_node i c h)

-- A table whose entries below i are the values of g is one more such table after the store of g's value at i.
pub table_more : {A : Type 0} (g : ℕ → A) (t : List A) (d : A) (i : ℕ) (v : A) → i < length t → v ≡ g i
    → ((k : ℕ) → k < i → get_or t k d ≡ g k) → (k : ℕ) → k < i + 1 → get_or (set t i v) k d ≡ g k
table_more g t d i v h e old k l = go (eqb k i) refl
  where
    go : (q : Bool) → eqb k i ≡ q → get_or (set t i v) k d ≡ g k
    go true q = let z = eqb-true k i q in rw z (get_or-set_same t i v d h ∙ e)
    go false q = let z = eqb-false k i q in get_or-set_other t i k v d z ∙ old k (omega arith)

-- A map that takes one algebra to another takes its folds to the other's.
pub fold_map : {A B : Type 0} (h : A → B) (leaf : ℕ → A) (node : ℕ → A → A → A) (leaf' : ℕ → B) (node' : ℕ → B → B → B) (b : List ℕ)
    → ((i : ℕ) → h (leaf i) ≡ leaf' i) → ((i : ℕ) (x y : A) → h (node i x y) ≡ node' i (h x) (h y))
    → (k i : ℕ) → h (fold_from leaf node b k i) ≡ fold_from leaf' node' b k i
unfolding fold_from
fold_map h leaf node leaf' node' b on_leaf on_node zero i = on_leaf i
fold_map h leaf node leaf' node' b on_leaf on_node (suc k) i =
    go (fold_map h leaf node leaf' node' b on_leaf on_node k (left b i)) (fold_map h leaf node leaf' node' b on_leaf on_node k (right b i)) (ltb (form b i) 3)
  where
    go : h (fold_from leaf node b k (left b i)) ≡ fold_from leaf' node' b k (left b i)
        → h (fold_from leaf node b k (right b i)) ≡ fold_from leaf' node' b k (right b i)
        → (t : Bool)
        → h (cond t (leaf i) (node i (fold_from leaf node b k (left b i)) (fold_from leaf node b k (right b i))))
        ≡ cond t (leaf' i) (node' i (fold_from leaf' node' b k (left b i)) (fold_from leaf' node' b k (right b i)))
    go l r true = on_leaf i
    go l r false = on_node i _ _ ∙ ap₂ (node' i) l r
