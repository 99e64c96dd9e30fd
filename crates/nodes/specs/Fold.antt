-- A fold over a node list: a value for a leaf, and a value for a composite from its two parts' values. Everything that is computed on a
-- plan is such a fold. The fuel is what recursion needs: parts have smaller numbers, so i + 1 is enough for node i.
use Rattle.std.specs.Prelude.{cond, List, ℕ, zero, suc, ltb}
use Rattle.nodes.specs.Nodes.{form, left, right}

unfoldable pub fold_from : {A : Type 0} → (ℕ → A) → (ℕ → A → A → A) → List ℕ → ℕ → ℕ → A
fold_from leaf node b zero i = leaf i
fold_from leaf node b (suc fuel) i =
    cond (ltb (form b i) 3) (leaf i)
    (node i (fold_from leaf node b fuel (left b i)) (fold_from leaf node b fuel (right b i)))

-- the value of node i
abbrev pub fold_at : {A : Type 0} → (ℕ → A) → (ℕ → A → A → A) → List ℕ → ℕ → A
fold_at leaf node b i = fold_from leaf node b (suc i) i
