-- A table that is filled in the order of the nodes: each entry so far is the fold of its node.
use mathlib.Core.Path.{◌≡◌, ◌∙◌}
use mathlib.Core.Bool.{cond}
use mathlib.Core.List.{List}
use Prim.Native.Nat.{ℕ, ◌+◌, ◌≤◌, ◌<◌}
use native.Mathlib.Nat.{not-suc-le-zero}
use native.Mathlib.Omega.{arith}
use lib.Dec.{ltb}
use lib.ListN.{length, get_or, set, length-set}
use Rattle.nodes.specs.Nodes.{count, form, left, right, Descending}
use Rattle.nodes.specs.Fold.{fold_at}
use Rattle.nodes.proofs.Fold.{fold_entry, table_more}

module _ {A : Type 0} (leaf : ℕ → A) (node : ℕ → A → A → A) (b : List ℕ) (blank : A) where
  pub record Filled (size i : ℕ) (table : List A) : Type 0 where
    pub most : i ≤ count b
    pub long : length table ≡ size
    pub entries : (k : ℕ) → k < i → get_or table k blank ≡ fold_at leaf node b k

  pub filled_none : (size : ℕ) (table : List A) → length table ≡ size → Filled size 0 table
  filled_none size table e = record { most = omega arith; long = e; entries = λ k h. absurd (not-suc-le-zero h) }

  pub filled_more : Descending b → (size i : ℕ) (table : List A) (v : A) → i < count b → i < size
      → v ≡ cond (ltb (form b i) 3) (leaf i) (node i (get_or table (left b i) blank) (get_or table (right b i) blank))
      → Filled size i table → Filled size (i + 1) (set table i v)
  filled_more down size i table v c s e f = record {
    most = omega arith;
    long = simp length-set f.long;
    entries = table_more (λ k. fold_at leaf node b k) table blank i v (omega (arith, f.long)) (e ∙ fold_entry leaf node b down table blank i c f.entries) f.entries;
  }
