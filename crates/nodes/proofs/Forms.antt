-- The test of the form rules holds exactly where the statement does; so parts have smaller numbers where it holds.
use mathlib.Core.Path.{◌≡◌, refl, sym}
use mathlib.Core.Bool.{Bool, true, false, true≢false, cond}
use mathlib.Core.List.{List}
use mathlib.Core.Logic.{◌↔◌}
use Prim.Native.Nat.{ℕ}
use native.Mathlib.Omega.{arith}
use lib.Dec.{ltb, leb, eqb}
use borrow.Author.Tests.{leb-true, le-leb, ltb-true, ltb-false, lt-ltb, eqb-true, eqb-false, eq-eqb}
use Rattle.blocks.proofs.Bounded.{both_true, every_at, every_all}
use Rattle.nodes.specs.Nodes.{count, form, left, right, FormRule, FormRules, Descending}
use Rattle.nodes.specs.NodeTests.{node_ok, forms_ok}

module _ (actions : ℕ) (b : List ℕ) where
  node_says : (i : ℕ) → (node_ok actions i (form b i) (left b i) (right b i) ≡ true) ↔ FormRule actions b i
  node_says i = (to (eqb (form b i) 0) (ltb (form b i) 3) (leb (form b i) 7) refl refl refl, λ k. from k (eqb (form b i) 0) (ltb (form b i) 3) refl refl)
    where
      to : (a small most : Bool) → eqb (form b i) 0 ≡ a → ltb (form b i) 3 ≡ small → leb (form b i) 7 ≡ most
          → cond a (cond (ltb (left b i) actions) (eqb (right b i) 0) false)
          (cond small (cond (eqb (left b i) 0) (eqb (right b i) 0) false)
          (cond most (cond (ltb (left b i) i) (ltb (right b i) i) false) false))
          ≡ true
          → FormRule actions b i
      to true s m ea es em h =
          let e = eqb-true (form b i) 0 ea in
          let (l, r) = both_true _ _ h in
          record {
            known = omega arith;
            action = λ _. (ltb-true _ _ l, eqb-true _ _ r);
            plain = λ one _. absurd (omega arith);
            parts = λ three. absurd (omega arith);
          }
      to false true m ea es em h =
          let e = eqb-false (form b i) 0 ea in
          let k = ltb-true (form b i) 3 es in
          let (l, r) = both_true _ _ h in
          record {
            known = omega arith;
            action = λ z. absurd (e z);
            plain = λ _ _. (eqb-true _ _ l, eqb-true _ _ r);
            parts = λ three. absurd (omega arith);
          }
      to false false true ea es em h =
          let e = eqb-false (form b i) 0 ea in
          let k = ltb-false (form b i) 3 es in
          let (l, r) = both_true _ _ h in
          record {
            known = leb-true (form b i) 7 em;
            action = λ z. absurd (e z);
            plain = λ _ two. absurd (omega arith);
            parts = λ _. (ltb-true _ _ l, ltb-true _ _ r);
          }
      to false false false ea es em h = absurd (true≢false (sym h))

      from : FormRule actions b i → (a small : Bool) → eqb (form b i) 0 ≡ a → ltb (form b i) 3 ≡ small
          → cond a (cond (ltb (left b i) actions) (eqb (right b i) 0) false)
          (cond small (cond (eqb (left b i) 0) (eqb (right b i) 0) false)
          (cond (leb (form b i) 7) (cond (ltb (left b i) i) (ltb (right b i) i) false) false))
          ≡ true
      from k true s ea es = let (l, r) = k.action (eqb-true _ _ ea) in simp (lt-ltb _ _ l, eq-eqb _ _ r)
      from k false true ea es =
          let e = eqb-false (form b i) 0 ea in
          let s = ltb-true (form b i) 3 es in
          let (l, r) = k.plain (omega arith) (omega arith) in
          simp (eq-eqb _ _ l, eq-eqb _ _ r)
      from k false false ea es =
          let (l, r) = k.parts (ltb-false (form b i) 3 es) in
          simp (le-leb _ _ k.known, lt-ltb _ _ l, lt-ltb _ _ r)

  test : ℕ → Bool
  test i = node_ok actions i (form b i) (left b i) (right b i)

  pub forms_say : (forms_ok actions b ≡ true) ↔ FormRules actions b
  unfolding test
  forms_say = (λ h i l. (node_says i).0 (every_at test (count b) i h l), λ h. every_all test (count b) (λ i l. (node_says i).1 (h i l)))

  pub descending : forms_ok actions b ≡ true → Descending b
  descending h i l = (forms_say.0 h i l).parts
