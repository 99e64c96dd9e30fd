-- The set that a run leaves, by its actions: each action is in it that finished at some leaf, and no other; and numbers with the same bits are the same.
use mathlib.Core.Path.{◌≡◌, refl, sym, ◌∙◌, ap}
use mathlib.Core.Bool.{Bool, true, false, cond}
use mathlib.Core.List.Memᴰ
use mathlib.Core.List.{List, [], ◌∷◌}
use mathlib.Core.Logic.{inl, inr, ⊎_elim}
use Prim.Native.Nat.{ℕ, zero, suc, ◌/◌, ◌%◌, ◌^◌, ◌≤◌, ◌<◌}
use native.Mathlib.Nat.{div-eq_of_lt}
use native.Mathlib.Omega.{arith}
use borrow.Author.Tests.{eqb-true, eq-eqb}
use lib.Arith.{bin_ind}
use lib.Pow.{pow-lt}
use lib.Dec.{eqb}
use Rattle.blocks.proofs.Bounded.{both_hold}
use Rattle.family.specs.Family.{bit_at}
use Rattle.family.proofs.Numbers.{same_or_other, below_or_above}
use Rattle.family.proofs.Bits.{no_bit, bit_or_lem, or_left, or_right, or_back, bit_small, bit_up, own_bit, only_own_bit}
use Rattle.process.specs.Process.{ok, fail, Entry, entry, Run}
use Rattle.nodes.specs.Nodes.{form, left}
use Rattle.outcomes.specs.Sets.{added, set_of}
use Rattle.reorder.specs.Entries.{Occurs}
use Rattle.sets.specs.PlanSets.{leaf_set, action_sets}
use Rattle.fewest.specs.Search.{in_set, welcome, is_leaf_of}

-- numbers with the same bits
nothing_set : (y : ℕ) → ((a : ℕ) → bit_at y a ≡ 0) → y ≡ 0
nothing_set = bin_ind (λ y. ((a : ℕ) → bit_at y a ≡ 0) → y ≡ 0) (λ h. refl) (λ y halves h. let i : y / 2 ≡ 0 = halves (λ a. sym (bit_up y a) ∙ h (suc a)) in let j : y % 2 ≡ 0 = omega (arith, h 0) in omega arith)

same_bits : (x y : ℕ) → ((a : ℕ) → bit_at x a ≡ bit_at y a) → x ≡ y
same_bits =
    bin_ind (λ x. (y : ℕ) → ((a : ℕ) → bit_at x a ≡ bit_at y a) → x ≡ y) (λ y h. sym (nothing_set y (λ a. sym (h a) ∙ no_bit a)))
    (λ x halves y h. let i : x / 2 ≡ y / 2 = halves (y / 2) (λ a. sym (bit_up x a) ∙ h (suc a) ∙ bit_up y a) in let j : x % 2 ≡ y % 2 = omega (arith, h 0) in omega arith)

same_sets_lem : (x y : ℕ) → ((a : ℕ) → bit_at x a ≡ 1 → bit_at y a ≡ 1) → ((a : ℕ) → bit_at y a ≡ 1 → bit_at x a ≡ 1) → x ≡ y
same_sets_lem x y f g = same_bits x y (λ a. bits (bit_at x a) (bit_at y a) (bit_small x a) (bit_small y a) (f a) (g a))
  where
    bits : (u v : ℕ) → u < 2 → v < 2 → (u ≡ 1 → v ≡ 1) → (v ≡ 1 → u ≡ 1) → u ≡ v
    bits zero zero h k f g = refl
    bits zero (suc v) h k f g = let i = g (omega arith) in absurd (omega arith)
    bits (suc u) v h k f g = let i = f (omega arith) in omega arith

-- a number below 2 ^ k has no bit from k on
within : (k S a : ℕ) → S < 2 ^ k → k ≤ a → S < 2 ^ a
within k S a l h = elim (same_or_other k a) [ inl e ↦ rw e at l | inr d ↦ omega (arith, pow-lt {i = k} {j = a} (omega arith)) ]

pub bit_low : (k S a : ℕ) → S < 2 ^ k → bit_at S a ≡ 1 → a < k
bit_low k S a l e = elim (below_or_above a k) [ inl h ↦ h | inr h ↦ absurd (omega (arith, ap (λ x. x % 2) (div-eq_of_lt (within k S a l h)))) ]

module _ (b : List ℕ) where
  -- the action a finished in r
  pub record Finished (a : ℕ) (r : Run) : Type 0 where
    pub at : ℕ
    pub runs : Occurs (entry at ok) r
    pub of : is_leaf_of b a at ≡ true

  -- the set that a leaf adds holds its action
  leaf_holds : (n a : ℕ) → is_leaf_of b a n ≡ true → bit_at (leaf_set b n) a ≡ 1
  leaf_holds n a h =
      let (f, l) = both_hold (eqb (form b n) 0) (eqb (left b n) a) h in
      let i : left b n ≡ a = eqb-true _ _ l in
      rw (f, i) (own_bit a)

  leaf_held : (n a : ℕ) → bit_at (leaf_set b n) a ≡ 1 → is_leaf_of b a n ≡ true
  leaf_held n a h = go (eqb (form b n) 0) refl
    where
      go : (t : Bool) → eqb (form b n) 0 ≡ t → is_leaf_of b a n ≡ true
      go true e = let k : bit_at (2 ^ left b n) a ≡ 1 = rw e at h in rw e (eq-eqb (left b n) a (sym (only_own_bit a (left b n) k)))
      go false e = let k : bit_at 0 a ≡ 1 = rw e at h in absurd (omega (arith, no_bit a))

  later : {a : ℕ} {e : Entry} {r : Run} → Finished a r → Finished a (e ∷ r)
  later f = record { at = f.at; runs = Memᴰ.tail f.runs; of = f.of }

  -- and so does the run's set
  set_held : (r : Run) (a : ℕ) → bit_at (set_of (action_sets b) r) a ≡ 1 → Finished a r
  set_held [] a h = absurd (omega (arith, no_bit a))
  set_held (entry n ok ∷ r) a h =
      ⊎_elim (λ x. record { at = n; runs = Memᴰ.head refl; of = leaf_held n a x })
      (λ x. later (set_held r a x))
      (or_back (leaf_set b n) (set_of (action_sets b) r) a h)
  set_held (entry n fail ∷ r) a h =
      later (set_held r a (omega (arith, bit_or_lem 0 (set_of (action_sets b) r) a, no_bit a)))

  entry_holds : {n : ℕ} (r : Run) (a : ℕ) → Occurs (entry n ok) r → bit_at (leaf_set b n) a ≡ 1 → bit_at (set_of (action_sets b) r) a ≡ 1
  entry_holds {n = n} [] a o h = elim o [ ]
  entry_holds (e ∷ r) a (Memᴰ.head i) h = or_left (added (action_sets b) e) (set_of (action_sets b) r) a (omega (arith, ap (λ x. bit_at (added (action_sets b) x) a) i))
  entry_holds (e ∷ r) a (Memᴰ.tail m) h = or_right (added (action_sets b) e) (set_of (action_sets b) r) a (entry_holds r a m h)

  set_holds : (r : Run) (a : ℕ) → Finished a r → bit_at (set_of (action_sets b) r) a ≡ 1
  set_holds r a f = entry_holds r a f.runs (leaf_holds f.at a f.of)

  -- no action outside S finished in r
  pub record Welcomed (S : ℕ) (r : Run) : Type 0 where
    pub each : (n : ℕ) → Occurs (entry n ok) r → welcome b S n ≡ true

  welcome_in : (S n a : ℕ) → is_leaf_of b a n ≡ true → welcome b S n ≡ true → bit_at S a ≡ 1
  welcome_in S n a h w =
      let (f, l) = both_hold (eqb (form b n) 0) (eqb (left b n) a) h in
      let i : left b n ≡ a = eqb-true _ _ l in
      let k : in_set S a ≡ true = rw (f, i) at w in
      eqb-true _ _ k

  -- S is the set that r leaves: no other action finished, and each of its actions did
  pub set_is : (S : ℕ) (r : Run) → Welcomed S r → ((a : ℕ) → bit_at S a ≡ 1 → Finished a r) → set_of (action_sets b) r ≡ S
  set_is S r w f = same_sets_lem _ S (λ a x. let g = set_held r a x in welcome_in S g.at a g.of (w.each g.at g.runs)) (λ a x. set_holds r a (f a x))

  pub set_finished : (S : ℕ) (r : Run) → set_of (action_sets b) r ≡ S → (a : ℕ) → bit_at S a ≡ 1 → Finished a r
  set_finished S r e a h = set_held r a (rw e h)

  pub set_welcomed : (S : ℕ) (r : Run) → set_of (action_sets b) r ≡ S → Welcomed S r
  set_welcomed S r e = record { each = λ n o. go n o (eqb (form b n) 0) refl }
    where
      go : (n : ℕ) → Occurs (entry n ok) r → (t : Bool) → eqb (form b n) 0 ≡ t → cond t (in_set S (left b n)) true ≡ true
      go n o true f =
          let h : bit_at S (left b n) ≡ 1 = rw e at (set_holds r (left b n) (record { at = n; runs = o; of = rw f (eq-eqb (left b n) (left b n) refl) })) in
          eq-eqb _ _ h
      go n o false f = refl
