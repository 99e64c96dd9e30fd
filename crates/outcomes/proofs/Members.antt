-- The members of a node's family: the unions of a left set and a right set whose cell can occur, and no others. This is the law that any computation of the families is held
-- against, of every chart over numbers. And the members of the list of the sets under some codes.
use mathlib.Core.Path.{◌≡◌, refl, sym, ap}
use mathlib.Core.Bool.{Bool, true, false, cond, ◌||◌, true≢false}
use mathlib.Core.Logic.{◌⊎◌, inl, inr}
use mathlib.Core.List.Memᴰ
use mathlib.Core.List.{List, [], ◌∷◌, map, flat_map, Memᴰ}
use Prim.Native.Nat.{ℕ, ◌<◌}
use lib.Dec.{T, eqb, eqb→eq, ltb, ltb→lt, lt→ltb}
use borrow.Author.Tests.{eq-eqb}
use Rattle.process.specs.Process.{ok, fail, Kind, permits, Form, Process, done, leaf, node}
use Rattle.outcomes.specs.Sets.{Sets}
use Rattle.outcomes.specs.Cells.{among}
use Rattle.outcomes.specs.Families.{Numbered, LeafSet, not_run, finished, failed, ending, joint, outcomes_by, InFamilyBy, under, sets_under}

in_flat_map : {A B : Type 0} (k : A → List B) {x : A} {y : B} {xs : List A} → Memᴰ x xs → Memᴰ y (k x) → Memᴰ y (flat_map k xs)
unfolding flat_map
in_flat_map k (Memᴰ.head e) m = Memᴰ.append_left _ (rw e at m)
in_flat_map k (Memᴰ.tail {x = z} i) m = Memᴰ.append_right (k z) (in_flat_map k i m)

out_flat_map : {A B : Type 0} (k : A → List B) (xs : List A) {y : B} → Memᴰ y (flat_map k xs) → (x : A) × Memᴰ x xs × Memᴰ y (k x)
unfolding flat_map
out_flat_map k [] m = absurd (Memᴰ.not-nil m)
out_flat_map {A} {B} k (x ∷ xs) {y} m = go (Memᴰ.append_cases (k x) m) (λ i. out_flat_map k xs i)
  where
    go : Memᴰ y (k x) ⊎ Memᴰ y (flat_map k xs) → (Memᴰ y (flat_map k xs) → (z : A) × Memᴰ z xs × Memᴰ y (k z)) → (z : A) × Memᴰ z (x ∷ xs) × Memᴰ y (k z)
    go (inl i) below = (x, Memᴰ.head refl, i)
    go (inr i) below = let (z, j, n) = below i in (z, Memᴰ.tail j, n)

out_cond : {A : Type 0} (b : Bool) {x y : A} → Memᴰ x (cond b (y ∷ []) []) → T b × (x ≡ y)
out_cond true (Memᴰ.head e) = (tt, e)
out_cond true (Memᴰ.tail m) = elim m [ ]
out_cond false m = elim m [ ]

in_cond : {A : Type 0} (b : Bool) (x : A) → T b → Memᴰ x (cond b (x ∷ []) [])
in_cond true x t = Memᴰ.head refl
in_cond false x t = absurd t

pub in_map : {A B : Type 0} (k : A → B) {x : A} {xs : List A} → Memᴰ x xs → Memᴰ (k x) (map k xs)
in_map k (Memᴰ.head e) = Memᴰ.head (ap k e)
in_map k (Memᴰ.tail i) = Memᴰ.tail (in_map k i)

pub out_map : {A B : Type 0} (k : A → B) (xs : List A) {y : B} → Memᴰ y (map k xs) → (x : A) × Memᴰ x xs × (y ≡ k x)
out_map k [] m = absurd (Memᴰ.not-nil m)
out_map k (x ∷ xs) (Memᴰ.head e) = (x, Memᴰ.head refl, e)
out_map k (x ∷ xs) (Memᴰ.tail m) = let (z, j, e) = out_map k xs m in (z, Memᴰ.tail j, e)

-- whether a code is among some
or_cases : (a b : Bool) → T (a || b) → T a ⊎ T b
or_cases true b t = inl tt
or_cases false b t = inr t

or_right : (a b : Bool) → T b → T (a || b)
or_right true b t = tt
or_right false b t = t

pub among_member : (c : ℕ) (xs : List ℕ) → T (among c xs) → Memᴰ c xs
among_member c [] t = absurd t
among_member c (x ∷ xs) t = elim (or_cases (eqb c x) (among c xs) t) [ inl e ↦ Memᴰ.head (eqb→eq c x e) | inr m ↦ Memᴰ.tail (among_member c xs m) ]

pub member_among : {c : ℕ} {xs : List ℕ} → Memᴰ c xs → T (among c xs)
member_among {c} (Memᴰ.head {x = x} e) = rw (eq-eqb c x e) tt
member_among {c} (Memᴰ.tail {x = x} i) = or_right (eqb c x) _ (member_among i)

module _ (N : Numbered) (S : Sets) where
  pub data FromSides (f : Form) (P Q : Process) (c : ℕ) (X : S.Set) : Type 0 where
    from_sides : {l r : ℕ} {A B : S.Set} → InFamilyBy N S P l A → InFamilyBy N S Q r B → N.cell_of f l r ≡ c → c < N.codes → S.union A B ≡ X → FromSides f P Q c X

  pub in_node_family : (f : Form) (P Q : Process) {c : ℕ} {X : S.Set} → FromSides f P Q c X → InFamilyBy N S (node f P Q) c X
  unfolding outcomes_by
  in_node_family f P Q (from_sides {l = l} {r = r} {A = A} i j e h x) =
      let low : N.cell_of f l r < N.codes = rw e h in
      Memᴰ.cast (λ t. (sym e t, sym x t))
      (in_flat_map (λ y. flat_map (joint N S f y) (outcomes_by N S Q)) i (in_flat_map (joint N S f (l, A)) j (in_cond (ltb (N.cell_of f l r) N.codes) _ (lt→ltb _ _ low))))

  pub out_node_family : (f : Form) (P Q : Process) {c : ℕ} {X : S.Set} → InFamilyBy N S (node f P Q) c X → FromSides f P Q c X
  unfolding outcomes_by
  out_node_family f P Q m =
      let (x, i, n) = out_flat_map (λ x. flat_map (joint N S f x) (outcomes_by N S Q)) (outcomes_by N S P) m in
      let (y, j, k) = out_flat_map (joint N S f x) (outcomes_by N S Q) n in
      let (t, e) = out_cond (ltb (N.cell_of f x.0 y.0) N.codes) k in
      from_sides i j (ap (λ o. o.0) (sym e)) (rw (ap (λ o. o.0) e) (ltb→lt _ _ t)) (ap (λ o. o.1) (sym e))

  in_ending : (b : Bool) {codes : List ℕ} {c : ℕ} {A X : S.Set} → b ≡ true → Memᴰ c codes → X ≡ A → Memᴰ (c, X) (ending N S b codes A)
  in_ending b {c = c} {A = A} e i x = rw e (Memᴰ.cast (λ t. (c, x t)) (in_map (λ c. (c, A)) i))

  out_ending : (b : Bool) {codes : List ℕ} {c : ℕ} {A X : S.Set} → Memᴰ (c, X) (ending N S b codes A) → (b ≡ true) × Memᴰ c codes × (X ≡ A)
  out_ending true {codes} {A = A} m = let (d, i, e) = out_map (λ c. (c, A)) codes m in (refl, rw (sym (ap (λ o. o.0) e)) at i, ap (λ o. o.1) e)
  out_ending false m = elim m [ ]

  pub in_leaf_family : (n : ℕ) (k : Kind) {c : ℕ} {X : S.Set} → LeafSet N S.empty (S.single n) (permits k ok) (permits k fail) c X → InFamilyBy N S (leaf n k) c X
  unfolding outcomes_by
  in_leaf_family n k (not_run e x) = Memᴰ.head (λ t. (e t, x t))
  in_leaf_family n k (finished a i x) = Memᴰ.tail (Memᴰ.append_left {s = ending N S (permits k ok) N.finished (S.single n)} _ (in_ending (permits k ok) a i x))
  in_leaf_family n k (failed a i x) = Memᴰ.tail (Memᴰ.append_right (ending N S (permits k ok) N.finished (S.single n)) (in_ending (permits k fail) a i x))

  pub out_leaf_family : (n : ℕ) (k : Kind) {c : ℕ} {X : S.Set} → InFamilyBy N S (leaf n k) c X → LeafSet N S.empty (S.single n) (permits k ok) (permits k fail) c X
  unfolding outcomes_by
  out_leaf_family n k (Memᴰ.head e) = not_run (ap (λ o. o.0) e) (ap (λ o. o.1) e)
  out_leaf_family n k (Memᴰ.tail m) =
      elim (Memᴰ.append_cases (ending N S (permits k ok) N.finished (S.single n)) m) [
        | inl i ↦ (let (a, j, x) = out_ending (permits k ok) i in finished a j x)
        | inr i ↦ (let (a, j, x) = out_ending (permits k fail) i in failed a j x)
      ]

  -- `done` is as a leaf that finishes and adds nothing
  pub in_done_family : {c : ℕ} {X : S.Set} → LeafSet N S.empty S.empty true false c X → InFamilyBy N S done c X
  unfolding outcomes_by
  in_done_family (not_run e x) = Memᴰ.head (λ t. (e t, x t))
  in_done_family (finished a i x) = Memᴰ.tail (in_ending true refl i x)
  in_done_family (failed a i x) = absurd (true≢false (sym a))

  pub out_done_family : {c : ℕ} {X : S.Set} → InFamilyBy N S done c X → LeafSet N S.empty S.empty true false c X
  unfolding outcomes_by
  out_done_family (Memᴰ.head e) = not_run (ap (λ o. o.0) e) (ap (λ o. o.1) e)
  out_done_family (Memᴰ.tail m) = let (a, j, x) = out_ending true m in finished a j x

  -- the sets under some codes
  pub in_sets_under : (codes : List ℕ) (P : Process) {c : ℕ} {X : S.Set} → Memᴰ c codes → InFamilyBy N S P c X → Memᴰ X (sets_under N S codes P)
  unfolding sets_under
  in_sets_under codes P {c} {X} i m = in_flat_map (under N S codes) m (in_cond (among c codes) X (member_among i))

  pub out_sets_under : (codes : List ℕ) (P : Process) {X : S.Set} → Memᴰ X (sets_under N S codes P) → (c : ℕ) × Memᴰ c codes × InFamilyBy N S P c X
  unfolding sets_under
  out_sets_under codes P m =
      let (o, i, n) = out_flat_map (under N S codes) (outcomes_by N S P) m in
      let (t, x) = out_cond (among o.0 codes) n in
      (o.0, among_member o.0 codes t, Memᴰ.cast (λ t. (o.0, x t)) i)
