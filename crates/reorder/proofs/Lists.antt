-- Lists of entries: what occurs in an interleaving, where a beginning of two parts ends, and the same entries in another order.
use mathlib.Core.Path.{◌≡◌, refl, sym, ◌∙◌, ap, ap₂}
use mathlib.Core.List.Memᴰ
use mathlib.Core.List.Permᴰ
use mathlib.Core.List.{[], ◌∷◌, ◌++◌}
use mathlib.Core.Logic.{◌⊎◌, inl, inr}
use Prim.Native.Nat.{ℕ}
use native.Mathlib.Omega.{arith}
use Rattle.process.specs.Process.{Entry, Run}
use Rattle.process.specs.Figure2.{Interleaving, neither, from_left, from_right}
use Rattle.process.proofs.Interleavings.{in_turn}
use Rattle.reorder.specs.Entries.{Occurs, SameEntries}

-- interleavings
pub joined : (p q : Run) {r : Run} → p ++ q ≡ r → Interleaving p q r
joined p q e = rw e at (in_turn p q)

pub nothing_left : {p q : Run} → Interleaving p q [] → (p ≡ []) × (q ≡ [])
nothing_left neither = (refl, refl)

-- what occurs in one
below : {A B C D : Type 0} → (A → C) → (B → D) → A ⊎ B → C ⊎ D
below f g (inl a) = inl (f a)
below f g (inr b) = inr (g b)

pub occurs_in : {e : Entry} {p q r : Run} → Interleaving p q r → Occurs e r → Occurs e p ⊎ Occurs e q
occurs_in neither m = elim m [ ]
occurs_in (from_left i) (Memᴰ.head h) = inl (Memᴰ.head h)
occurs_in (from_left i) (Memᴰ.tail m) = below (λ a. Memᴰ.tail a) (λ b. b) (occurs_in i m)
occurs_in (from_right i) (Memᴰ.head h) = inr (Memᴰ.head h)
occurs_in (from_right i) (Memᴰ.tail m) = below (λ a. a) (λ b. Memᴰ.tail b) (occurs_in i m)

pub occurs_left : {e : Entry} {p q r : Run} → Interleaving p q r → Occurs e p → Occurs e r
occurs_left neither m = elim m [ ]
occurs_left (from_left i) (Memᴰ.head h) = Memᴰ.head h
occurs_left (from_left i) (Memᴰ.tail m) = Memᴰ.tail (occurs_left i m)
occurs_left (from_right i) m = Memᴰ.tail (occurs_left i m)

pub occurs_right : {e : Entry} {p q r : Run} → Interleaving p q r → Occurs e q → Occurs e r
occurs_right neither m = elim m [ ]
occurs_right (from_right i) (Memᴰ.head h) = Memᴰ.head h
occurs_right (from_right i) (Memᴰ.tail m) = Memᴰ.tail (occurs_right i m)
occurs_right (from_left i) m = Memᴰ.tail (occurs_right i m)

-- The beginning w of two parts p and q ends inside p, with more to come; or p is past, and it ends in q.
pub data Cut (w z p q : Run) : Type 0 where
  inside : (v : Run) → w ++ v ≡ p → ¬ (z ≡ []) → Cut w z p q
  past : (v : Run) → p ++ v ≡ w → v ++ z ≡ q → Cut w z p q

not_nil : {e : Entry} {z r : Run} → z ≡ e ∷ r → ¬ (z ≡ [])
not_nil h n = let x : ◌≡◌ {A = ℕ} 0 1 = cc in omega arith

pub cut : (w z p q : Run) → w ++ z ≡ p ++ q → Cut w z p q
cut w z [] q h = past w refl h
cut [] z (x ∷ p) q h = inside (x ∷ p) refl (not_nil h)
cut (y ∷ w) z (x ∷ p) q h =
    let t : w ++ z ≡ p ++ q = cc in
    let i : y ≡ x = cc in
    elim (cut w z p q t) [ inside v a n ↦ inside v (rw (i, a)) n | past v a b ↦ past v (rw (i, a)) b ]

-- A beginning of an interleaving is one of beginnings.
pub data Shared (w z p q : Run) : Type 0 where
  shared : {a a' b b' : Run} → Interleaving a b w → Interleaving a' b' z → a ++ a' ≡ p → b ++ b' ≡ q → Shared w z p q

shared_left : (e : Entry) {w z p q : Run} → Shared w z p q → Shared (e ∷ w) z (e ∷ p) q
shared_left e (shared i j x y) = shared (from_left i) j (rw x) y

shared_right : (e : Entry) {w z p q : Run} → Shared w z p q → Shared (e ∷ w) z p (e ∷ q)
shared_right e (shared i j x y) = shared (from_right i) j x (rw y)

pub share : (w z : Run) {p q r : Run} → Interleaving p q r → w ++ z ≡ r → Shared w z p q
share [] z i h = shared neither (rw (← h) at i) refl refl
share (x ∷ w) z neither h = absurd (not_nil {z = x ∷ (w ++ z)} refl h)
share (x ∷ w) z (from_left {e = e} {r = r} i) h =
    let t : w ++ z ≡ r = cc in
    let j : x ≡ e = cc in
    rw j (shared_left e (share w z i t))
share (x ∷ w) z (from_right {e = e} {r = r} i) h =
    let t : w ++ z ≡ r = cc in
    let j : x ≡ e = cc in
    rw j (shared_right e (share w z i t))

-- the same entries
pub same_append : {p q p' q' : Run} → SameEntries p p' → SameEntries q q' → SameEntries (p ++ q) (p' ++ q')
same_append {q = q} {p' = p'} a b = Permᴰ.trans (Permᴰ.append_right q a) (Permᴰ.append_left p' b)

pub interleaved_same : {p q r : Run} → Interleaving p q r → SameEntries r (p ++ q)
interleaved_same neither = Permᴰ.nil
interleaved_same (from_left i) = Permᴰ.cons refl (interleaved_same i)
interleaved_same (from_right {e = e} {p = p} {q = q} i) = Permᴰ.trans (Permᴰ.cons refl (interleaved_same i)) (Permᴰ.symm (Permᴰ.middle e p q))

pub same_interleaved : {p q r p' q' r' : Run} → Interleaving p q r → Interleaving p' q' r' → SameEntries p p' → SameEntries q q' → SameEntries r r'
same_interleaved i j a b = Permᴰ.trans (interleaved_same i) (Permᴰ.trans (same_append a b) (Permᴰ.symm (interleaved_same j)))

-- and what they have in common: the same occur in both, and a sum over them is the same where the order of its parts does not matter
pub same_occurs : {e : Entry} {q r : Run} → SameEntries q r → Occurs e q → Occurs e r
same_occurs Permᴰ.nil m = elim m [ ]
same_occurs (Permᴰ.cons h a) (Memᴰ.head i) = Memᴰ.head (i ∙ h)
same_occurs (Permᴰ.cons h a) (Memᴰ.tail m) = Memᴰ.tail (same_occurs a m)
same_occurs (Permᴰ.swap h k) (Memᴰ.head i) = Memᴰ.tail (Memᴰ.head (i ∙ h))
same_occurs (Permᴰ.swap h k) (Memᴰ.tail (Memᴰ.head i)) = Memᴰ.head (i ∙ k)
same_occurs (Permᴰ.swap h k) (Memᴰ.tail (Memᴰ.tail m)) = Memᴰ.tail (Memᴰ.tail m)
same_occurs (Permᴰ.trans a b) m = same_occurs b (same_occurs a m)

module _ {A : Type 0} (add : A → A → A) (of : Entry → A) (sum : Run → A) (more : (e : Entry) (r : Run) → sum (e ∷ r) ≡ add (of e) (sum r)) (comm : (a b : A) → add a b ≡ add b a) (assoc : (a b c : A) → add (add a b) c ≡ add a (add b c)) where
  turned : (a b c : A) → add a (add b c) ≡ add b (add a c)
  turned a b c = sym (assoc a b c) ∙ ap (λ x. add x c) (comm a b) ∙ assoc b a c

  two : (d e : Entry) (r : Run) → sum (d ∷ e ∷ r) ≡ add (of d) (add (of e) (sum r))
  two d e r = more d (e ∷ r) ∙ ap (add (of d)) (more e r)

  pub same_sum : {q r : Run} → SameEntries q r → sum q ≡ sum r
  same_sum Permᴰ.nil = refl
  same_sum (Permᴰ.cons h a) = more _ _ ∙ ap₂ add (ap of h) (same_sum a) ∙ sym (more _ _)
  same_sum (Permᴰ.swap {a' = a} {b' = b} {l = l} h k) = rw (h, k) (two b a l ∙ turned (of b) (of a) (sum l) ∙ sym (two a b l))
  same_sum (Permᴰ.trans a b) = same_sum a ∙ same_sum b
