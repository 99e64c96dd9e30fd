-- The smallest number of a list of which p holds: it is in the list, p holds of it, and no smaller one is so. It is settled by that.
use mathlib.Core.Path.{◌≡◌, refl, sym, ap, ◌∙◌}
use mathlib.Core.Bool.{Bool, true, false, cond, true≢false}
use mathlib.Core.List.{List, [], ◌∷◌, Memᴰ}
use Prim.Native.Nat.{ℕ, ◌≤◌, ◌<◌}
use native.Mathlib.Omega.{arith}
use lib.Dec.{ltb}
use borrow.Author.Tests.{ltb-true, ltb-false}
use Rattle.std.specs.Prelude.{Option, Some, None}
use Rattle.judge.specs.Verdict.{or_smaller, smallest}

module _ (p : ℕ → Bool) where
  -- u is the smallest of the numbers that are so and have p
  pub record IsSmallest (F : ℕ → Type 0) (u : ℕ) : Type 0 where
    pub is : F u
    pub holds : p u ≡ true
    pub least : (t : ℕ) → F t → p t ≡ true → u ≤ t

  -- what an answer says of the numbers that are so
  abbrev pub Tells : (ℕ → Type 0) → Option ℕ → Type 0
  Tells F (Some u) = IsSmallest F u
  Tells F None = (t : ℕ) → F t → p t ≡ false

  abbrev Among : List ℕ → ℕ → Type 0
  Among ts t = Memᴰ t ts

  passed : (t : ℕ) (ts : List ℕ) (x : Option ℕ) → p t ≡ false → Tells (Among ts) x → Tells (Among (t ∷ ts)) x
  passed t ts (Some u) e h = record {
    is = Memᴰ.tail h.is;
    holds = h.holds;
    least = λ v m k. go v m k;
  }
    where
      go : (v : ℕ) → Memᴰ v (t ∷ ts) → p v ≡ true → u ≤ v
      go v (Memᴰ.head z) k = absurd (true≢false (sym k ∙ ap p z ∙ e))
      go v (Memᴰ.tail m) k = h.least v m k
  passed t ts None e h = go
    where
      go : (v : ℕ) → Memᴰ v (t ∷ ts) → p v ≡ false
      go v (Memᴰ.head z) = ap p z ∙ e
      go v (Memᴰ.tail m) = h v m

  kept : (t : ℕ) (ts : List ℕ) (x : Option ℕ) → p t ≡ true → Tells (Among ts) x → Tells (Among (t ∷ ts)) (or_smaller t x)
  kept t ts None e h = record { is = Memᴰ.head refl; holds = e; least = go }
    where
      go : (v : ℕ) → Memᴰ v (t ∷ ts) → p v ≡ true → t ≤ v
      go v (Memᴰ.head z) k = omega arith
      go v (Memᴰ.tail m) k = absurd (true≢false (sym k ∙ h v m))
  kept t ts (Some u) e h = smaller (ltb u t) refl
    where
      old_least : u < t → (v : ℕ) → Memᴰ v (t ∷ ts) → p v ≡ true → u ≤ v
      old_least l v (Memᴰ.head z) k = omega arith
      old_least l v (Memᴰ.tail m) k = h.least v m k

      new_least : t ≤ u → (v : ℕ) → Memᴰ v (t ∷ ts) → p v ≡ true → t ≤ v
      new_least l v (Memᴰ.head z) k = omega arith
      new_least l v (Memᴰ.tail m) k = omega (arith, h.least v m k)

      smaller : (b : Bool) → ltb u t ≡ b → Tells (Among (t ∷ ts)) (cond b (Some u) (Some t))
      smaller true z = record { is = Memᴰ.tail h.is; holds = h.holds; least = old_least (ltb-true u t z) }
      smaller false z = record { is = Memᴰ.head refl; holds = e; least = new_least (ltb-false u t z) }

  pub smallest_tells : (ts : List ℕ) → Tells (λ t. Memᴰ t ts) (smallest p ts)
  unfolding smallest
  smallest_tells [] = none
    where
      none : (t : ℕ) → Memᴰ t [] → p t ≡ false
      none t m = elim m [ ]
  smallest_tells (t ∷ ts) = go (p t) refl (smallest_tells ts)
    where
      go : (b : Bool) → p t ≡ b → Tells (λ u. Memᴰ u ts) (smallest p ts) → Tells (λ u. Memᴰ u (t ∷ ts)) (cond b (or_smaller t (smallest p ts)) (smallest p ts))
      go true e h = kept t ts (smallest p ts) e h
      go false e h = passed t ts (smallest p ts) e h

  -- two answers that tell of the same numbers are the same
  pub told_once : (F G : ℕ → Type 0) → ((t : ℕ) → F t → G t) → ((t : ℕ) → G t → F t) → (x y : Option ℕ) → Tells F x → Tells G y → x ≡ y
  told_once F G to from (Some u) (Some v) h k = let e : u ≡ v = omega (arith, h.least v (from v k.is) k.holds, k.least u (to u h.is) h.holds) in ap Some e
  told_once F G to from (Some u) None h k = absurd (true≢false (sym h.holds ∙ k u (to u h.is)))
  told_once F G to from None (Some v) h k = absurd (true≢false (sym k.holds ∙ h v (from v k.is)))
  told_once F G to from None None h k = refl
