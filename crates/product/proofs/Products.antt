-- The product, word by word. The unions of word h of a and of word i of b lie in word h | i. Of a fixed word of b, the words of a below h
-- are done, in the end all; and then the words of b below i, in the end all.
use mathlib.Core.Path.{◌≡◌, sym, ap, ap₂, ◌∙◌, subst}
use mathlib.Core.Logic.{◌⊎◌, inl, inr}
use mathlib.Core.List.{List}
use Prim.Native.Nat.{ℕ, ◌+◌, ◌*◌, ◌/◌, ◌%◌, ◌<◌}
use native.Mathlib.Omega.{arith}
use borrow.Author.Count.{below_more}
use lib.Bits.{bit_or, or_lt, or_block, or_zero_l, or_zero_r}
use lib.ListN.{length, get_or, set, length-set}
use Rattle.family.specs.Family.{bit_at, In, Empty, Single}
use Rattle.product.specs.Product.{Union, Product}
use Rattle.product.specs.Steps.{Spreads, Picked, FromWord, Grown}
use Rattle.std.proofs.lemmas.Bool.{cases_eq}
use Rattle.std.proofs.lemmas.Nat.Bits.{bit_at-zero}
use Rattle.family.proofs.Bits.{or_left, or_right, or_back}
use Rattle.family.proofs.Words.{in_word, low_small, halves, in_range, stored_back, stored_here, stored_other}

-- a union by its word and its bit
or_words : (h i x y : ℕ) → x < 64 → y < 64 → bit_or (h * 64 + x) (i * 64 + y) ≡ bit_or h i * 64 + bit_or x y
or_words h i x y lx ly = or_block 6 h i x y lx ly

-- the words of a below h, with the word w
pub record Growing (a : List ℕ) (w i : ℕ) (r : List ℕ) (h : ℕ) (n : List ℕ) : Type 0 where
  pub long : length n ≡ 16
  pub sound : (t : ℕ) → In n t → In r t ⊎ FromWord a w i t
  pub keeps : (t : ℕ) → In r t → In n t
  pub complete : (k : ℕ) → k < h → (x y : ℕ) → x < 64 → bit_at (get_or a k 0) x ≡ 1 → y < 64 → bit_at w y ≡ 1 → In n (bit_or (k * 64 + x) (i * 64 + y))

module _ (a : List ℕ) (w i : ℕ) (r : List ℕ) where
  pub growing_none : length r ≡ 16 → Growing a w i r 0 r
  growing_none l = record { long = l; sound = λ t on. inl on; keeps = λ t on. on; complete = λ k lk. absurd (omega arith) }

  module _ (h : ℕ) (n : List ℕ) (g : Growing a w i r h n) where
    -- a word that is 0 has no sets
    pub growing_skip : get_or a h 0 ≡ 0 → Growing a w i r (h + 1) n
    growing_skip zero_word = record {
      long = g.long;
      sound = g.sound;
      keeps = g.keeps;
      complete = below_more (λ k. (x y : ℕ) → x < 64 → bit_at (get_or a k 0) x ≡ 1 → y < 64 → bit_at w y ≡ 1 → In n (bit_or (k * 64 + x) (i * 64 + y))) h g.complete
          (λ x y lx on. absurd (omega (arith, bit_at-zero x, rw zero_word at on)));
    }

    -- the words that word h of a picks from the table of w are joined to word h | i
    module _ (table : List ℕ) (p : ℕ) (lh : h < 16) (li : i < 16) (spread : Spreads w 64 table) (picked : Picked (get_or a h 0) table 64 p) where
      abbrev spot : ℕ
      spot = bit_or h i

      abbrev more : ℕ
      more = bit_or (get_or n spot 0) p

      spot_in : spot < length n
      spot_in = rw g.long (or_lt 4 h i lh li)

      more_keeps : (t : ℕ) → In n t → In (set n spot more) t
      more_keeps t on = elim (cases_eq (t / 64) spot) [
        | inl e ↦ stored_here n spot more spot_in t e (or_left (get_or n spot 0) p (t % 64) (rw e at on))
        | inr d ↦ stored_other n spot more spot_in t d on
      ]

      from_word : (t : ℕ) → t / 64 ≡ spot → bit_at p (t % 64) ≡ 1 → FromWord a w i t
      from_word t e on =
          let f = picked.sound (t % 64) on in
          let b = (spread f.place f.small).sound (t % 64) (low_small t) f.has in
          record {
            set = h * 64 + f.place;
            bit = b.bit;
            in_left = in_word a h f.place f.small f.on;
            small = b.small;
            on = b.on;
            is = or_words h i f.place b.bit f.small b.small ∙ ap₂ (λ (q j : ℕ). q * 64 + j) (sym e) b.is ∙ halves t;
          }

      more_sound : (t : ℕ) → In (set n spot more) t → In r t ⊎ FromWord a w i t
      more_sound t on = elim (stored_back n spot more spot_in t on) [
        | inl x ↦ elim (or_back (get_or n spot 0) p (t % 64) x.1) [
          | inl old ↦ g.sound t (ap (λ (q : ℕ). bit_at (get_or n q 0) (t % 64)) x.0 ∙ old)
          | inr new ↦ inr (from_word t x.0 new)
        ]
        | inr x ↦ g.sound t x.1
      ]

      more_here : (x y : ℕ) → x < 64 → bit_at (get_or a h 0) x ≡ 1 → y < 64 → bit_at w y ≡ 1 → In (set n spot more) (bit_or (h * 64 + x) (i * 64 + y))
      more_here x y lx onx ly ony =
          let j : ℕ = bit_or x y in
          let lj : bit_or x y < 64 = or_lt 6 x y lx ly in
          let e : (spot * 64 + bit_or x y) / 64 ≡ spot = omega arith in
          let d : (spot * 64 + bit_or x y) % 64 ≡ bit_or x y = omega arith in
          let on = picked.complete x lx onx (bit_or x y) ((spread x lx).complete y ly ony) in
          subst (In (set n spot more)) (sym (or_words h i x y lx ly)) (stored_here n spot more spot_in (spot * 64 + bit_or x y) e (ap (bit_at more) d ∙ or_right (get_or n spot 0) p (bit_or x y) on))

      pub growing_more : Growing a w i r (h + 1) (set n spot more)
      growing_more = record {
        long = length-set n spot more ∙ g.long;
        sound = more_sound;
        keeps = λ t on. more_keeps t (g.keeps t on);
        complete = below_more (λ k. (x y : ℕ) → x < 64 → bit_at (get_or a k 0) x ≡ 1 → y < 64 → bit_at w y ≡ 1 → In (set n spot more) (bit_or (k * 64 + x) (i * 64 + y))) h
            (λ k lk x y lx onx ly ony. more_keeps (bit_or (k * 64 + x) (i * 64 + y)) (g.complete k lk x y lx onx ly ony)) more_here;
      }

  pub grown : (n : List ℕ) → length a ≡ 16 → Growing a w i r 16 n → Grown a w i r n
  grown n la g = record {
    sound = g.sound;
    keeps = g.keeps;
    complete = λ s y on ly ony.
        let small = in_range a la s on in
        subst (λ (z : ℕ). In n (bit_or z (i * 64 + y))) (halves s) (g.complete (s / 64) (omega arith) (s % 64) y (low_small s) on ly ony);
  }

-- the words of b below i
pub record Building (a b : List ℕ) (i : ℕ) (r : List ℕ) : Type 0 where
  pub sound : (t : ℕ) → In r t → Union a b t
  pub complete : (k : ℕ) → k < i → (s y : ℕ) → In a s → y < 64 → bit_at (get_or b k 0) y ≡ 1 → In r (bit_or s (k * 64 + y))

module _ (a b : List ℕ) where
  pub building_none : (r : List ℕ) → Empty r → Building a b 0 r
  building_none r none = record { sound = λ t on. absurd (none t on); complete = λ k l. absurd (omega arith) }

  module _ (i : ℕ) (r : List ℕ) (p : Building a b i r) where
    from_word_union : (t : ℕ) → FromWord a (get_or b i 0) i t → Union a b t
    from_word_union t f = record { x = f.set; y = i * 64 + f.bit; in_left = f.in_left; in_right = in_word b i f.bit f.small f.on; is = f.is }

    pub building_more : (n : List ℕ) → Grown a (get_or b i 0) i r n → Building a b (i + 1) n
    building_more n g = record {
      sound = λ t on. elim (g.sound t on) [ inl old ↦ p.sound t old | inr f ↦ from_word_union t f ];
      complete = below_more (λ k. (s y : ℕ) → In a s → y < 64 → bit_at (get_or b k 0) y ≡ 1 → In n (bit_or s (k * 64 + y))) i
          (λ k l s y on ly ony. g.keeps (bit_or s (k * 64 + y)) (p.complete k l s y on ly ony)) g.complete;
    }

    pub building_skip : get_or b i 0 ≡ 0 → Building a b (i + 1) r
    building_skip zero_word = record {
      sound = p.sound;
      complete = below_more (λ k. (s y : ℕ) → In a s → y < 64 → bit_at (get_or b k 0) y ≡ 1 → In r (bit_or s (k * 64 + y))) i p.complete
          (λ s y on ly ony. absurd (omega (arith, bit_at-zero y, rw zero_word at ony)));
    }

  pub built : (r : List ℕ) → length b ≡ 16 → Building a b 16 r → Product a b r
  built r lb p = record {
    sound = p.sound;
    complete = λ s y on ony.
        let small = in_range b lb y ony in
        subst (λ (z : ℕ). In r (bit_or s z)) (halves y) (p.complete (y / 64) (omega arith) s (y % 64) on (low_small y) ony);
  }

  pub product_none : (r : List ℕ) → Empty r → Empty a → Product a b r
  product_none r none nothing = record { sound = λ t on. absurd (none t on); complete = λ x y on. absurd (nothing x on) }

-- a family of the empty set alone adds nothing
module _ (a b : List ℕ) where
  pub product_unit_left : Single 0 a → Product a b b
  product_unit_left one = record {
    sound = λ t on. record { x = 0; y = t; in_left = one.complete (omega arith); in_right = on; is = or_zero_l t };
    complete = λ x y i on. rw (one.sound x i).0 on;
  }

  pub product_unit_right : Single 0 b → Product a b a
  product_unit_right one = record {
    sound = λ t on. record { x = t; y = 0; in_left = on; in_right = one.complete (omega arith); is = or_zero_r t };
    complete = λ x y on i. rw ((one.sound y i).0, or_zero_r x) on;
  }
