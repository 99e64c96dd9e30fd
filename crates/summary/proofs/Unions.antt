-- A node's families: the right codes passed are gathered, the left codes passed are joined in; in the end all of them are, since a code
-- above 14 has no sets.
use mathlib.Core.Path.{◌≡◌}
use mathlib.Core.Logic.{◌⊎◌, inl, inr}
use mathlib.Core.List.{List}
use Prim.Native.Nat.{ℕ, ◌+◌, ◌<◌}
use native.Mathlib.Omega.{arith}
use borrow.Author.Count.{below_more}
use lib.Bits.{bit_or}
use Rattle.family.specs.Family.{bit_at, In, Empty, Joined}
use Rattle.std.proofs.lemmas.Bool.{cases_lt}
use Rattle.std.proofs.lemmas.Nat.Bits.{bit_at-zero}
use Rattle.product.specs.Product.{Product}
use Rattle.summary.specs.declared.Summary.{Summary}
use Rattle.summary.specs.Summary.{family_of}
use Rattle.summary.specs.Node.{FromCell, Under}
use Rattle.summary.specs.Gathered.{FromRight, Gathered}
use Rattle.summary.specs.Marks.{Among}
use Rattle.summary.proofs.Codes.{beyond}

-- the right codes below n
pub record Gathering (row : ℕ → ℕ) (code : ℕ) (b : Summary) (n : ℕ) (g : List ℕ) : Type 0 where
  pub sound : (t : ℕ) → In g t → FromRight row code b t
  pub complete : (right : ℕ) → right < n → row right ≡ code → (t : ℕ) → In (family_of b right) t → In g t

module _ (row : ℕ → ℕ) (code : ℕ) (b : Summary) where
  pub gathering_none : (g : List ℕ) → Empty g → Gathering row code b 0 g
  gathering_none g none = record { sound = λ t on. absurd (none t on); complete = λ right l. absurd (omega arith) }

  module _ (n : ℕ) (g : List ℕ) (p : Gathering row code b n g) where
    pub gathering_more : (j : List ℕ) → row n ≡ code → Joined g (family_of b n) j → Gathering row code b (n + 1) j
    gathering_more j e joined = record {
      sound = λ t on. elim (joined.sound t on) [ inl old ↦ p.sound t old | inr new ↦ record { right = n; is_cell = e; has = new } ];
      complete = below_more (λ right. row right ≡ code → (t : ℕ) → In (family_of b right) t → In j t) n (λ right l c t on. joined.left t (p.complete right l c t on)) (λ c. joined.right);
    }

    pub gathering_skip : ¬ (row n ≡ code) → Gathering row code b (n + 1) g
    gathering_skip d = record {
      sound = p.sound;
      complete = below_more (λ right. row right ≡ code → (t : ℕ) → In (family_of b right) t → In g t) n p.complete (λ c. absurd (d c));
    }

  pub gathered : (g : List ℕ) → Gathering row code b 15 g → Gathered row code b g
  gathered g p = record {
    sound = p.sound;
    complete = λ right t c on. elim (cases_lt right 15) [ inl l ↦ p.complete right l c t on | inr l ↦ absurd (beyond b right l t on) ];
  }

-- one left code: r has the sets of u, and those by its cells; its sets are joined with all that is gathered beside it
pub record LeftAdded (cells : ℕ → ℕ → ℕ) (code : ℕ) (a b : Summary) (left : ℕ) (u r : List ℕ) : Type 0 where
  pub sound : (t : ℕ) → In r t → In u t ⊎ FromCell cells a b code t
  pub keeps : (t : ℕ) → In u t → In r t
  pub complete : (right x y : ℕ) → cells left right ≡ code → In (family_of a left) x → In (family_of b right) y → In r (bit_or x y)

module _ (cells : ℕ → ℕ → ℕ) (code : ℕ) (a b : Summary) (left : ℕ) (u : List ℕ) where
  module _ (g v j : List ℕ) (right_sets : Gathered (cells left) code b g) (unions : Product (family_of a left) g v) (joined : Joined u v j) where
    from_unions : (t : ℕ) → In v t → FromCell cells a b code t
    from_unions t on =
        let w = unions.sound t on in
        let r = right_sets.sound w.y w.in_right in
        record { left = left; right = r.right; is_cell = r.is_cell; union = record { x = w.x; y = w.y; in_left = w.in_left; in_right = r.has; is = w.is } }

    pub left_added : LeftAdded cells code a b left u j
    left_added = record {
      sound = λ t on. elim (joined.sound t on) [ inl old ↦ inl old | inr new ↦ inr (from_unions t new) ];
      keeps = joined.left;
      complete = λ right x y c i k. joined.right (bit_or x y) (unions.complete x y i (right_sets.complete right y c k));
    }

  -- a left code that is not marked has no part in it
  pub left_passed : (lefts : ℕ) → Among cells code a b lefts → ¬ (bit_at lefts left ≡ 1) → LeftAdded cells code a b left u u
  left_passed lefts among d = record { sound = λ t on. inl on; keeps = λ t on. on; complete = λ right x y c i k. absurd (d (among left right x y c i k)) }

-- the left codes below n
pub record Joining (cells : ℕ → ℕ → ℕ) (code : ℕ) (a b : Summary) (n : ℕ) (u : List ℕ) : Type 0 where
  pub sound : (t : ℕ) → In u t → FromCell cells a b code t
  pub complete : (left : ℕ) → left < n → (right x y : ℕ) → cells left right ≡ code → In (family_of a left) x → In (family_of b right) y → In u (bit_or x y)

module _ (cells : ℕ → ℕ → ℕ) (code : ℕ) (a b : Summary) where
  pub joining_none : (u : List ℕ) → Empty u → Joining cells code a b 0 u
  joining_none u none = record { sound = λ t on. absurd (none t on); complete = λ left l. absurd (omega arith) }

  pub joining_more : (n : ℕ) (u j : List ℕ) → Joining cells code a b n u → LeftAdded cells code a b n u j → Joining cells code a b (n + 1) j
  joining_more n u j q added = record {
    sound = λ t on. elim (added.sound t on) [ inl old ↦ q.sound t old | inr new ↦ new ];
    complete = below_more (λ left. (right x y : ℕ) → cells left right ≡ code → In (family_of a left) x → In (family_of b right) y → In j (bit_or x y)) n
        (λ left l right x y c i k. added.keeps (bit_or x y) (q.complete left l right x y c i k)) added.complete;
  }

  pub joined_all : (u : List ℕ) → Joining cells code a b 15 u → Under cells code a b u
  joined_all u q = record {
    sound = q.sound;
    complete = λ left right x y c i k. elim (cases_lt left 15) [ inl l ↦ q.complete left l right x y c i k | inr l ↦ absurd (beyond a left l x i) ];
  }

  -- where no left code is marked there are no sets
  pub joined_none : (u : List ℕ) → Empty u → Among cells code a b 0 → Under cells code a b u
  joined_none u none among = record { sound = λ t on. absurd (none t on); complete = λ left right x y c i k. absurd (omega (arith, bit_at-zero left, among left right x y c i k)) }
