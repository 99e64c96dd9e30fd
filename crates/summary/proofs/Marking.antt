-- The marks: each code with sets is marked, each left code under the digits of its row; so every left code that has a part in a code of the node is among those marked for it.
use mathlib.Core.Path.{◌≡◌, sym, ap, ◌∙◌}
use mathlib.Core.Logic.{◌⊎◌, inl, inr}
use mathlib.Core.List.{List}
use Prim.Native.Nat.{ℕ, zero, suc, ◌+◌, ◌*◌, ◌/◌, ◌%◌, ◌^◌, ◌<◌}
use native.Mathlib.Nat.{zero-div}
use native.Mathlib.Omega.{arith}
use borrow.Author.Count.{below_more}
use lib.Bits.{bit_or}
use lib.Pow.{shr-shr}
use lib.ListN.{length, get_or, set, length-set}
use lib.Seq.{get_or-set_same, get_or-set_other}
use Rattle.family.specs.Family.{bit_at, In, Empty}
use Rattle.std.proofs.lemmas.Bool.{cases_eq, cases_lt}
use Rattle.std.proofs.lemmas.Nat.{one_shl}
use Rattle.std.proofs.lemmas.Nat.Bits.{bit_at-pow_same, bit_at-suc}
use Rattle.family.proofs.Bits.{or_left, or_right}
use Rattle.outcomes.specs.Rows.{row_in, digit_of, cell_in3}
use Rattle.summary.specs.declared.Summary.{Summary}
use Rattle.summary.specs.Summary.{family_of}
use Rattle.summary.specs.Marks.{Live, Marked, Marks, Among}
use Rattle.summary.proofs.Codes.{beyond}
use Rattle.summary.proofs.Rows.{cells_of_row, cell_digit}

-- a mark put into a word
abbrev with_mark : ℕ → ℕ → ℕ
with_mark m k = bit_or m (1 * 2 ^ k % 2 ^ 64)

put_mark : (m k : ℕ) → k < 64 → bit_at (with_mark m k) k ≡ 1
put_mark m k l = or_right m (1 * 2 ^ k % 2 ^ 64) k (rw (one_shl k 64 l) (bit_at-pow_same k))

kept_mark : (m k i : ℕ) → bit_at m i ≡ 1 → bit_at (with_mark m k) i ≡ 1
kept_mark m k i = or_left m (1 * 2 ^ k % 2 ^ 64) i

-- the codes below n that have sets are marked
pub record LiveBelow (s : Summary) (n m : ℕ) : Type 0 where
  pub marked : (code : ℕ) → code < n → (t : ℕ) → In (family_of s code) t → bit_at m code ≡ 1

module _ (s : Summary) where
  module _ (n m : ℕ) (p : LiveBelow s n m) where
    pub live_more : n < 64 → LiveBelow s (n + 1) (with_mark m n)
    live_more l = record { marked = below_more (λ code. (t : ℕ) → In (family_of s code) t → bit_at (with_mark m n) code ≡ 1) n (λ code h t on. kept_mark m n code (p.marked code h t on)) (λ t on. put_mark m n l) }

    pub live_skip : Empty (family_of s n) → LiveBelow s (n + 1) m
    live_skip none = record { marked = below_more (λ code. (t : ℕ) → In (family_of s code) t → bit_at m code ≡ 1) n p.marked (λ t on. absurd (none t on)) }

  pub live_all : (m : ℕ) → LiveBelow s 15 m → Live s m
  live_all m p code t on = elim (cases_lt code 15) [ inl l ↦ p.marked code l t on | inr l ↦ absurd (beyond s code l t on) ]

-- a digit of the row at a marked right code
pub record Ahead (row rights c : ℕ) : Type 0 where
  pub right : ℕ
  pub on : bit_at rights right ≡ 1
  pub digit : digit_of row right ≡ suc c

digit_up : (row r : ℕ) → digit_of row (suc r) ≡ digit_of (row / 2 ^ 4) r
digit_up row r = ap (λ (n : ℕ). n % 16) (ap (λ (k : ℕ). row / 2 ^ k) (omega arith) ∙ sym (shr-shr row 4 (4 * r)))

-- it is the first, or it is in the rest
first_or_rest : (row rights c : ℕ) → Ahead row rights c → ((rights % 2 ≡ 1) × (row % 16 ≡ suc c)) ⊎ Ahead (row / 2 ^ 4) (rights / 2 ^ 1) c
first_or_rest row rights c p = go p.right p.on p.digit
  where
    go : (right : ℕ) → bit_at rights right ≡ 1 → digit_of row right ≡ suc c → ((rights % 2 ≡ 1) × (row % 16 ≡ suc c)) ⊎ Ahead (row / 2 ^ 4) (rights / 2 ^ 1) c
    go zero b d = inl (omega arith, omega arith)
    go (suc r) b d = inr (record { right = r; on = sym (bit_at-suc rights r) ∙ b; digit = sym (digit_up row r) ∙ d })

-- the digits passed are marked; rest and on are what is left of the row and of its marks
pub record Marking (m₀ : List ℕ) (row rights left : ℕ) (m : List ℕ) (rest on : ℕ) : Type 0 where
  pub long : length m ≡ 16
  pub keeps : (d i : ℕ) → bit_at (get_or m₀ d 0) i ≡ 1 → bit_at (get_or m d 0) i ≡ 1
  pub adds : (c : ℕ) → Ahead row rights c → (bit_at (get_or m (suc c) 0) left ≡ 1) ⊎ Ahead rest on c

module _ (m₀ : List ℕ) (row rights left : ℕ) where
  pub marking_none : length m₀ ≡ 16 → Marking m₀ row rights left m₀ row rights
  marking_none l = record { long = l; keeps = λ d i b. b; adds = λ c p. inr p }

  module _ (m : List ℕ) (rest on : ℕ) (p : Marking m₀ row rights left m rest on) where
    abbrev marked_at : ℕ → List ℕ
    marked_at d = set m d (with_mark (get_or m d 0) left)

    stays : (d : ℕ) → d < 16 → (e i : ℕ) → bit_at (get_or m e 0) i ≡ 1 → bit_at (get_or (marked_at d) e 0) i ≡ 1
    stays d l e i b = elim (cases_eq e d) [
      | inl same ↦ rw (same, get_or-set_same m d (with_mark (get_or m d 0) left) 0 (omega (arith, p.long))) (kept_mark (get_or m d 0) left i (rw same at b))
      | inr other ↦ rw (get_or-set_other m d e (with_mark (get_or m d 0) left) 0 other) b
    ]

    pub marking_more : left < 64 → (d : ℕ) → d ≡ rest % 16 → Marking m₀ row rights left (marked_at d) (rest / 2 ^ 4) (on / 2 ^ 1)
    marking_more h d e = record {
      long = length-set m d _ ∙ p.long;
      keeps = λ k i b. stays d (omega arith) k i (p.keeps k i b);
      adds = λ c a. elim (p.adds c a) [
        | inl b ↦ inl (stays d (omega arith) (suc c) left b)
        | inr q ↦ elim (first_or_rest rest on c q) [
          | inl f ↦ inl (rw (sym (e ∙ f.1), get_or-set_same m d (with_mark (get_or m d 0) left) 0 (omega (arith, p.long))) (put_mark (get_or m d 0) left h))
          | inr q' ↦ inr q'
        ]
      ];
    }

    pub marking_skip : ¬ (on % 2 ≡ 1) → Marking m₀ row rights left m (rest / 2 ^ 4) (on / 2 ^ 1)
    marking_skip d = record {
      long = p.long;
      keeps = p.keeps;
      adds = λ c a. elim (p.adds c a) [ inl b ↦ inl b | inr q ↦ elim (first_or_rest rest on c q) [ inl f ↦ absurd (d f.0) | inr q' ↦ inr q' ] ];
    }

  no_digit : (on c : ℕ) → ¬ Ahead 0 on c
  no_digit on c q = omega (arith, zero-div (2 ^ (4 * q.right)), q.digit)

  pub marking_all : (m : List ℕ) (on : ℕ) → Marking m₀ row rights left m 0 on → Marked m₀ row rights left m
  marking_all m on p = record {
    keeps = p.keeps;
    adds = λ right c b d. elim (p.adds c (record { right = right; on = b; digit = d })) [ inl e ↦ e | inr q ↦ absurd (no_digit on c q) ];
  }

-- left code after left code
module _ (table : List ℕ) (form lefts rights : ℕ) where
  pub marks_more : (n row : ℕ) (m r : List ℕ) → (bit_at lefts n ≡ 1 → row ≡ row_in table form n) → Marks table form lefts rights n m → Marked m row rights n r → Marks table form lefts rights (n + 1) r
  marks_more n row m r is p q =
      below_more (λ left. bit_at lefts left ≡ 1 → (right c : ℕ) → bit_at rights right ≡ 1 → digit_of (row_in table form left) right ≡ suc c → bit_at (get_or r (suc c) 0) left ≡ 1) n
      (λ left l a right c b d. q.keeps (suc c) left (p left l a right c b d))
      (λ a right c b d. q.adds right c b (rw (is a) d))

  pub marks_skip : (n : ℕ) (m : List ℕ) → ¬ (bit_at lefts n ≡ 1) → Marks table form lefts rights n m → Marks table form lefts rights (n + 1) m
  marks_skip n m off p =
      below_more (λ left. bit_at lefts left ≡ 1 → (right c : ℕ) → bit_at rights right ≡ 1 → digit_of (row_in table form left) right ≡ suc c → bit_at (get_or m (suc c) 0) left ≡ 1) n p (λ a. absurd (off a))

  -- a left code that has a part in a code is among those marked for it
  pub marks_among : (a b : Summary) (m : List ℕ) → Live a lefts → Live b rights → Marks table form lefts rights 15 m → (code : ℕ) → code < 15 → Among (cell_in3 table form) code a b (get_or m (suc code) 0)
  marks_among a b m live_a live_b p code small left right x y e i j = elim (cases_lt left 15) [
    | inl l ↦ p left l (live_a left x i) right code (live_b right y j) (omega (arith, cell_digit (row_in table form left) right code (ap (λ cells. cells right) (cells_of_row table form left) ∙ e) small))
    | inr l ↦ absurd (beyond a left l x i)
  ]
