-- A vector agrees exactly where what it expects is what the product gives: the bytes that are alike are counted up to the first that is not.
use mathlib.Core.Path.{◌≡◌, refl, sym}
use mathlib.Core.Bool.{true, false, cond}
use mathlib.Core.List.{List}
use mathlib.Core.Logic.{◌⊎◌, inl, inr}
use Prim.Native.Nat.{ℕ, zero, suc, ◌+◌, ◌≤◌, ◌<◌}
use native.Mathlib.Omega.{arith}
use lib.Dec.{ltb, eqb}
use lib.ListN.{length, get_or}
use borrow.Author.Tests.{eq-eqb, ne_eqb, le-ltb, ltb-true, ltb-false, eqb-true, eqb-false}
use Rattle.blocks.proofs.Bounded.{decide}
use Rattle.fields.specs.Number.{four_at}
use Rattle.vectors.specs.Outcome.{held_against, alike, answer_held}
use Rattle.vectors.specs.Files.{files_outcome}
use Rattle.vectors.specs.Classes.{most_lent, area_lent, classes_outcome}
use Rattle.vectors.specs.Agrees.{FileAgreed, Agreed, ClassAgreed, AgreesAlone}
use Rattle.vectors.specs.declared.outcome.Outcome.{Outcome}
use Rattle.vectors.specs.declared.outcome.Outcome.TheVariants.{Agrees, Damaged}

module _ (shown body : List ℕ) (at : ℕ) where
  -- m bytes from i on are alike
  abbrev Alike : ℕ → ℕ → Type 0
  Alike m i = (j : ℕ) → i ≤ j → j < i + m → get_or shown j 0 ≡ get_or body (at + j) 0

  counts_all : (m i : ℕ) → Alike m i → alike m i shown body at ≡ i + m
  unfolding alike
  counts_all zero i h = omega arith
  counts_all (suc m) i h = let e = counts_all m (suc i) (λ j k l. h j (omega arith) (omega arith)) in rw (eq-eqb _ _ (h i (omega arith) (omega arith))) (omega arith)

  all_counted : (m i : ℕ) → alike m i shown body at ≡ i + m → Alike m i
  unfolding alike
  all_counted zero i e = λ j k l. absurd (omega arith)
  all_counted (suc m) i e = go (decide (eqb (get_or shown i 0) (get_or body (at + i) 0))) (λ f. all_counted m (suc i) f)
    where
      first : (j : ℕ) → i ≤ j → (i < j → get_or shown j 0 ≡ get_or body (at + j) 0) → get_or shown i 0 ≡ get_or body (at + i) 0 → get_or shown j 0 ≡ get_or body (at + j) 0
      first j k later now = here (decide (ltb i j))
        where
          here : (ltb i j ≡ true) ⊎ (ltb i j ≡ false) → get_or shown j 0 ≡ get_or body (at + j) 0
          here (inl h) = later (ltb-true i j h)
          here (inr h) = let same : i ≡ j = omega (arith, ltb-false i j h) in rw (sym same) now

      go : (eqb (get_or shown i 0) (get_or body (at + i) 0) ≡ true) ⊎ (eqb (get_or shown i 0) (get_or body (at + i) 0) ≡ false) → (alike m (suc i) shown body at ≡ suc i + m → Alike m (suc i)) → Alike (suc m) i
      go (inl h) more j k l = first j k (λ n. more (let f = rw h at e in omega arith) j (omega arith) (omega arith)) (eqb-true _ _ h)
      go (inr h) more j k l = absurd (let f = rw h at e in omega arith)

-- a number is held against another
held_alone : (e f : ℕ) → held_against e f ≡ Agrees → e ≡ f
held_alone e f = go (decide (eqb e f))
  where
    go : (eqb e f ≡ true) ⊎ (eqb e f ≡ false) → held_against e f ≡ Agrees → e ≡ f
    go (inl h) k = eqb-true e f h
    go (inr h) k = absurd (let l = rw h at k in let z : ◌≡◌ {A = ℕ} 0 1 = cc in omega arith)

held_same : (e f : ℕ) → e ≡ f → held_against e f ≡ Agrees
held_same e f h = rw (eq-eqb e f h)

-- of a body that has so many bytes at least
module _ (size found n : ℕ) (shown : List ℕ) (at : ℕ) (body : List ℕ) where
  abbrev outcome : Outcome
  outcome = cond (ltb (length body) size) Damaged (answer_held (four_at body 0) found n shown body at)

  record Same : Type 0 where
    whole : size ≤ length body
    number : four_at body 0 ≡ found
    bytes : (i : ℕ) → i < n → get_or shown i 0 ≡ get_or body (at + i) 0

  same : outcome ≡ Agrees → Same
  same = go (decide (ltb (length body) size)) (decide (eqb (four_at body 0) found))
    where
      go : (ltb (length body) size ≡ true) ⊎ (ltb (length body) size ≡ false) → (eqb (four_at body 0) found ≡ true) ⊎ (eqb (four_at body 0) found ≡ false) → outcome ≡ Agrees → Same
      go (inl h) m k = absurd (let l = rw h at k in let z : ◌≡◌ {A = ℕ} 0 1 = cc in omega arith)
      go (inr h) (inr m) k = absurd (let l = rw (h, m) at k in let z : ◌≡◌ {A = ℕ} 0 1 = cc in omega arith)
      go (inr h) (inl m) k =
          let e = held_alone n (alike n 0 shown body at) (rw (h, m) at k) in
          record {
            whole = ltb-false (length body) size h;
            number = eqb-true (four_at body 0) found m;
            bytes = λ i l. all_counted shown body at n 0 (omega arith) i (omega arith) (omega arith);
          }

  same_agrees : Same → outcome ≡ Agrees
  same_agrees a =
      let e : alike n 0 shown body at ≡ 0 + n = counts_all shown body at n 0 (λ j k l. a.bytes j (omega arith)) in
      rw (le-ltb (length body) size a.whole, eq-eqb _ _ a.number) (held_same n (alike n 0 shown body at) (omega arith))

module _ (found n : ℕ) (shown : List ℕ) (at : ℕ) (body : List ℕ) where
  agreed : outcome 131 found n shown at body ≡ Agrees → Agreed found n shown at body
  agreed k = let a = same 131 found n shown at body k in record { whole = a.whole; number = a.number; bytes = a.bytes }

  agrees : Agreed found n shown at body → outcome 131 found n shown at body ≡ Agrees
  agrees a = same_agrees 131 found n shown at body (record { whole = a.whole; number = a.number; bytes = a.bytes })

positive : (n : ℕ) → (n ≡ 0 → ⊥) → 1 ≤ n
positive zero h = absurd (h refl)
positive (suc n) h = omega arith

file_agreed : (body : List ℕ) → files_outcome body ≡ Agrees → FileAgreed body
file_agreed body = go (decide (eqb (length body) 0))
  where
    go : (eqb (length body) 0 ≡ true) ⊎ (eqb (length body) 0 ≡ false) → files_outcome body ≡ Agrees → FileAgreed body
    go (inl h) k = absurd (let l = rw h at k in let z : ◌≡◌ {A = ℕ} 0 1 = cc in omega arith)
    go (inr h) k = record { some = positive (length body) (eqb-false (length body) 0 h); number = held_alone _ _ (rw h at k) }

file_agrees : (body : List ℕ) → FileAgreed body → files_outcome body ≡ Agrees
file_agrees body a = rw (ne_eqb (length body) 0 (λ e. omega (arith, a.some, e))) (held_same _ _ a.number)

class_agreed : (body : List ℕ) → classes_outcome body ≡ Agrees → ClassAgreed body
class_agreed body = go (decide (ltb most_lent (area_lent body)))
  where
    go : (ltb most_lent (area_lent body) ≡ true) ⊎ (ltb most_lent (area_lent body) ≡ false) → classes_outcome body ≡ Agrees → ClassAgreed body
    go (inl h) k = absurd (let l = rw h at k in let z : ◌≡◌ {A = ℕ} 0 1 = cc in omega arith)
    go (inr h) k = let a = same (7 + area_lent body) _ _ _ 7 body (rw h at k) in record { short = ltb-false most_lent (area_lent body) h; whole = a.whole; number = a.number; bytes = a.bytes }

class_agrees : (body : List ℕ) → ClassAgreed body → classes_outcome body ≡ Agrees
class_agrees body a = rw (le-ltb most_lent (area_lent body) a.short) (same_agrees (7 + area_lent body) _ _ _ 7 body (record { whole = a.whole; number = a.number; bytes = a.bytes }))

pub agrees_alone : AgreesAlone
agrees_alone = record {
  files = λ body. (file_agreed body, file_agrees body);
  verdicts = λ body. (agreed _ _ _ _ body, agrees _ _ _ _ body);
  formulas = λ body. (agreed _ _ _ _ body, agrees _ _ _ _ body);
  classes = λ body. (class_agreed body, class_agrees body);
}
