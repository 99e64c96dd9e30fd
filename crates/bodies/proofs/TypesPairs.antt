-- The tests of the types and of the undo pairs hold exactly where their statements do.
use mathlib.Core.Path.{◌≡◌, refl, sym}
use mathlib.Core.Bool.{Bool, true, false, not, true≢false, cond}
use mathlib.Core.List.{List}
use mathlib.Core.Logic.{◌↔◌}
use Prim.Native.Nat.{ℕ, ◌≤◌, ◌<◌}
use native.Mathlib.Omega.{arith}
use lib.Dec.{eqb}
use lib.ListN.{length, get_or}
use borrow.Author.Tests.{leb-true, le-leb, ltb-true, lt-ltb, eqb-true, eqb-false, ne_eqb}
use Rattle.blocks.specs.Bounded.{every, one}
use Rattle.blocks.proofs.Bounded.{both_true, every_at, every_all, total_some, one_holds}
use Rattle.bodies.specs.Types.{Types, is_type, types_ok}
use Rattle.bodies.specs.Pairs.{pair_count, first, second, pairs_of, Pairs, apart_ok, pair_ok, pairs_ok}

pub types_say : (b : List ℕ) → (types_ok b ≡ true) ↔ Types b
types_say b = (to, from)
  where
    to : types_ok b ≡ true → Types b
    to h i l =
        let (low, high) = both_true _ _ (every_at (λ i. is_type (get_or b i 0)) (length b) i h l) in
        (leb-true _ _ low, leb-true _ _ high)

    from : Types b → types_ok b ≡ true
    from h = every_all (λ i. is_type (get_or b i 0)) (length b) (λ i l. simp (le-leb _ _ (h i l).0, le-leb _ _ (h i l).1))

-- pair i beside pair j
apart_says : (i fi si j fj sj : ℕ) → (apart_ok i fi si j fj sj ≡ true) ↔ ((fi ≡ sj → ⊥) × (fi ≡ fj → si ≡ sj → i ≡ j))
apart_says i fi si j fj sj = (to (eqb fi sj) (eqb i j) (eqb fi fj) (eqb si sj) refl refl refl refl, from)
  where
    to : (a b c d : Bool) → eqb fi sj ≡ a → eqb i j ≡ b → eqb fi fj ≡ c → eqb si sj ≡ d → cond a false (cond b true (cond c (not d) true)) ≡ true
        → (fi ≡ sj → ⊥) × (fi ≡ fj → si ≡ sj → i ≡ j)
    to true b c d ea eb ec ed h = absurd (true≢false (sym h))
    to false true c d ea eb ec ed h = (eqb-false fi sj ea, λ _ _. eqb-true i j eb)
    to false false true true ea eb ec ed h = absurd (true≢false (sym h))
    to false false true false ea eb ec ed h = (eqb-false fi sj ea, λ _ e. absurd (eqb-false si sj ed e))
    to false false false d ea eb ec ed h = (eqb-false fi sj ea, λ e _. absurd (eqb-false fi fj ec e))

    same : (b c : Bool) → eqb i j ≡ b → eqb fi fj ≡ c → (fi ≡ fj → si ≡ sj → i ≡ j) → cond b true (cond c (not (eqb si sj)) true) ≡ true
    same true c eb ec h = refl
    same false true eb ec h = rw (ne_eqb si sj (λ z. eqb-false i j eb (h (eqb-true fi fj ec) z)))
    same false false eb ec h = refl

    from : (fi ≡ sj → ⊥) × (fi ≡ fj → si ≡ sj → i ≡ j) → apart_ok i fi si j fj sj ≡ true
    from h = rw (ne_eqb fi sj h.0) (same (eqb i j) (eqb fi fj) refl refl h.1)

module _ (actions : ℕ) (b : List ℕ) where
  beside : ℕ → ℕ → Bool
  beside i j = apart_ok i (first b i) (second b i) j (first b j) (second b j)

  -- an action that is first in no pair is first in few
  few_of_all : ((i : ℕ) → i < pair_count b → pairs_of b (first b i) ≤ 3) → (a : ℕ) → pairs_of b a ≤ 3
  few_of_all h a = go (eqb (pairs_of b a) 0) refl
    where
      go : (t : Bool) → eqb (pairs_of b a) 0 ≡ t → pairs_of b a ≤ 3
      go true e = let k = eqb-true (pairs_of b a) 0 e in omega arith
      go false e =
          let k = eqb-false (pairs_of b a) 0 e in
          let (i, l, m) = total_some (λ i. one (eqb (first b i) a)) (pair_count b) (omega arith) in
          rw (eqb-true (first b i) a (one_holds (eqb (first b i) a) m)) at (h i l)

  pub pairs_say : (pairs_ok actions b ≡ true) ↔ Pairs actions b
  unfolding beside
  pairs_say = (to, from)
    where
      -- the four tests of pair i
      parts : pairs_ok actions b ≡ true → (i : ℕ) → i < pair_count b
          → (first b i < actions) × (second b i < actions) × (pairs_of b (first b i) ≤ 3) × (every (pair_count b) (beside i) ≡ true)
      parts h i l =
          let (one, rest) = both_true _ _ (every_at (λ i. pair_ok actions b i) (pair_count b) i h l) in
          let (two, more) = both_true _ _ rest in
          let (three, all) = both_true _ _ more in
          (ltb-true _ _ one, ltb-true _ _ two, leb-true _ _ three, all)

      pair : pairs_ok actions b ≡ true → (i j : ℕ) → i < pair_count b → j < pair_count b
          → (first b i ≡ second b j → ⊥) × (first b i ≡ first b j → second b i ≡ second b j → i ≡ j)
      pair h i j k l =
          (apart_says i (first b i) (second b i) j (first b j) (second b j)).0 (every_at (beside i) (pair_count b) j (parts h i k).3 l)

      to : pairs_ok actions b ≡ true → Pairs actions b
      to h = record {
        numbers = λ i l. ((parts h i l).0, (parts h i l).1);
        few = few_of_all (λ i l. (parts h i l).2);
        different = λ i j k l. (pair h i j k l).1;
        apart = λ i j k l. (pair h i j k l).0;
      }

      from : Pairs actions b → pairs_ok actions b ≡ true
      from p = every_all (λ i. pair_ok actions b i) (pair_count b) (λ i l.
          let all : every (pair_count b) (beside i) ≡ true = every_all (beside i) (pair_count b) (λ j k. (apart_says i (first b i) (second b i) j (first b j) (second b j)).1 (p.apart i j l k, p.different i j l k)) in
          simp (lt-ltb _ _ (p.numbers i l).0, lt-ltb _ _ (p.numbers i l).1, le-leb _ _ (p.few (first b i)), all))
