-- What the tests of a vector's place say, and how the comparison goes on from one vector to the next.
use mathlib.Core.Path.{◌≡◌, refl, sym, ap, ◌∙◌}
use mathlib.Core.Bool.{Bool, true, false, cond, true≢false}
use mathlib.Core.List.{List}
use Prim.Native.Nat.{ℕ, suc, ◌+◌, ◌-◌, ◌≤◌, ◌<◌}
use native.Mathlib.Omega.{arith}
use lib.Dec.{leb, eqb}
use lib.ListN.{length, take, drop}
use borrow.Author.Tests.{leb-true}
use Rattle.std.proofs.lemmas.Option.{some_pair_parts}
use Rattle.std.specs.Prelude.{Option, Some, None}
use Rattle.fields.specs.Number.{four_at}
use Rattle.vectors.specs.Groups.{outcome_in}
use Rattle.vectors.specs.declared.Group.{Group}
use Rattle.vectors.specs.declared.outcome.Outcome.{Outcome}
use Rattle.vectors.specs.declared.outcome.Outcome.TheVariants.{Agrees, Differs, Damaged}
use Rattle.comparison.specs.Data.{name_length, body_start, body_length, vector_end, is_named, is_whole, start_at, body_at, outcome_at, damaged, counted, after, fresh, compared_from, compared_of}
use Rattle.comparison.specs.declared.Comparison.{Comparison}

both : (x y : Bool) → cond x y false ≡ true → (x ≡ true) × (y ≡ true)
both true y h = (refl, h)
both false y h = absurd (true≢false (sym h))

pub named_says : (s : List ℕ) (at : ℕ) → is_named s at ≡ true → (name_length s at ≤ 64) × (body_start s at ≤ length s)
unfolding is_named
named_says s at h = let (x, y) = both _ _ h in (leb-true _ _ x, leb-true _ _ y)

-- where the body of a vector starts, whose name is there
pub started : (s : List ℕ) (at start : ℕ) → start_at s at ≡ Some start → (is_named s at ≡ true) × (start ≡ body_start s at)
started s at start = go (is_named s at) refl
  where
    go : (b : Bool) → is_named s at ≡ b → cond b (Some (body_start s at)) None ≡ Some start → (is_named s at ≡ true) × (start ≡ body_start s at)
    go true h e = (h, cc)
    go false h e = cc

pub not_started : (s : List ℕ) (at : ℕ) → start_at s at ≡ None → is_named s at ≡ false
not_started s at = go (is_named s at) refl
  where
    go : (b : Bool) → is_named s at ≡ b → cond b (Some (body_start s at)) None ≡ None → is_named s at ≡ false
    go true h e = cc
    go false h e = h

-- and where it lies, where it is there too
pub lies : (s : List ℕ) (at start end : ℕ) → body_at s at ≡ Some (start, end) → (is_whole s at ≡ true) × (start ≡ body_start s at) × (end ≡ vector_end s at)
lies s at start end = go (is_whole s at) refl
  where
    go : (b : Bool) → is_whole s at ≡ b → ◌≡◌ {A = Option (ℕ × ℕ)} (cond b (Some (body_start s at, vector_end s at)) None) (Some (start, end)) → (is_whole s at ≡ true) × (start ≡ body_start s at) × (end ≡ vector_end s at)
    go true h e = let (x, y) = some_pair_parts _ _ _ _ e in (h, sym x, sym y)
    go false h e = cc

pub lies_not : (s : List ℕ) (at : ℕ) → body_at s at ≡ None → is_whole s at ≡ false
lies_not s at = go (is_whole s at) refl
  where
    go : (b : Bool) → is_whole s at ≡ b → ◌≡◌ {A = Option (ℕ × ℕ)} (cond b (Some (body_start s at, vector_end s at)) None) None → is_whole s at ≡ false
    go true h e = cc
    go false h e = h

pub whole_says : (s : List ℕ) (at : ℕ) → is_whole s at ≡ true → (is_named s at ≡ true) × (vector_end s at ≤ length s)
unfolding is_whole
whole_says s at h = let (x, y) = both _ _ h in (x, leb-true _ _ y)

-- the part from a start on, by the number of its bytes
pub part_is : (s : List ℕ) (start end from n : ℕ) → start ≡ from → end ≡ from + n → take (end - start) (drop start s) ≡ take n (drop from s)
part_is s start end from n e f =
    let long : end - start ≡ n = omega arith in
    rw (long, e)

-- what a vector comes to, by where its body lies
pub outcome_there : (group : Group) (s : List ℕ) (at start end : ℕ) → is_whole s at ≡ true → start ≡ body_start s at → end ≡ vector_end s at → outcome_in group (take (end - start) (drop start s)) ≡ outcome_at group s at
unfolding outcome_at
outcome_there group s at start end h e f = rw h (ap (outcome_in group) (part_is s start end (body_start s at) (body_length s at) e f))

pub damaged_there : (group : Group) (s : List ℕ) (at : ℕ) (c : Comparison) → is_whole s at ≡ false → after group s at c ≡ damaged c
unfolding outcome_at
damaged_there group s at c h = rw h

-- the counts after one vector more
pub record Grows (c d : Comparison) : Type 0 where
  pub agree : d.agree ≤ d.vectors
  pub most : d.vectors ≤ c.vectors + 1

pub grows : (c : Comparison) (at : ℕ) (o : Outcome) → c.agree ≤ c.vectors → Grows c (counted c at o)
grows c at Agrees h = record { agree = omega arith; most = omega arith }
grows c at (Differs e f) h = record { agree = omega arith; most = omega arith }
grows c at Damaged h = record { agree = omega arith; most = omega arith }

one_more : (left : ℕ) → 0 < left → left ≡ suc (left - 1)
one_more left h = omega arith

module _ (group : Group) (s : List ℕ) (at : ℕ) (c : Comparison) where
  pub goes_on : (left : ℕ) → 0 < left → (after group s at c).whole ≡ true → compared_from left group s at c ≡ compared_from (left - 1) group s (vector_end s at) (after group s at c)
  unfolding compared_from
  goes_on left h w = ap (λ (k : ℕ). compared_from k group s at c) (one_more left h) ∙ rw w

  pub stops : (left : ℕ) → 0 < left → (after group s at c).whole ≡ false → compared_from left group s at c ≡ after group s at c
  unfolding compared_from
  stops left h w = ap (λ (k : ℕ). compared_from k group s at c) (one_more left h) ∙ rw w

  -- after the last nothing may come
  abbrev ended : Bool → Comparison
  ended whole = record { vectors = c.vectors; agree = c.agree; whole = whole; first = c.first }

  pub ends : (left : ℕ) → left ≤ 0 → c.whole ≡ true → compared_from left group s at c ≡ record { vectors = c.vectors; agree = c.agree; whole = eqb at (length s); first = c.first }
  unfolding compared_from
  ends left h w = let none : left ≡ 0 = omega arith in rw none (go (eqb at (length s)))
    where
      go : (b : Bool) → cond b c (damaged c) ≡ ended b
      go true = ap ended w
      go false = refl

-- the vectors of a file with fewer than four bytes, and of any other
pub too_short : (group : Group) (s : List ℕ) → leb 4 (length s) ≡ false → damaged fresh ≡ compared_of group s
unfolding compared_of
too_short group s h = rw h

pub all_compared : (group : Group) (s : List ℕ) (n : ℕ) (r : Comparison) → leb 4 (length s) ≡ true → n ≡ four_at s 0 → compared_from n group s 4 fresh ≡ r → r ≡ compared_of group s
unfolding compared_of
all_compared group s n r h f q = rw h (sym q ∙ ap (λ (k : ℕ). compared_from k group s 4 fresh) f)
