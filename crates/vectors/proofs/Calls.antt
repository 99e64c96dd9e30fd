-- Laws of a call on a class, for a vector of it: its outcome is the one that is computed, since there is one alone; and what a body comes to is what its
-- call is found to answer, and to leave in the area that is lent.
use mathlib.Core.Path.{◌≡◌, refl, sym, ap, ap₂, ◌∙◌}
use mathlib.Core.List.{List, ◌∷◌}
use Prim.Native.Nat.{ℕ, zero, suc, ◌+◌, ◌≤◌}
use native.Mathlib.Omega.{arith}
use lib.ListN.{length, take, replicate}
use borrow.Author.Tests.{le-ltb}
use Rattle.judge.specs.Verdict.{work_size}
use Rattle.class.specs.Outcome as class
use Rattle.class.specs.Computed.{call_of, answer_of, work_of, area_of}
use Rattle.fields.specs.Number.{four_at}
use Rattle.vectors.specs.Outcome.{answer_held}
use Rattle.vectors.specs.Classes.{most_lent, area_lent, call_in, held_in, classes_outcome}
use Rattle.vectors.specs.declared.outcome.Outcome.{Outcome}
use Rattle.class.proofs.Outcomes.{one_outcome, some_outcome}

pub as_computed : (s work work' old new : List ℕ) (a : class.Answer) → class.Outcome s work work' old new a
    → class.Same a (answer_of (call_of s (length work) (length old))) work' (work_of (call_of s (length work) (length old)) work) new (area_of (call_of s (length work) (length old)) old)
as_computed s work work' old new a h = one_outcome s work work' _ old new _ a _ h (some_outcome s work old)

-- what is held is what was found
pub held_as : (body : List ℕ) (n work : ℕ) (old shown : List ℕ) (expected found : ℕ) (r : Outcome) → r ≡ answer_held expected found (length shown) shown body 7 → expected ≡ four_at body 0
    → found ≡ class.code_of (answer_of (call_in body n work)) → shown ≡ area_of (call_in body n work) old → length shown ≡ n → r ≡ held_in body n work old
held_as body n work old shown expected found r h e f s l = h ∙ rw (l, e, f, s)

-- the beginning of an area that is full of one byte
pub take_full : (n m x : ℕ) → n ≤ m → take n (replicate m x) ≡ replicate n x
take_full zero m x h = refl
take_full (suc n) zero x h = absurd (omega arith)
take_full (suc n) (suc m) x h = ap (λ (r : List ℕ). x ∷ r) (take_full n m x (omega arith))

-- a body that is whole, in areas of which one is full of the byte
pub whole_body : (body : List ℕ) (n m w : ℕ) (r : Outcome) → r ≡ held_in body n w (take n (replicate m 170)) → n ≤ m → m ≡ most_lent → w ≡ work_size → n ≡ area_lent body → 7 + n ≤ length body → r ≡ classes_outcome body
whole_body body n m w r h most e k l long =
    h
    ∙ ap₂ (λ (x : ℕ) (old : List ℕ). held_in body n x old) k (take_full n m 170 most)
    ∙ sym (rw (← l, le-ltb most_lent n (omega arith), le-ltb (length body) (7 + n) long))
