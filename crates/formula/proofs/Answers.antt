-- The promises on what is answered to a text. The answer is one of three (`answered`), and each is another; what a text gets is told in Turning.
use mathlib.Core.Path.{◌≡◌, refl, ap, subst, ◌∙◌}
use mathlib.Core.Bool.{Bool, true, false, cond}
use mathlib.Core.List.{List}
use mathlib.Core.Option.{some, some-injective, none-ne-some}
use Prim.Native.Nat.{ℕ, ◌-◌, ◌≤◌, ◌<◌}
use native.Mathlib.Omega.{arith}
use lib.Dec.{leb}
use lib.ListN.{length, take, drop, replicate}
use lib.Seq.{take_at, drop_at}
use borrow.Author.Tests.{leb-true, leb-false}
use Rattle.grammar.specs.Typed.{Typed, Decision, inside, outside}
use Rattle.grammar.proofs.TypedRules.{typed_rules}
use Rattle.formula.specs.Numbers.{number, number_of, length_of}
use Rattle.formula.specs.Answer.{room, written, refusal, answer_for, answer_of, TooLong, HandsBack, Answers}
use Rattle.formula.specs.declared.Refusal.{Refusal}
use Rattle.formula.specs.declared.Refusal.TheVariants as why
use Rattle.formula.specs.declared.Turned.{Turned}
use Rattle.formula.proofs.Turning.{outside_14, fits, too_long}

data Answered (text : List ℕ) : Turned → Type 0 where
  none_typed : ((p : List ℕ) → Typed text p → ⊥) → Answered text (refusal why.NotARule)
  long : (p : List ℕ) → Typed text p → room < length p → Answered text (refusal why.TooLong)
  short : (p : List ℕ) → Typed text p → length p ≤ room → Answered text (written p)

answered : (text : List ℕ) → Answered text (answer_of text)
unfolding answer_of
answered text = go (typed_rules.decided text)
  where
    sized : (p : List ℕ) → Typed text p → (b : Bool) → leb (length p) room ≡ b → Answered text (cond b (written p) (refusal why.TooLong))
    sized p t true e = short p t (leb-true _ _ e)
    sized p t false e = long p t (leb-false _ _ e)

    go : (d : Decision text) → Answered text (answer_for d)
    go (inside p t) = sized p t (leb (length p) room) refl
    go (outside h) = none_typed h

-- what each answer says of the text
module _ {text : List ℕ} where
  none_of : {q : Turned} → Answered text q → number_of q.answer ≡ some 14 → (p : List ℕ) → Typed text p → ⊥
  none_of (none_typed h) e = h
  none_of (long p t h) e = absurd (omega (arith, some-injective 15 14 e))
  none_of (short p t h) e = absurd (none-ne-some 14 e)

  too_long_of : {q : Turned} → Answered text q → number_of q.answer ≡ some 15 → TooLong text
  too_long_of (none_typed h) e = absurd (omega (arith, some-injective 14 15 e))
  too_long_of (long p t h) e = record { postfix = p; typed = t; long = h }
  too_long_of (short p t h) e = absurd (none-ne-some 15 e)

  typed_of : {q : Turned} (n : ℕ) → Answered text q → length_of q.answer ≡ some n → Typed text (take n q.bytes)
  typed_of n (none_typed h) e = absurd (none-ne-some n e)
  typed_of n (long p t h) e = absurd (none-ne-some n e)
  typed_of n (short p t h) e = rw (take_at p (replicate (room - length p) 0) n (some-injective (length p) n e)) t

  -- the bytes behind the length, and all after a refusal
  zeros_of : {q : Turned} (n : ℕ) → Answered text q → length_of q.answer ≡ some n → drop n q.bytes ≡ replicate (127 - n) 0
  zeros_of n (none_typed h) e = absurd (none-ne-some n e)
  zeros_of n (long p t h) e = absurd (none-ne-some n e)
  zeros_of n (short p t h) e =
      let l = some-injective (length p) n e in
      drop_at p (replicate (room - length p) 0) n l ∙ ap (λ (m : ℕ). replicate (room - m) 0) l

  refused_of : {q : Turned} (n : ℕ) → Answered text q → number_of q.answer ≡ some n → q.bytes ≡ replicate 127 0
  refused_of n (none_typed h) e = refl
  refused_of n (long p t h) e = refl
  refused_of n (short p t h) e = absurd (none-ne-some n e)

hands_back : (p : List ℕ) (q : Turned) → q ≡ written p → HandsBack p q
hands_back p q e = record { long = ap (λ (x : Turned). length_of x.answer) e; bytes = ap (λ (x : Turned). x.bytes) e }

number_by : (f : Refusal) (q : Turned) → q ≡ refusal f → number_of q.answer ≡ some (number f)
number_by f q e = ap (λ (x : Turned). number_of x.answer) e

pub answers : Answers
answers = record {
  postfix = λ text p h. (handed_typed text p, λ t. hands_back p (answer_of text) (fits text p t h));
  fourteen = λ text. (none_of (answered text), λ h. number_by why.NotARule (answer_of text) (outside_14 text h));
  fifteen = λ text. (too_long_of (answered text), λ l. number_by why.TooLong (answer_of text) (too_long text l.postfix l.typed l.long));
  zeros = λ text n e. zeros_of n (answered text) e;
  refused_zeros = λ text n e. refused_of n (answered text) e;
  a_rule = λ text n e. typed_rules.a_rule text _ (typed_of n (answered text) e);
}
  where
    handed_typed : (text p : List ℕ) → HandsBack p (answer_of text) → Typed text p
    handed_typed text p b =
        let t = typed_of (length p) (answered text) b.long in
        let f = ap (take (length p)) b.bytes ∙ take_at p (replicate (room - length p) 0) (length p) refl in
        subst (λ (r : List ℕ). Typed text r) f t
