-- What is answered to a text, from what is known of it: a text is a typed rule or is none, and as one it has one postfix list. What the readers make of a
-- typed rule is that list, since the grammar's parts are what the readings are.
use mathlib.Core.Path.{◌≡◌, refl, ◌∙◌}
use mathlib.Core.Bool.{cond}
use mathlib.Core.List.{List, []}
use Prim.Native.Nat.{ℕ, ◌≤◌, ◌<◌}
use native.Mathlib.Omega.{arith}
use lib.Dec.{leb}
use lib.ListN.{length, replicate}
use borrow.Author.Tests.{le-leb, lt-leb}
use Rattle.std.proofs.Common.{Some, None, Ok}
use Rattle.grammar.specs.Typed.{Typed, Decision, inside, outside, deepest}
use Rattle.grammar.specs.Readings.{implication}
use Rattle.grammar.proofs.Readings.{whole}
use Rattle.grammar.proofs.TypedRules.{typed_rules}
use Rattle.recognizer.specs.Count.{count_for, count_of}
use Rattle.formula.specs.Answer.{room, written, refusal, answer_for, answer_of, Becomes}
use Rattle.formula.specs.Readers.{Holds, Took}
use Rattle.formula.specs.declared.Refusal.TheVariants.{NotARule, TooLong}
use Rattle.formula.specs.declared.Reading.{Reading}
use Rattle.formula.specs.declared.Turned.{Turned}

-- the answer to a text
pub outside_14 : (text : List ℕ) → ((p : List ℕ) → Typed text p → ⊥) → answer_of text ≡ refusal NotARule
unfolding answer_of
outside_14 text h = go (typed_rules.decided text)
  where
    go : (d : Decision text) → answer_for d ≡ refusal NotARule
    go (inside p t) = absurd (h p t)
    go (outside k) = refl

some : (text p : List ℕ) → Typed text p → answer_of text ≡ cond (leb (length p) room) (written p) (refusal TooLong)
unfolding answer_of
some text p t = go (typed_rules.decided text)
  where
    go : (d : Decision text) → answer_for d ≡ cond (leb (length p) room) (written p) (refusal TooLong)
    go (inside q u) = rw (typed_rules.unambiguous text q p u t)
    go (outside k) = absurd (k p t)

pub fits : (text p : List ℕ) → Typed text p → length p ≤ room → answer_of text ≡ written p
fits text p t h = some text p t ∙ rw (le-leb (length p) room h)

pub too_long : (text p : List ℕ) → Typed text p → room < length p → answer_of text ≡ refusal TooLong
too_long text p t h = some text p t ∙ rw (lt-leb (length p) room h)

-- what the count says
pub becomes : (text : List ℕ) (n : ℕ) → count_of text ≡ Some n → Becomes text n
unfolding count_of
becomes text n = go (typed_rules.decided text)
  where
    go : (d : Decision text) → count_for d ≡ Some n → Becomes text n
    go (inside p t) e = record { postfix = p; typed = t; bytes = cc }
    go (outside k) e = absurd (let z : ◌≡◌ {A = ℕ} 0 1 = cc in omega arith)

pub is_outside : (text : List ℕ) → count_of text ≡ None → (p : List ℕ) → Typed text p → ⊥
unfolding count_of
is_outside text = go (typed_rules.decided text)
  where
    go : (d : Decision text) → count_for d ≡ None → (p : List ℕ) → Typed text p → ⊥
    go (inside q u) e p t = let z : ◌≡◌ {A = ℕ} 0 1 = cc in omega arith
    go (outside k) e p t = k p t

-- what the readers make of it
abbrev start : Reading
start = record { at = 0; len = 0; bytes = replicate room 0 }

nothing_yet : Holds start []
nothing_yet = record { counted = refl; written = refl }

abbrev turned : ℕ → List ℕ → Turned
turned n bytes = record { answer = Ok n; bytes = bytes }

pub read : {text : List ℕ} {n : ℕ} {r : Reading} → Becomes text n → n ≤ room → Took implication text deepest start r → turned n r.bytes ≡ answer_of text
read {text} b few took =
    let p = b.postfix in
    let t = b.typed in
    let e = b.bytes in
    let a = took.part t.tokens [] p t.spelled (whole t.part) in
    let h = a.holds [] nothing_yet (omega arith) in
    rw (fits text p t (omega arith), ← e, h.written)
