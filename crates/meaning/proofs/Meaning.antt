-- The stack evaluation of a rule is the meaning of its one part: the bytes of a part put its meaning on the stack, where there is room
-- for it. A stack of d values has room for a part of n bytes where 2 d + n is at most 127.
use mathlib.Core.Path.{◌≡◌, refl, sym, ap, ◌∙◌}
use mathlib.Core.Bool.{Bool, true, false, not, ◌&&◌, ◌||◌, not-not}
use mathlib.Core.List.{List, [], ◌∷◌, ◌++◌, append_assoc, append-nil}
use Prim.Native.Nat.{ℕ, ◌+◌, ◌*◌, ◌≤◌, ◌<◌}
use native.Mathlib.Omega.{arith}
use lib.ListN.{length, length-append}
use lib.Seq.{take_all}
use borrow.Author.Tests.{ne_eqb}
use Rattle.bodies.specs.Pairs.{pair_count}
use Rattle.bodies.specs.Rule as rule
use Rattle.bodies.specs.Rule.{Rule}
use Rattle.meaning.specs.declared.Value.{Value}
use Rattle.meaning.specs.Literal.{literal}
use Rattle.meaning.specs.Meaning.{swapped, both, either, meaning}
use Rattle.meaning.specs.Value.{places, push, step, values}
use Rattle.meaning.proofs.Literal.{without_undo}

-- a part has a byte
a_byte : {actions : ℕ} {part : List ℕ} → Rule actions part → 1 ≤ length part
a_byte (rule.action h) = omega arith
a_byte (rule.not {p} r) = simp length-append (omega arith)
a_byte (rule.and {p} {q} r s) = simp length-append (omega arith)
a_byte (rule.or {p} {q} r s) = simp length-append (omega arith)

-- De Morgan, for a part whose negative value is the opposite of its positive one
not_and : (a b : Bool) → (not a || not b) ≡ not (a && b)
not_and true b = refl
not_and false b = refl

not_or : (a b : Bool) → (not a && not b) ≡ not (a || b)
not_or true b = refl
not_or false b = refl

module _ (pairs : List ℕ) (set : ℕ) where
  -- the bytes p put v on the stack, where there is room
  Puts : List ℕ → Value → Type 0
  Puts p v =
      (stack : List Value) (rest : List ℕ) → 2 * length stack + length p ≤ 127
      → values pairs set stack (p ++ rest) ≡ values pairs set (v ∷ stack) rest

  -- a byte that pushes v
  pushes : (t : ℕ) (v : Value) (stack before : List Value) (rest : List ℕ) → step pairs set t before ≡ push v stack → length stack < places
      → values pairs set before (t ∷ rest) ≡ values pairs set (v ∷ stack) rest
  unfolding values
  pushes t v stack before rest e room = ap (λ (s : List Value). values pairs set s rest) (e ∙ take_all places (v ∷ stack) room)

  puts_literal : (a : ℕ) → a < 128 → Puts (a ∷ []) (literal pairs set a)
  unfolding Puts
  puts_literal a h stack rest room =
      pushes a (literal pairs set a) stack stack rest
      (simp (ne_eqb a 0x80 (λ e. omega arith), ne_eqb a 0x81 (λ e. omega arith), ne_eqb a 0x82 (λ e. omega arith))) (omega arith)

  puts_swapped : (p : List ℕ) (v : Value) → Puts p v → Puts (p ++ (0x80 ∷ [])) (swapped v)
  unfolding Puts
  puts_swapped p v r stack rest room =
      let size = simp length-append at room in
      rw (append_assoc p (0x80 ∷ []) rest)
      (r stack (0x80 ∷ rest) (omega arith) ∙ pushes 0x80 (swapped v) stack (v ∷ stack) rest refl (omega arith))

  -- a byte that takes two values
  puts_joined : (t : ℕ) (join : Value → Value → Value)
      → ((v w : Value) (stack : List Value) → step pairs set t (w ∷ v ∷ stack) ≡ push (join v w) stack)
      → (p q : List ℕ) (v w : Value) → 1 ≤ length p → Puts p v → Puts q w → Puts (p ++ (q ++ (t ∷ []))) (join v w)
  unfolding Puts
  puts_joined t join e p q v w some r s stack rest room =
      let size = simp length-append at room in
      rw (append_assoc p (q ++ (t ∷ [])) rest, append_assoc q (t ∷ []) rest)
      (r stack (q ++ (t ∷ rest)) (omega arith)
      ∙ s (v ∷ stack) (t ∷ rest) (omega arith)
      ∙ pushes t (join v w) stack (w ∷ v ∷ stack) rest (e v w stack) (omega arith))

  puts : {actions : ℕ} {part : List ℕ} (r : Rule actions part) → actions ≤ 128 → Puts part (meaning pairs set r)
  unfolding meaning
  puts (rule.action {a} h) few = puts_literal a (omega arith)
  puts (rule.not {p} r) few = puts_swapped p _ (puts r few)
  puts (rule.and {p} {q} r s) few = puts_joined 0x81 both (λ v w stack. refl) p q _ _ (a_byte r) (puts r few) (puts s few)
  puts (rule.or {p} {q} r s) few = puts_joined 0x82 either (λ v w stack. refl) p q _ _ (a_byte r) (puts r few) (puts s few)

  pub one_part : {actions : ℕ} {part : List ℕ} (r : Rule actions part) → actions ≤ 128 → length part ≤ 127
      → values pairs set [] part ≡ meaning pairs set r ∷ []
  unfolding Puts values
  one_part {part} r few short = rw (append-nil part) at (puts r few [] [] (omega arith))

  -- without pairs the negative value is the opposite of the positive one
  pub opposite : {actions : ℕ} {part : List ℕ} (r : Rule actions part) → pair_count pairs ≡ 0
      → (meaning pairs set r).negative ≡ not (meaning pairs set r).positive
  unfolding meaning
  opposite (rule.action {a} h) none =
      let e = without_undo pairs set a (λ i l same. omega arith) in
      ap (λ (v : Value). v.negative) e ∙ sym (ap (λ (v : Value). not v.positive) e)
  opposite (rule.not r) none = rw (opposite r none) (sym (not-not _))
  opposite (rule.and r s) none = rw (opposite r none, opposite s none) (not_and (meaning pairs set r).positive (meaning pairs set s).positive)
  opposite (rule.or r s) none = rw (opposite r none, opposite s none) (not_or (meaning pairs set r).positive (meaning pairs set s).positive)
