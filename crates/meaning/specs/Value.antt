-- The value of a rule from its bytes, for any list of bytes: a stack of values, the last one first, to which each byte does its part.
-- A rule of at most 127 bytes never needs more than its 64 places.
use Rattle.std.specs.Prelude.{Bool, false, cond, List, [], ◌∷◌, ℕ, eqb, take}
use Rattle.meaning.specs.declared.Value.{Value}
use Rattle.meaning.specs.Literal.{literal}
use Rattle.meaning.specs.Meaning.{swapped, both, either}

-- how many values the stack can hold
abbrev pub places : ℕ
places = 64

-- a value more; where the stack is full the oldest is lost
abbrev pub push : Value → List Value → List Value
push v stack = take places (v ∷ stack)

-- both values false
abbrev pub neither : Value
neither = record { positive = false; negative = false }

-- the last value; of an empty stack, one that is neither positive nor negative
abbrev pub top : List Value → Value
top [] = neither
top (v ∷ stack) = v

-- the values before it
abbrev pub below : List Value → List Value
below [] = []
below (v ∷ stack) = stack

-- hexadecimal 80 is not, 81 and, 82 or; any other byte is an action
abbrev pub step : List ℕ → ℕ → ℕ → List Value → List Value
step pairs set t stack =
    cond (eqb t 0x80) (push (swapped (top stack)) (below stack))
    (cond (eqb t 0x81) (push (both (top (below stack)) (top stack)) (below (below stack)))
    (cond (eqb t 0x82) (push (either (top (below stack)) (top stack)) (below (below stack)))
    (push (literal pairs set t) stack)))

-- the values that remain after the bytes
unfoldable pub values : List ℕ → ℕ → List Value → List ℕ → List Value
values pairs set stack [] = stack
values pairs set stack (t ∷ bytes) = values pairs set (step pairs set t stack) bytes

-- "A set satisfies the rule where the positive value of the one part that remains is true for it."
unfoldable pub satisfies : List ℕ → List ℕ → ℕ → Bool
satisfies rule pairs set = (top (values pairs set [] rule)).positive
