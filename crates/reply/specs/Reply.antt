-- What the program says to an input: a newline at its very end is no part of the text, and a text of over 65,536 bytes is told as too long. The proofs of
-- the promises are `reads_enough` and `takes_texts`.
use Rattle.std.specs.Prelude.{◌≡◌, cond, Result, Ok, Err, List, [], ◌∷◌, ◌++◌, ◌↔◌, ℕ, ◌+◌, ◌-◌, ◌<◌, ltb, eqb, length, get_or, take}
use Rattle.std.specs.Result.{IsErr}
use Rattle.text.specs.Text.{ascii, text_of}
use Rattle.formula.specs.Answer.{answer_of}
use Rattle.reply.specs.Line.{line_for}
use Rattle.text.specs.declared.Text.{Text}

abbrev pub longest : ℕ
longest = 65536

abbrev pub typed_length : List ℕ → ℕ
typed_length input = cond (eqb (get_or input (length input - 1) 0) 10) (length input - 1) (length input)

-- the text that was typed
abbrev pub typed_in : List ℕ → List ℕ
typed_in input = take (typed_length input) input

-- what is told of a text that is too long
abbrev pub too_long_line : List ℕ
too_long_line = ascii "postfix: the text is too long: 65,536 bytes at most\n"

-- a line, which tells what the text becomes or that it is too long
abbrev pub reply_to : List ℕ → Result Text Text
reply_to input =
    cond (ltb longest (typed_length input))
    (Err (text_of too_long_line))
    (Ok (text_of (line_for (answer_of (typed_in input)))))

-- To an input of which no more is read than a text and two bytes the same is said as to all of it.
pub record ReadsEnough : Type 0 where
  pub cut : (input : List ℕ) → reply_to (take (longest + 2) input) ≡ reply_to input

pub record TakesTexts : Type 0 where
  -- a newline at the very end is no part of the text,
  pub newline : (text : List ℕ) → typed_in (text ++ (10 ∷ [])) ≡ text
  -- an input that ends with another byte is the text,
  pub other_end : (text : List ℕ) (x : ℕ) → (x ≡ 10 → ⊥) → typed_in (text ++ (x ∷ [])) ≡ text ++ (x ∷ [])
  -- and so is no input
  pub no_input : typed_in [] ≡ []
  -- it is told as too long exactly where it has over 65,536 bytes
  pub long : (input : List ℕ) → IsErr (reply_to input) ↔ (65536 < length (typed_in input))
