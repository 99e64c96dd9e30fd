-- What is said to an input: which text it has, by its last byte; and one of which no more is read than a text and two bytes gets what all of it gets.
use mathlib.Core.Path.{◌≡◌, refl, sym, ◌∙◌}
use mathlib.Core.Bool.{true, false, true≢false}
use mathlib.Core.List.{List, [], ◌∷◌, ◌++◌}
use mathlib.Core.Logic.{◌⊎◌, inl, inr, ◌↔◌}
use Prim.Native.Nat.{ℕ, ◌+◌, ◌-◌, ◌≤◌, ◌<◌}
use native.Mathlib.Omega.{arith}
use lib.Dec.{ltb, leb, eqb}
use lib.ListN.{length, get_or, take, length-append}
use lib.Seq.{get_or-append-add, length-take-le, take_all, take_at}
use borrow.Author.Tests.{lt-ltb, ltb-true, ltb-false, leb-true, leb-false, ne_eqb}
use Rattle.blocks.proofs.Bounded.{decide}
use Rattle.std.proofs.Common.{Result, Err}
use Rattle.std.specs.Result.{IsErr}
use Rattle.text.specs.Text.{text_of}
use Rattle.reply.specs.Reply.{longest, typed_length, typed_in, too_long_line, reply_to, ReadsEnough, TakesTexts}
use Rattle.text.specs.declared.Text.{Text}

-- at most one byte is no part of the text
nearly_all : (input : List ℕ) → length input ≤ typed_length input + 1
nearly_all input = go (decide (eqb (get_or input (length input - 1) 0) 10))
  where
    go : (eqb (get_or input (length input - 1) 0) 10 ≡ true) ⊎ (eqb (get_or input (length input - 1) 0) 10 ≡ false) → length input ≤ typed_length input + 1
    go (inl h) = rw h (omega arith)
    go (inr h) = rw h (omega arith)

abbrev told_long : Result Text Text
told_long = Err (text_of too_long_line)

long : (input : List ℕ) → longest + 1 < length input → reply_to input ≡ told_long
long input h = let n = nearly_all input in rw (lt-ltb longest (typed_length input) (omega arith))

pub reads_enough : ReadsEnough
reads_enough = record { cut = λ input. go input (decide (leb (length input) (longest + 2))) }
  where
    go : (input : List ℕ) → (leb (length input) (longest + 2) ≡ true) ⊎ (leb (length input) (longest + 2) ≡ false) → reply_to (take (longest + 2) input) ≡ reply_to input
    go input (inl h) = rw (take_all (longest + 2) input (leb-true _ _ h))
    go input (inr h) =
        let l = leb-false (length input) (longest + 2) h in
        let e = length-take-le (longest + 2) input (omega arith) in
        long (take (longest + 2) input) (omega arith) ∙ sym (long input (omega arith))

-- the last byte of an input, and what stands before it
last : (text : List ℕ) (x : ℕ) → get_or (text ++ (x ∷ [])) (length (text ++ (x ∷ [])) - 1) 0 ≡ x
last text x =
    let e : length (text ++ (x ∷ [])) - 1 ≡ length text + 0 = let l = length-append text (x ∷ []) in omega arith in
    rw e (get_or-append-add text (x ∷ []) 0 0)

takes : (text : List ℕ) (x : ℕ) → eqb x 10 ≡ true → typed_in (text ++ (x ∷ [])) ≡ text
takes text x h =
    let e : length (text ++ (x ∷ [])) - 1 ≡ length text = let l = length-append text (x ∷ []) in omega arith in
    rw (last text x, h, e) (take_at text (x ∷ []) (length text) refl)

keeps : (text : List ℕ) (x : ℕ) → eqb x 10 ≡ false → typed_in (text ++ (x ∷ [])) ≡ text ++ (x ∷ [])
keeps text x h = rw (last text x, h) (take_all (length (text ++ (x ∷ []))) (text ++ (x ∷ [])) (omega arith))

-- how long the text is
no_longer : (input : List ℕ) → typed_length input ≤ length input
no_longer input = go (decide (eqb (get_or input (length input - 1) 0) 10))
  where
    go : (eqb (get_or input (length input - 1) 0) 10 ≡ true) ⊎ (eqb (get_or input (length input - 1) 0) 10 ≡ false) → typed_length input ≤ length input
    go (inl h) = rw h (omega arith)
    go (inr h) = rw h (omega arith)

pub typed_length_lem : (input : List ℕ) → length (typed_in input) ≡ typed_length input
typed_length_lem input = length-take-le (typed_length input) input (no_longer input)

told_long_lem : (input : List ℕ) → IsErr (reply_to input) ↔ (longest < length (typed_in input))
told_long_lem input = rw (typed_length_lem input) (go (decide (ltb longest (typed_length input))))
  where
    go : (ltb longest (typed_length input) ≡ true) ⊎ (ltb longest (typed_length input) ≡ false) → IsErr (reply_to input) ↔ (longest < typed_length input)
    go (inl h) = (λ e. ltb-true longest (typed_length input) h, λ l. rw h)
    go (inr h) = (λ e. absurd (true≢false (sym (rw h at e))), λ l. absurd (let k = ltb-false longest (typed_length input) h in omega arith))

pub takes_texts : TakesTexts
takes_texts = record {
  newline = λ text. takes text 10 refl;
  other_end = λ text x h. keeps text x (ne_eqb x 10 h);
  no_input = refl;
  long = told_long_lem;
}
