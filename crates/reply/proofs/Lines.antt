-- The line's bytes, put into a text; and a line has room in one: three bytes at most for each of 127, and a newline.
use mathlib.Core.Path.{◌≡◌, ap, ◌∙◌}
use mathlib.Core.Bool.{true, false}
use mathlib.Core.List.{List, [], ◌∷◌}
use mathlib.Core.Logic.{◌⊎◌, inl, inr}
use Prim.Native.Nat.{ℕ, min, ◌≤◌}
use native.Mathlib.Omega.{arith}
use lib.Dec.{eqb}
use lib.ListN.{length, get_or, length-append}
use Rattle.blocks.proofs.Bounded.{decide}
use Rattle.text.specs.Lines.{refused, each}
use Rattle.text.specs.Text.{empty, pushed, appended, text_of}
use Rattle.text.specs.declared.Text.{Text}
use Rattle.text.proofs.Ends.{each_few, lined, numbered_short, put_alone}
use Rattle.std.proofs.Common.{Ok, Err}
use Rattle.formula.specs.Numbers.{Answer, number}
use Rattle.formula.specs.declared.Turned.{Turned}
use Rattle.reply.specs.Line.{item, item_at, line_with, line_for}

item_few : (i b : ℕ) → length (item i b) ≤ 3
item_few i b = go (decide (eqb i 0))
  where
    go : (eqb i 0 ≡ true) ⊎ (eqb i 0 ≡ false) → length (item i b) ≤ 3
    go (inl h) = rw h (omega arith)
    go (inr h) = rw h (omega arith)

pub line_short : (bytes : List ℕ) (a : Answer) → length (line_with bytes a) ≤ 640
line_short bytes (Ok n) =
    let e = each_few (item_at bytes) 3 0 (min n 127) (λ j h. item_few j (get_or bytes j 0)) in
    let f = length-append (each (item_at bytes) 0 (min n 127)) (10 ∷ []) in
    omega arith
line_short bytes (Err f) = let h = numbered_short refused (number f) (omega arith) in omega arith

pub line_put : {e g r : Text} {n : ℕ} (q : Turned) → q.answer ≡ Ok n → e ≡ empty → g ≡ appended e (each (item_at q.bytes) 0 (min n 127)) → r ≡ pushed g 10
    → r ≡ text_of (line_for q)
line_put {e} {n = n} q i f h k =
    rw i
    (put_alone (line_with q.bytes (Ok n)) (k ∙ ap (λ (t : Text). pushed t 10) h ∙ lined e (each (item_at q.bytes) 0 (min n 127))) f
    (line_short q.bytes (Ok n)))
