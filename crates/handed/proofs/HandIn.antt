-- A file put into an input: the file's bytes go after its length's two, and then these, which is both at once.
use mathlib.Core.Path.{◌≡◌, refl, sym, ap, ap₂, ◌∙◌}
use mathlib.Core.Bool.{Bool, true, false}
use mathlib.Core.List.{List, [], ◌∷◌, ◌++◌, append_assoc, append-nil}
use Prim.Native.Nat.{ℕ, ◌+◌, ◌≤◌, ◌<◌}
use native.Mathlib.Omega.{arith}
use lib.Dec.{ltb}
use lib.ListN.{length, take, drop, length-append, length-drop}
use lib.Seq.{length-take-le, take_at, drop_at, take-append-le, take-take}
use borrow.Author.Tests.{le-leb, leb-true, ltb-true}
use Rattle.blocks.proofs.Bounded.{both_true}
use Rattle.blocks.specs.Area.{fits, placed, written}
use Rattle.blocks.specs.Block.{two}
use Rattle.handed.specs.Files.{handed}
use Rattle.handed.specs.HandIn.{file_bytes, room_for, input_with, end_with, HandsIn}

one_more : (fs : List (List ℕ)) (f : List ℕ) → handed (fs ++ (f ∷ [])) ≡ handed fs ++ file_bytes f
one_more [] f = ap (λ (l : List ℕ). two (length f) ++ l) (append-nil f)
one_more (g ∷ fs) f =
    ap (λ (l : List ℕ). two (length g) ++ (g ++ l)) (one_more fs f) ∙ ap (λ (l : List ℕ). two (length g) ++ l) (sym (append_assoc g (handed fs) (file_bytes f)))

module _ (input : List ℕ) (at : ℕ) (f : List ℕ) where
  size : length (file_bytes f) ≡ 2 + length f
  size = omega arith

  pub stays : room_for input at f ≡ false → (input_with input at f ≡ input) × (end_with input at f ≡ at)
  unfolding input_with end_with
  stays e = (rw e, rw e)

  pub small : room_for input at f ≡ true → length f < 65536
  small e = ltb-true _ _ (both_true (ltb (length f) 65536) (fits input at (length (file_bytes f))) e).0

  room : room_for input at f ≡ true → at + length (file_bytes f) ≤ length input
  room e = leb-true _ _ (both_true (ltb (length f) 65536) (fits input at (length (file_bytes f))) e).1

  -- where it is put
  module _ (h : at + length (file_bytes f) ≤ length input) where
    front : length (take at input) ≡ at
    front = length-take-le at input (omega arith)

    -- the file's bytes first, two bytes on
    mid_is : written input (at + 2) f ≡ take (at + 2) input ++ (f ++ drop (at + 2 + length f) input)
    mid_is = rw (le-leb (at + 2 + length f) (length input) (omega (arith, size))) (append_assoc (take (at + 2) input) f (drop (at + 2 + length f) input))

    both : written (written input (at + 2) f) at (two (length f)) ≡ placed input at (file_bytes f)
    both =
        let mid = written input (at + 2) f in
        let rest = drop (at + 2 + length f) input in
        let t : length (take (at + 2) input) ≡ at + 2 = length-take-le (at + 2) input (omega (arith, size)) in
        let front' : take at mid ≡ take at input = ap (take at) mid_is ∙ take-append-le at (take (at + 2) input) (f ++ rest) (omega arith) ∙ take-take at (at + 2) input (omega arith) in
        let back : drop (at + 2) mid ≡ f ++ rest = ap (drop (at + 2)) mid_is ∙ drop_at (take (at + 2) input) (f ++ rest) (at + 2) t in
        let long : at + 2 ≤ length mid = rw (mid_is, length-append (take (at + 2) input) (f ++ rest)) (omega arith) in
        let e : at + 2 + length f ≡ at + length (file_bytes f) = omega (arith, size) in
        rw (le-leb (at + 2) (length mid) long)
        (append_assoc (take at mid) (two (length f)) (drop (at + 2) mid)
        ∙ ap₂ (λ (x y : List ℕ). x ++ (two (length f) ++ y)) front' (back ∙ ap (λ (n : ℕ). f ++ drop n input) e)
        ∙ sym (append_assoc (take at input) (file_bytes f) (drop (at + length (file_bytes f)) input)))

    put_length : length (take at input ++ file_bytes f) ≡ at + length (file_bytes f)
    put_length = length-append (take at input) (file_bytes f) ∙ omega (arith, front)

    put_first : take (at + length (file_bytes f)) (placed input at (file_bytes f)) ≡ take at input ++ file_bytes f
    put_first = take_at (take at input ++ file_bytes f) (drop (at + length (file_bytes f)) input) (at + length (file_bytes f)) put_length

    put_long : length (placed input at (file_bytes f)) ≡ length input
    put_long = length-append (take at input ++ file_bytes f) (drop (at + length (file_bytes f)) input) ∙ omega (arith, put_length, length-drop (at + length (file_bytes f)) input)

  -- the two copies of the code, where there is room
  pub put : room_for input at f ≡ true → (at + (2 + length f) ≡ end_with input at f) × (written (written input (at + 2) f) at (two (length f)) ≡ input_with input at f)
  unfolding input_with end_with
  put r = rw r (omega (arith, size), both (room r))

  puts : room_for input at f ≡ true → take (end_with input at f) (input_with input at f) ≡ take at input ++ file_bytes f
  unfolding input_with end_with
  puts r = rw r (put_first (room r))

  grows : (fs : List (List ℕ)) → take at input ≡ handed fs → room_for input at f ≡ true → take (end_with input at f) (input_with input at f) ≡ handed (fs ++ (f ∷ []))
  grows fs e r = puts r ∙ ap (λ (l : List ℕ). l ++ file_bytes f) e ∙ sym (one_more fs f)

  long_by : (t : Bool) → room_for input at f ≡ t → length (input_with input at f) ≡ length input
  unfolding input_with end_with
  long_by true e = rw e (put_long (room e))
  long_by false e = rw e

  long : length (input_with input at f) ≡ length input
  long = long_by (room_for input at f) refl

  inside_by : (t : Bool) → room_for input at f ≡ t → at ≤ length input → end_with input at f ≤ length input
  unfolding input_with end_with
  inside_by true e h = rw e (room e)
  inside_by false e h = rw e h

  inside : at ≤ length input → end_with input at f ≤ length (input_with input at f)
  inside h = rw long (inside_by (room_for input at f) refl h)

pub hands_in : HandsIn
hands_in = record { one_more = one_more; puts = puts; grows = grows; stays = stays; inside = inside; long = long }
