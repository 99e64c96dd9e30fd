-- Putting bytes into a text one after the other gives the text of the list, where it has room for all of them.
use mathlib.Core.Path.{◌≡◌, refl, ap, ◌∙◌}
use mathlib.Core.List.{List, [], ◌∷◌, ◌++◌, append_assoc, append-nil}
use Prim.Native.Nat.{ℕ, suc, ◌+◌, ◌-◌, ◌≤◌, ◌<◌}
use native.Mathlib.Numerals.{add-one}
use native.Mathlib.Omega.{arith}
use lib.ListN.{length, get_or, drop, set, replicate, length-append, length-replicate, drop_of_length-le}
use lib.Seq.{drop-cons, set-append_seam}
use borrow.Author.Tests.{lt-ltb}
use Rattle.text.specs.Text.{empty, pushed, appended, text_of}
use Rattle.text.specs.declared.Text.{Text}

-- the bytes of two lists, put one after the other
pub appended_both : (t : Text) (x y : List ℕ) → appended t (x ++ y) ≡ appended (appended t x) y
unfolding appended
appended_both t [] y = refl
appended_both t (b ∷ x) y = appended_both (pushed t b) x y

-- one byte
pub appended_one : (t : Text) (b : ℕ) → appended t (b ∷ []) ≡ pushed t b
unfolding appended
appended_one t b = refl

-- the next byte of a list, and none where it is passed
pub appended_next : (t : Text) (s : List ℕ) (i : ℕ) → i < length s → appended t (drop i s) ≡ appended (pushed t (get_or s i 0)) (drop (i + 1) s)
unfolding appended
appended_next t s i h = rw (add-one i, drop-cons s i 0)

pub appended_end : (t : Text) (s : List ℕ) (i : ℕ) → length s ≤ i → appended t (drop i s) ≡ t
unfolding appended
appended_end t s i h = rw (drop_of_length-le s h)

zeros_left : (n : ℕ) → n < 640 → replicate {A = ℕ} (640 - n) 0 ≡ 0 ∷ replicate (640 - (n + 1)) 0
zeros_left n h =
    let e : 640 - n ≡ suc (640 - (n + 1)) = omega arith in
    rw e

pushed_text : (p : List ℕ) (b : ℕ) → length p < 640 → pushed (text_of p) b ≡ text_of (p ++ (b ∷ []))
unfolding pushed
pushed_text p b h =
    let len : length (p ++ (b ∷ [])) ≡ length p + 1 = length-append p (b ∷ []) in
    let bytes : set (p ++ replicate (640 - length p) 0) (length p) b ≡ (p ++ (b ∷ [])) ++ replicate (640 - length (p ++ (b ∷ []))) 0 =
    rw (zeros_left (length p) h, set-append_seam, append_assoc, len)
    in
    rw (lt-ltb (length p) 640 h) (cc)

appended_text : (p l : List ℕ) → length p + length l ≤ 640 → appended (text_of p) l ≡ text_of (p ++ l)
unfolding appended
appended_text p [] h = rw append-nil
appended_text p (b ∷ l) h =
    let room : length (p ++ (b ∷ [])) + length l ≤ 640 = simp length-append (omega arith) in
    ap (λ (t : Text). appended t l) (pushed_text p b (omega arith)) ∙ (appended_text (p ++ (b ∷ [])) l room ∙ ap text_of (append_assoc p (b ∷ []) l))

pub appended_empty : (l : List ℕ) → length l ≤ 640 → appended empty l ≡ text_of l
appended_empty l h = appended_text [] l (omega arith)

-- a text of at most 640 bytes keeps within its room
pub text_room : (l : List ℕ) → length l ≤ 640 → length (text_of l).bytes ≡ 640
text_room l h = simp (length-append, length-replicate) (omega arith)
