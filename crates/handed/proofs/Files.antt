-- The files of an input: a list of them is settled by the bytes; what a cursor finds; and the loop that counts them.
use mathlib.Core.Path.{◌≡◌, refl, sym, ap, ap₂, subst, ◌∙◌}
use mathlib.Core.List.{List, [], ◌∷◌, ◌++◌, append_assoc}
use Prim.Native.Nat.{ℕ, suc, ◌+◌, ◌-◌, ◌/◌, ◌%◌, ◌≤◌, ◌<◌}
use native.Mathlib.Nat.{add-zero}
use native.Mathlib.Omega.{arith}
use lib.ListN.{length, get_or, take, drop, length-append, length-drop, take-append-drop}
use lib.Seq.{take_at, drop_at, get_or-drop, drop-drop, drop-cons, length-take-le}
use Rattle.blocks.specs.Block.{le16, two}
use Rattle.handed.specs.Files.{Ahead, Holds, none, file, OneList, handed, HandedHolds, most_files, Class}
use Rattle.handed.specs.Cursor.{file_at, Ends, Counted}

abbrev tail_of : List ℕ → List ℕ
tail_of [] = []
tail_of (x ∷ xs) = xs

-- what the two bytes say is settled by the input, and so are the file and the rest
pub says_length : (s f rest : List ℕ) → Ahead s f rest → le16 s 0 ≡ length f
says_length s f rest a = rw a.is a.says

file_is : (s f rest : List ℕ) → Ahead s f rest → f ≡ take (length f) (drop 2 s)
file_is s f rest a = rw a.is (sym (take_at f rest (length f) refl))

rest_is : (s f rest : List ℕ) → Ahead s f rest → rest ≡ drop (length f) (drop 2 s)
rest_is s f rest a = rw a.is (sym (drop_at f rest (length f) refl))

pub ahead_long : (s f rest : List ℕ) → Ahead s f rest → length s ≡ 2 + length f + length rest
ahead_long s f rest a = rw a.is (omega (arith, length-append f rest))

module _ (s f rest g rest' : List ℕ) (a : Ahead s f rest) (b : Ahead s g rest') where
  lengths_same : length f ≡ length g
  lengths_same = sym (says_length s f rest a) ∙ says_length s g rest' b

  pub files_same : f ≡ g
  files_same = file_is s f rest a ∙ ap (λ (n : ℕ). take n (drop 2 s)) lengths_same ∙ sym (file_is s g rest' b)

  pub rests_same : rest ≡ rest'
  rests_same = rest_is s f rest a ∙ ap (λ (n : ℕ). drop n (drop 2 s)) lengths_same ∙ sym (rest_is s g rest' b)

not_empty : (f rest : List ℕ) → Ahead [] f rest → ⊥
not_empty f rest a = omega (arith, ahead_long [] f rest a)

cons_same : (s f rest g rest' : List ℕ) (fs gs : List (List ℕ)) → Ahead s f rest → Ahead s g rest' → fs ≡ gs → f ∷ fs ≡ g ∷ gs
cons_same s f rest g rest' fs gs a b e = ap₂ (λ (x : List ℕ) (xs : List (List ℕ)). x ∷ xs) (files_same s f rest g rest' a b) e

same_rest : (s f rest g rest' : List ℕ) (gs : List (List ℕ)) → Ahead s f rest → Ahead s g rest' → Holds rest' gs → Holds rest gs
same_rest s f rest g rest' gs a b k = subst (λ (r : List ℕ). Holds r gs) (sym (rests_same s f rest g rest' a b)) k

pub one_list : OneList
one_list s fs gs none none = refl
one_list s fs gs none (file a h) = absurd (not_empty _ _ a)
one_list s fs gs (file a h) none = absurd (not_empty _ _ a)
one_list s fs gs (file a h) (file b k) = cons_same s _ _ _ _ _ _ a b (one_list _ _ _ h (same_rest s _ _ _ _ _ a b k))

written_ahead : (f rest : List ℕ) → Ahead (two (length f) ++ (f ++ rest)) f rest
written_ahead f rest = record { low = length f % 256; high = length f / 256; says = omega arith; is = refl }

pub handed_holds : HandedHolds
handed_holds [] = none
handed_holds (f ∷ fs) = file (written_ahead f (handed fs)) (handed_holds fs)

-- an input that has a byte holds a file first
pub record Headed (s : List ℕ) (files : List (List ℕ)) : Type 0 where
  pub first : List ℕ
  pub after : List ℕ
  pub others : List (List ℕ)
  pub ahead : Ahead s first after
  pub holds : Holds after others
  pub is : files ≡ first ∷ others

headed_by : (s f rest : List ℕ) (fs : List (List ℕ)) → Ahead s f rest → Holds rest fs → Headed s (f ∷ fs)
headed_by s f rest fs a k = record { first = f; after = rest; others = fs; ahead = a; holds = k; is = refl }

pub headed : (s : List ℕ) (files : List (List ℕ)) → Holds s files → 0 < length s → Headed s files
headed s files none h = absurd (omega arith)
headed s files (file a k) h = headed_by s _ _ _ a k

some_byte : (s f rest : List ℕ) → Ahead s f rest → length s ≡ 0 → ⊥
some_byte s f rest a h = omega (arith, ahead_long s f rest a)

pub empty_list : (s : List ℕ) (files : List (List ℕ)) → Holds s files → length s ≡ 0 → files ≡ []
empty_list s files none h = refl
empty_list s files (file a k) h = absurd (some_byte s _ _ a h)

-- what stands after the files of an input has the others
ahead_more : (s f rest more : List ℕ) → Ahead s f rest → Ahead (s ++ more) f (rest ++ more)
ahead_more s f rest more a = record {
  low = a.low;
  high = a.high;
  says = a.says;
  is = ap (λ (r : List ℕ). r ++ more) a.is ∙ ap (λ (r : List ℕ). a.low ∷ a.high ∷ r) (append_assoc f rest more);
}

others_after : (s f rest more : List ℕ) (gs : List (List ℕ)) → Ahead s f rest → Holds (s ++ more) gs → (hs : List (List ℕ)) × Holds (rest ++ more) hs × (length gs ≡ suc (length hs))
others_after s f rest more gs a k =
    let b = ahead_more s f rest more a in
    let x = headed (s ++ more) gs k (omega (arith, ahead_long (s ++ more) f (rest ++ more) b)) in
    (x.others, subst (λ (r : List ℕ). Holds r x.others) (rests_same (s ++ more) _ _ _ _ x.ahead b) x.holds, ap length x.is)

pub held_after : (s more : List ℕ) (fs gs : List (List ℕ)) → Holds s fs → Holds (s ++ more) gs → (hs : List (List ℕ)) × Holds more hs × (length gs ≡ length fs + length hs)
held_after s more fs gs none k = (gs, k, omega arith)
held_after s more fs gs (file a h) k =
    let (os, x, n) = others_after s _ _ more gs a k in
    let (hs, y, m) = held_after _ more _ os h x in
    (hs, y, omega arith)

-- at a cursor
le16_drop : (s : List ℕ) (at : ℕ) → le16 (drop at s) 0 ≡ le16 s at
le16_drop s at = rw (get_or-drop at s 0 0, get_or-drop at s 1 0, add-zero at)

module _ (s : List ℕ) (at : ℕ) where
  pub cut_length : at ≤ length s → length s - at < 2 → (f rest : List ℕ) → Ahead (drop at s) f rest → ⊥
  cut_length i h f rest a = omega (arith, ahead_long (drop at s) f rest a, length-drop at s)

  pub cut_file : at ≤ length s → length s - at - 2 < le16 s at → (f rest : List ℕ) → Ahead (drop at s) f rest → ⊥
  cut_file i h f rest a = omega (arith, ahead_long (drop at s) f rest a, length-drop at s, le16_drop s at, says_length (drop at s) f rest a)

  -- length and file are there
  pub at_cursor : (f rest : List ℕ) → Ahead (drop at s) f rest → at + 2 + le16 s at ≤ length s
  at_cursor f rest a = omega (arith, ahead_long (drop at s) f rest a, length-drop at s, le16_drop s at, says_length (drop at s) f rest a)

  -- the file that stands there
  module _ (end : ℕ) (e : end ≡ at + 2 + le16 s at) (h : end ≤ length s) where
    file_long : length (file_at s at end) ≡ le16 s at
    file_long = length-take-le (end - (at + 2)) (drop (at + 2) s) (omega (arith, length-drop (at + 2) s)) ∙ omega arith

    cut_open : drop at s ≡ get_or s at 0 ∷ get_or s (at + 1) 0 ∷ drop (at + 2) s
    cut_open =
        let x : suc at ≡ at + 1 = omega arith in
        let y : suc (at + 1) ≡ at + 2 = omega arith in
        let first = drop-cons s at 0 (omega arith) in
        let second = drop-cons s (at + 1) 0 (omega arith) in
        rw (first, x, second, y)

    left_over : drop (at + 2) s ≡ file_at s at end ++ drop end s
    left_over =
        let y : at + 2 + (end - (at + 2)) ≡ end = omega arith in
        sym (take-append-drop (end - (at + 2)) (drop (at + 2) s)) ∙ ap (λ (r : List ℕ). file_at s at end ++ r) (drop-drop (end - (at + 2)) (at + 2) s ∙ ap (λ (n : ℕ). drop n s) y)

    pub ends_there : Ends s at end
    ends_there = record {
      more = omega arith;
      within = h;
      ahead = record {
        low = get_or s at 0;
        high = get_or s (at + 1) 0;
        says = sym file_long;
        is = cut_open ∙ ap (λ (r : List ℕ). get_or s at 0 ∷ get_or s (at + 1) 0 ∷ r) left_over;
      };
    }

-- counting: the files of the whole input are n, and then those from the cursor on
pub record Counting (s : List ℕ) (at n : ℕ) : Type 0 where
  pub within : at ≤ length s
  pub few : n ≤ most_files
  pub back : (fs : List (List ℕ)) → Holds (drop at s) fs → (gs : List (List ℕ)) × Holds s gs × (length gs ≡ n + length fs)
  pub forth : (gs : List (List ℕ)) → Holds s gs → (fs : List (List ℕ)) × Holds (drop at s) fs × (length gs ≡ n + length fs)

pub counting_none : (s : List ℕ) → Counting s 0 0
counting_none s = record { within = omega arith; few = omega arith; back = λ fs h. (fs, h, omega arith); forth = λ gs h. (gs, h, omega arith) }

module _ (s : List ℕ) (at n : ℕ) (c : Counting s at n) where
  -- where a file ends
  module _ (end : ℕ) (e : Ends s at end) (h : n < most_files) where
    back_more : (fs : List (List ℕ)) → Holds (drop end s) fs → (gs : List (List ℕ)) × Holds s gs × (length gs ≡ n + 1 + length fs)
    back_more fs k =
        let (gs, x, l) = c.back (file_at s at end ∷ fs) (file e.ahead k) in
        (gs, x, omega arith)

    forth_more : (gs : List (List ℕ)) → Holds s gs → (fs : List (List ℕ)) × Holds (drop end s) fs × (length gs ≡ n + 1 + length fs)
    forth_more gs k =
        let (fs, x, l) = c.forth gs k in
        let y = headed (drop at s) fs x (omega (arith, length-drop at s, e.more, e.within)) in
        let z : length fs ≡ suc (length y.others) = ap length y.is in
        (y.others, subst (λ (r : List ℕ). Holds r y.others) (rests_same (drop at s) _ _ _ _ y.ahead e.ahead) y.holds, omega arith)

    pub counting_more : Counting s end (n + 1)
    counting_more = record { within = e.within; few = omega arith; back = back_more; forth = forth_more }

  pub too_many : at < length s → n ≡ most_files → (files : List (List ℕ)) → Class s files → ⊥
  too_many h e files k =
      let (fs, x, l) = c.forth files k.holds in
      let y = headed (drop at s) fs x (omega (arith, length-drop at s)) in
      let z : length fs ≡ suc (length y.others) = ap length y.is in
      omega (arith, k.few)

  pub cut_there : at < length s → ((f rest : List ℕ) → Ahead (drop at s) f rest → ⊥) → (files : List (List ℕ)) → Class s files → ⊥
  cut_there h none_there files k =
      let (fs, x, l) = c.forth files k.holds in
      let y = headed (drop at s) fs x (omega (arith, length-drop at s)) in
      none_there y.first y.after y.ahead

  pub all_counted : length s ≤ at → Counted s n
  all_counted h =
      let (gs, x, l) = c.back [] (subst (λ (r : List ℕ). Holds r []) (sym (nothing_left (drop at s) (omega (arith, length-drop at s)))) none) in
      let few : length gs ≤ most_files = omega (arith, c.few) in
      record { files = gs; class = record { holds = x; few = few }; count = omega arith }
    where
      nothing_left : (r : List ℕ) → length r ≡ 0 → r ≡ []
      nothing_left [] e = refl
      nothing_left (x ∷ xs) e = absurd (omega arith)
