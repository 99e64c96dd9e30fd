-- What two codes join to, decided: at n levels each answer carries the rule of `Join` that it is by. So the chart becomes a table over the numbers of codes.
use mathlib.Core.Path.{sym, subst}
use Rattle.std.specs.Prelude.{◌≡◌, refl, cond, [], ◌∷◌, ℕ, zero, suc, ◌-◌, ltb, take}
use Rattle.process.specs.Process.{Status, ok, fail, Form, sequence, parallel, choice, compensation, handler}
use Rattle.process.specs.Figure2.{both}
use Rattle.outcomes.specs.Codes.{Code, Ends, ends_ok, ends_fail, size, number}
use Rattle.outcomes.specs.Chart.{Join, j_none, j_sequence, j_sequence_fails, j_parallel, j_choice_left, j_choice_right, j_compensation, j_compensation_fails, j_handler, j_handler_fails}

-- The code of a number at n levels.
abbrev pub code_of : ℕ → ℕ → Code
code_of zero k = []
code_of (suc n) zero = []
code_of (suc n) (suc k) = cond (ltb k (size n)) (ok ∷ code_of n k) (fail ∷ code_of n (k - size n))

-- a code that failed at each of n levels has one level more, at which it ended
abbrev pub ended : ℕ → Code → Code
ended zero [] = ok ∷ []
ended (suc n) [] = []
ended n (ok ∷ c) = ok ∷ c
ended zero (fail ∷ c) = fail ∷ c
ended (suc n) (fail ∷ c) = fail ∷ ended n c

-- whether two codes are joined in a form, and to what
pub data Joinable (f : Form) (a b : Code) : Type 0 where
  cannot : Joinable f a b
  can : {c : Code} → Join f a b c → Joinable f a b

abbrev pub above : {f g : Form} {a b a' b' : Code} (s : Status) → ((c : Code) → Join f a b c → Join g a' b' (s ∷ c)) → Joinable f a b → Joinable g a' b'
above s k cannot = cannot
above s k (can {c = c} j) = can (k c j)

-- whether a code ends
abbrev pub EndsAs : Code → Type 0
EndsAs a = (s : Status) × Ends a s

pub ends_above : {a : Code} {s : Status} → Ends (fail ∷ a) s → EndsAs a
ends_above (ends_fail {s = s} e) = (s, e)

abbrev pub ends? : (a : Code) → Dec (EndsAs a)
ends? [] = no (λ (s, e). elim e [ ])
ends? (ok ∷ []) = yes (ok, ends_ok)
ends? (ok ∷ s ∷ a) = no (λ (s, e). elim e [ ])
ends? (fail ∷ a) = elim (ends? a) [ yes (s, e) ↦ yes (fail, ends_fail e) | no h ↦ no (λ (s, e). h (ends_above e)) ]

-- two codes at n levels, in sequence and in parallel
abbrev pub in_sequence : (n : ℕ) (a b : Code) → Joinable sequence (take n a) (take n b)
in_sequence zero a b = can j_none
in_sequence (suc n) [] [] = can j_none
in_sequence (suc n) [] (t ∷ b) = cannot
in_sequence (suc n) (ok ∷ a) [] = cannot
in_sequence (suc n) (ok ∷ a) (t ∷ b) = above t (λ c j. j_sequence j) (in_sequence n b a)
in_sequence (suc n) (fail ∷ a) [] = can j_sequence_fails
in_sequence (suc n) (fail ∷ a) (t ∷ b) = cannot

abbrev pub in_parallel : (n : ℕ) (a b : Code) → Joinable parallel (take n a) (take n b)
in_parallel zero a b = can j_none
in_parallel (suc n) [] [] = can j_none
in_parallel (suc n) [] (t ∷ b) = cannot
in_parallel (suc n) (s ∷ a) [] = cannot
in_parallel (suc n) (s ∷ a) (t ∷ b) = above (both s t) (λ c j. j_parallel j refl) (in_parallel n a b)

-- the left code at n levels, run to its end for a handler
abbrev pub ready : Form → ℕ → Code → Code
ready sequence n a = take n a
ready parallel n a = take n a
ready choice n a = take n a
ready compensation n a = take n a
ready handler n a = ended n (take n a)

pub take_nil : (n : ℕ) → ◌≡◌ {A = Code} (take n []) []
take_nil zero = refl
take_nil (suc n) = refl

abbrev pub handles : {a b : Code} {t : Status} → Dec (EndsAs a) → Joinable handler (fail ∷ a) (t ∷ b)
handles (yes (s, e)) = can (j_handler_fails e)
handles (no h) = cannot

-- two codes at one level and n more
abbrev pub joins : (f : Form) (n : ℕ) (a b : Code) → Joinable f (ready f (suc n) a) (take (suc n) b)
joins sequence n a b = in_sequence (suc n) a b
joins parallel n a b = in_parallel (suc n) a b
joins choice n [] [] = can j_none
joins choice n [] (t ∷ b) = can j_choice_right
joins choice n (s ∷ a) [] = can j_choice_left
joins choice n (s ∷ a) (t ∷ b) = cannot
joins compensation n [] [] = can j_none
joins compensation n [] (t ∷ b) = cannot
joins compensation n (ok ∷ []) b = can {c = ok ∷ take (suc n) b} (subst (λ (t : Code). Join compensation (ok ∷ t) (take (suc n) b) (ok ∷ take (suc n) b)) (sym (take_nil n)) j_compensation)
joins compensation n (ok ∷ s ∷ a) b = cannot
joins compensation n (fail ∷ a) [] = can j_compensation_fails
joins compensation n (fail ∷ a) (t ∷ b) = cannot
joins handler n [] [] = can j_none
joins handler n [] (t ∷ b) = cannot
joins handler n (ok ∷ a) [] = can j_handler
joins handler n (ok ∷ a) (t ∷ b) = cannot
joins handler n (fail ∷ a) [] = cannot
joins handler n (fail ∷ a) (t ∷ b) = handles (ends? (ended n (take n a)))

-- the number of what is joined; the size, one more than any number, where nothing is
abbrev pub answer : ℕ → {f : Form} {a b : Code} → Joinable f a b → ℕ
answer n cannot = size n
answer n (can {c = c} j) = number n c
