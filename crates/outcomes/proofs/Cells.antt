-- The cells are the chart. `joins` decides what two codes join to at n levels, and finds what is joined; so `cell_at` is the chart of suc n levels, for any n. One test computes
-- that document 01's 245 cells are those of two levels, and one law carries the test to each cell.
use mathlib.Core.Path.{◌≡◌, refl, sym, ◌∙◌, ap, subst⁻¹}
use mathlib.Core.Bool.{Bool, true, false, cond}
use mathlib.Core.List.{◌∷◌}
use Prim.Native.Nat.{ℕ, zero, suc, ◌≤◌, ◌<◌}
use native.Mathlib.Omega.{arith}
use lib.Dec.{T, eqb, eqb→eq}
use lib.ListN.{take}
use Rattle.process.specs.Process.{Status, ok, fail, Form, sequence, parallel, choice, compensation, handler}
use Rattle.process.specs.Figure2.{both}
use Rattle.process.specs.Forms.{form_number, form_of}
use Rattle.outcomes.specs.Codes.{Code, Ends, ends_ok, ends_fail, size, number}
use Rattle.outcomes.specs.Chart.{Join, j_none, j_sequence, j_sequence_fails, j_parallel, j_choice_left, j_choice_right, j_compensation, j_compensation_fails, j_handler, j_handler_fails}
use Rattle.outcomes.specs.Cells.{lines, cell}
use Rattle.outcomes.specs.Joins.{code_of, ended, Joinable, cannot, can, above, EndsAs, ends?, in_sequence, in_parallel, ready, take_nil, handles, joins, answer}
use Rattle.outcomes.specs.LevelCells.{fitting, cell_at}
use Rattle.outcomes.proofs.Table.{all_cells, at_cell}
use Rattle.outcomes.proofs.Numbers.{number_small, code_of_number, code_short, number_step, cut_twice}

above_answer : (n : ℕ) {f g : Form} {a b a' b' : Code} (s : Status) (k : (c : Code) → Join f a b c → Join g a' b' (s ∷ c)) (x : Joinable f a b) (c : Code) → answer n x ≡ number n c → answer (suc n) (above s k x) ≡ number (suc n) (s ∷ c)
above_answer n s k cannot c e = absurd (omega (arith, number_small n c))
above_answer n s k (can {c = d} j) c e = number_step n s d c e

cut_above : (n : ℕ) (s : Status) (c : Code) → number (suc n) (s ∷ take n (take n c)) ≡ number (suc n) (s ∷ c)
cut_above n s c = number_step n s (take n (take n c)) c (cut_twice n n (omega arith) c)

still_ends : (n : ℕ) {a : Code} {s : Status} → Ends a s → EndsAs (ended n (take n (take n a)))
still_ends zero e = (ok, ends_ok)
still_ends (suc n) ends_ok = (ok, rw (take_nil n, take_nil n) ends_ok)
still_ends (suc n) (ends_fail e) = (fail, ends_fail (still_ends n e).1)

handles_answer : (n : ℕ) {a : Code} (x : Dec (EndsAs a)) → EndsAs a → (b : Code) (t : Status) → answer (suc n) (handles {b = take n (take n b)} {t = t} x) ≡ number (suc n) (t ∷ b)
handles_answer n (yes (s, e)) h b t = cut_above n t b
handles_answer n (no h) e b t = absurd (h e)

-- what is joined is found
sequence_found : (n : ℕ) {a b c : Code} → Join sequence a b c → answer n (in_sequence n (take n a) (take n b)) ≡ number n c
sequence_found zero j = refl
sequence_found (suc n) j_none = refl
sequence_found (suc n) (j_sequence {a = a} {b = b} {c = c} {s = s} j) = above_answer n s (λ c j. j_sequence j) (in_sequence n (take n b) (take n a)) c (sequence_found n j)
sequence_found (suc n) (j_sequence_fails {a = a}) = cut_above n fail a

parallel_found : (n : ℕ) {a b c : Code} → Join parallel a b c → answer n (in_parallel n (take n a) (take n b)) ≡ number n c
parallel_found zero j = refl
parallel_found (suc n) j_none = refl
parallel_found (suc n) (j_parallel {a = a} {b = b} {c = c} {s = s} {t = t} j z) =
    above_answer n (both s t) (λ c j. j_parallel j refl) (in_parallel n (take n a) (take n b)) c (parallel_found n j) ∙ ap (λ u. number (suc n) (u ∷ c)) z

pub join_found : (f : Form) (n : ℕ) {a b c : Code} → Join f a b c → answer (suc n) (joins f n (take (suc n) a) (take (suc n) b)) ≡ number (suc n) c
join_found sequence n j = sequence_found (suc n) j
join_found parallel n j = parallel_found (suc n) j
join_found choice n j_none = refl
join_found choice n (j_choice_left {a = a} {s = s}) = cut_above n s a
join_found choice n (j_choice_right {b = b} {s = s}) = cut_above n s b
join_found compensation n j_none = refl
join_found compensation n (j_compensation {b = b}) = subst⁻¹ (λ a. answer (suc n) (joins compensation n (ok ∷ a) (take (suc n) b)) ≡ number (suc n) (ok ∷ b)) (take_nil n) (ap suc (cut_twice n (suc n) (omega arith) b))
join_found compensation n (j_compensation_fails {a = a}) = cut_above n fail a
join_found handler n j_none = refl
join_found handler n (j_handler {a = a}) = cut_above n ok a
join_found handler n (j_handler_fails {b = b} {t = t} e) = handles_answer n (ends? (ended n (take n (take n _)))) (still_ends n e) b t

-- what is joined has its cell
pub cell_of_join : (n : ℕ) (f : Form) {a b c : Code} → Join f a b c → fitting n f (take (suc n) b) ≡ true → cell_at n f (number (suc n) a) (number (suc n) b) ≡ number (suc n) c
unfolding cell_at
cell_of_join n f {a} {b} j h = rw (code_of_number (suc n) a, code_of_number (suc n) b, h) (join_found f n j)

-- what has a cell is joined
guarded : (b : Bool) (k m : ℕ) → cond b k m < m → cond b k m ≡ k
guarded true k m h = refl
guarded false k m h = absurd (omega arith)

joined_code : (n : ℕ) {f : Form} {a b b' : Code} {c : ℕ} (x : Joinable f a b) → b ≡ b' → answer n x ≡ c → c < size n → (d : Code) × Join f a b' d × (number n d ≡ c)
joined_code n cannot z e h = absurd (omega arith)
joined_code n (can {c = d} j) z e h = (d, rw z at j, e)

pub join_of_cell : (n : ℕ) (f : Form) (l r : ℕ) {c : ℕ} → cell_at n f l r ≡ c → c < size (suc n) → (d : Code) × Join f (ready f (suc n) (code_of (suc n) l)) (code_of (suc n) r) d × (take (suc n) d ≡ code_of (suc n) c)
unfolding cell_at
join_of_cell n f l r {c} e h =
    let b = fitting n f (code_of (suc n) r) in
    let x = joins f n (code_of (suc n) l) (code_of (suc n) r) in
    let (d, j, z) = joined_code (suc n) x (code_short (suc n) r) (sym (guarded b (answer (suc n) x) (size (suc n)) (rw e h)) ∙ e) h in
    (d, j, sym (code_of_number (suc n) d) ∙ ap (code_of (suc n)) z)

-- each form has its number, 3 to 7
pub same_form : (f : Form) → form_of (form_number f) ≡ f
same_form sequence = refl
same_form parallel = refl
same_form choice = refl
same_form compensation = refl
same_form handler = refl

pub form_low : (f : Form) → (3 ≤ form_number f) × (form_number f ≤ 7)
form_low sequence = (omega arith, omega arith)
form_low parallel = (omega arith, omega arith)
form_low choice = (omega arith, omega arith)
form_low compensation = (omega arith, omega arith)
form_low handler = (omega arith, omega arith)

-- two levels: one test over the 245 cells
tested : T (all_cells (λ form l r. eqb (cell form l r) (cell_at 1 (form_of form) l r)))
unfolding cell lines cell_at
tested = tt

pub document_cell : (f : Form) (l r : ℕ) → l < 7 → r < 7 → cell (form_number f) l r ≡ cell_at 1 f l r
document_cell f l r h k =
    eqb→eq (cell (form_number f) l r) (cell_at 1 (form_of (form_number f)) l r)
    (at_cell (λ form l r. eqb (cell form l r) (cell_at 1 (form_of form) l r)) tested (form_low f).0 (form_low f).1 h k)
    ∙ ap (λ g. cell_at 1 g l r) (same_form f)
