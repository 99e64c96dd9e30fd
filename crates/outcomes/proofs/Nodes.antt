-- The levels of a process of at most suc n levels, by the numbers of its codes. A cell that can occur makes the levels of a node from those of its sides, in the order of
-- `joined`; the levels of a node have such a cell; and those of a code that ends are a complete run.
use mathlib.Core.Path.{◌≡◌, refl, sym, ◌∙◌, ap}
use mathlib.Core.Bool.{true}
use mathlib.Core.List.{List, [], ◌∷◌, ◌++◌}
use Prim.Native.Nat.{ℕ, zero, suc, ◌≤◌, ◌<◌}
use native.Mathlib.Omega.{arith}
use lib.ListN.{take}
use Rattle.process.specs.Process.{Status, ok, fail, Form, sequence, parallel, choice, compensation, handler, Process, node, Run}
use Rattle.process.specs.Figure2.{Forward, Complete}
use Rattle.outcomes.specs.Codes.{Code, Ends, ends_ok, ends_fail, size, number}
use Rattle.outcomes.specs.Chart.{Join, j_none, j_compensation, j_compensation_fails, j_handler_fails}
use Rattle.outcomes.specs.Joins.{code_of, ended, ready, take_nil}
use Rattle.outcomes.specs.LevelCells.{within, cell_at}
use Rattle.outcomes.proofs.Levels.{Levels, l_none, l_run, whole, complete_run, joined, join_levels}
use Rattle.outcomes.proofs.Depth.{levels, left_levels, undo_levels_lem, no_levels, cut_levels, cut_whole, end_levels}
use Rattle.outcomes.proofs.Numbers.{code_short, number_step}
use Rattle.outcomes.proofs.Cells.{cell_of_join, join_of_cell}

-- a handler's left side, whose undo ran to its end
after_failure : {P P' Q : Process} {p : Run} {a b c : Code} {ps qs : List Run} (rs : List Run) → Join handler (fail ∷ a) b c → Forward P p fail P' → Levels P' a ps → whole ps ≡ whole rs → Levels Q b qs → Levels (node handler P Q) c (joined handler true (p ∷ rs) qs)
after_failure rs (j_handler_fails x) d l y (l_run e m) = rw y at (join_levels (j_handler_fails x) (l_run d l) (l_run e m))

handler_levels : (n : ℕ) {P Q : Process} {a b c : Code} {ps qs : List Run} → levels P ≤ suc n → Join handler (ended (suc n) a) b c → Levels P a ps → Levels Q b qs → Levels (node handler P Q) c (joined handler true ps qs)
handler_levels n h j l_none m = join_levels j l_none m
handler_levels n h j (l_run {s = ok} d l) m = join_levels j (l_run d l) m
handler_levels n h j (l_run {s = fail} {rs = rs} d l) m = let (ps, n, y) = end_levels n (omega (arith, undo_levels_lem d)) l in after_failure rs j d n y m

ready_levels : (f : Form) (n : ℕ) {P Q : Process} {a b c : Code} {ps qs : List Run} → levels P ≤ suc n → take (suc n) a ≡ a → Join f (ready f (suc n) a) b c → Levels P a ps → Levels Q b qs → Levels (node f P Q) c (joined f true ps qs)
ready_levels sequence n h x j l m = join_levels (rw x at j) l m
ready_levels parallel n h x j l m = join_levels (rw x at j) l m
ready_levels choice n h x j l m = join_levels (rw x at j) l m
ready_levels compensation n h x j l m = join_levels (rw x at j) l m
ready_levels handler n h x j l m = handler_levels n h (rw x at j) l m

-- the levels of a node, made by a cell from those of its sides
pub record Made (n : ℕ) (f : Form) (P Q : Process) (c : ℕ) (ps qs : List Run) : Type 0 where
  pub made : Levels (node f P Q) (code_of (suc n) c) (take (suc n) (joined f true ps qs))
  pub same_run : whole (take (suc n) (joined f true ps qs)) ≡ whole (joined f true ps qs)

pub node_levels_lem : (n : ℕ) (f : Form) (l r : ℕ) {P Q : Process} {c : ℕ} {ps qs : List Run} → levels (node f P Q) ≤ suc n → cell_at n f l r ≡ c → c < size (suc n) → Levels P (code_of (suc n) l) ps → Levels Q (code_of (suc n) r) qs → Made n f P Q c ps qs
node_levels_lem n f l r {P} {Q} h e k u v =
    let (d, j, x) = join_of_cell n f l r e k in
    let m = ready_levels f n (left_levels f P Q h) (code_short (suc n) l) j u v in
    record { made = rw x at (cut_levels (suc n) m); same_run = cut_whole (suc n) h m }

-- the levels of a code that ends, as far as they hold entries, are a complete run
still_ends : (n : ℕ) {c : Code} {s : Status} → Ends c s → (t : Status) × Ends (ended n (take n c)) t
still_ends zero e = (ok, ends_ok)
still_ends (suc n) ends_ok = (ok, rw (take_nil n) ends_ok)
still_ends (suc n) (ends_fail e) = (fail, ends_fail (still_ends n e).1)

same_end : (n : ℕ) {c : Code} {s : Status} → Ends c s → Ends (ended (suc n) (take (suc n) c)) s
same_end n ends_ok = rw (take_nil n) ends_ok
same_end n (ends_fail e) = ends_fail (still_ends n e).1

pub final_run : (n : ℕ) {P : Process} {c : Code} {s : Status} {rs : List Run} → levels P ≤ suc n → Ends c s → Levels P (take (suc n) c) rs → Complete P (whole rs) s
final_run n h e l = let (ps, m, x) = end_levels (suc n) h l in rw x at (complete_run (same_end n e) m)

-- a process of n levels has a code that is within n levels, by the same run
record Within (n : ℕ) (s : Status) (Q : Process) (b : Code) (q : Run) : Type 0 where
  pub code : Code
  pub runs : List Run
  pub right : Levels Q code runs
  pub right_run : whole runs ≡ q
  pub is_within : within n s (take (suc n) code) ≡ true
  pub same_number : number n code ≡ number n b

settled : (n : ℕ) (s : Status) {Q : Process} {b : Code} {qs : List Run} → levels Q ≤ n → Levels Q b qs → Within n s Q b (whole qs)
settled zero ok h l = record { code = []; runs = []; right = l_none; right_run = sym (no_levels h l); is_within = refl; same_number = refl }
settled zero fail h l = let (ps, m, x) = end_levels 0 h l_none in record { code = ok ∷ []; runs = ps; right = m; right_run = x ∙ sym (no_levels h l); is_within = refl; same_number = refl }
settled (suc n) s h l_none = record { code = []; runs = []; right = l_none; right_run = refl; is_within = refl; same_number = refl }
settled (suc n) s h (l_run {p = p} {s = t} {c = c} d l) =
    let w = settled n t (omega (arith, undo_levels_lem d)) l in
    record { code = t ∷ w.code; runs = p ∷ w.runs; right = l_run d w.right; right_run = ap (λ r. p ++ r) w.right_run; is_within = w.is_within; same_number = number_step n t w.code c w.same_number }

none_within : (n : ℕ) → within n ok (take (suc n) []) ≡ true
none_within zero = refl
none_within (suc n) = refl

-- the cell of a node's levels; the right side of a compensation is taken within its own levels
pub record Split (n : ℕ) (f : Form) (Q : Process) (a c : Code) (q : Run) : Type 0 where
  pub code : Code
  pub runs : List Run
  pub right : Levels Q code runs
  pub right_run : whole runs ≡ q
  pub has_cell : cell_at n f (number (suc n) a) (number (suc n) code) ≡ number (suc n) c

as_it_is : {n : ℕ} {f : Form} {Q : Process} {a b c : Code} {qs : List Run} → Levels Q b qs → cell_at n f (number (suc n) a) (number (suc n) b) ≡ number (suc n) c → Split n f Q a c (whole qs)
as_it_is {b = b} {qs = qs} l e = record { code = b; runs = qs; right = l; right_run = refl; has_cell = e }

undone : (n : ℕ) {Q : Process} {b : Code} {qs : List Run} → levels Q ≤ n → Levels Q b qs → Split n compensation Q (ok ∷ []) (ok ∷ b) (whole qs)
undone n h l =
    let w = settled n ok h l in
    record { code = w.code; runs = w.runs; right = w.right; right_run = w.right_run; has_cell = cell_of_join n compensation (j_compensation {b = w.code}) w.is_within ∙ ap suc w.same_number }

pub cell_of_levels : (n : ℕ) (f : Form) (P : Process) {Q : Process} {a b c : Code} {qs : List Run} → levels (node f P Q) ≤ suc n → Join f a b c → Levels Q b qs → Split n f Q a c (whole qs)
cell_of_levels n sequence P h j l = as_it_is l (cell_of_join n sequence j refl)
cell_of_levels n parallel P h j l = as_it_is l (cell_of_join n parallel j refl)
cell_of_levels n choice P h j l = as_it_is l (cell_of_join n choice j refl)
cell_of_levels n handler P h j l = as_it_is l (cell_of_join n handler j refl)
cell_of_levels n compensation P h j_none l_none = as_it_is l_none (cell_of_join n compensation j_none (none_within n))
cell_of_levels n compensation P h j_compensation l = undone n (omega arith) l
cell_of_levels n compensation P h (j_compensation_fails {a = a}) l_none = as_it_is l_none (cell_of_join n compensation (j_compensation_fails {a = a}) (none_within n))
