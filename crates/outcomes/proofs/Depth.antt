-- The levels of a process that can hold entries. Above them its undo is quiet: it runs nothing and succeeds. So a code may be cut to
-- that many levels, and one that failed at each of them may be run on to its end, and the whole run stays the same.
use mathlib.Core.Path.{◌≡◌, refl, sym, ap}
use mathlib.Core.List.{List, [], ◌∷◌, ◌++◌}
use Prim.Native.Nat.{ℕ, zero, suc, ◌+◌, ◌-◌, ◌≤◌, max}
use native.Mathlib.Omega.{arith}
use lib.ListN.{take}
use Rattle.process.specs.Process.{Status, ok, fail, Form, sequence, parallel, choice, compensation, handler, Process, done, leaf, node, Run}
use Rattle.process.specs.Figure2.{both, Interleaving, neither, Forward, f_done, f_leaf, f_sequence, f_sequence_fails, f_parallel, f_choice_left, f_choice_right, f_compensation, f_compensation_fails, f_handler, f_handler_fails}
use Rattle.outcomes.specs.Codes.{Code}
use Rattle.outcomes.specs.Joins.{ended}
use Rattle.outcomes.proofs.Levels.{Levels, l_none, l_run, whole}
use Rattle.process.specs.Depth.{right_depth, undo_depth}

abbrev pub levels : Process → ℕ
levels done = 0
levels (leaf n k) = 1
levels (node f P Q) = max (levels P) (right_depth f (levels Q))

deeper_by : (f : Form) (n : ℕ) → right_depth f n ≡ right_depth f 0 + n
deeper_by sequence n = omega arith
deeper_by parallel n = omega arith
deeper_by choice n = omega arith
deeper_by compensation n = omega arith
deeper_by handler n = omega arith

pub levels_depth : (P : Process) → levels P ≤ suc (undo_depth P)
levels_depth done = omega arith
levels_depth (leaf n k) = omega arith
levels_depth (node f P Q) = omega (arith, levels_depth P, levels_depth Q, deeper_by f (levels Q), deeper_by f (undo_depth Q))

-- each side has at most the node's levels
pub left_levels : (f : Form) (P Q : Process) {n : ℕ} → levels (node f P Q) ≤ n → levels P ≤ n
left_levels f P Q h = omega arith

pub right_levels : (f : Form) (P Q : Process) {n : ℕ} → levels (node f P Q) ≤ n → levels Q ≤ n
right_levels f P Q h = omega (arith, deeper_by f (levels Q))

-- the undo has a level less
pub undo_levels_lem : {P P' : Process} {p : Run} {s : Status} → Forward P p s P' → levels P' ≤ levels P - 1
undo_levels_lem f_done = omega arith
undo_levels_lem (f_leaf a) = omega arith
undo_levels_lem (f_sequence d e z) = omega (arith, undo_levels_lem d, undo_levels_lem e)
undo_levels_lem (f_sequence_fails d) = omega (arith, undo_levels_lem d)
undo_levels_lem (f_parallel d e i z) = omega (arith, undo_levels_lem d, undo_levels_lem e)
undo_levels_lem (f_choice_left d) = omega (arith, undo_levels_lem d)
undo_levels_lem (f_choice_right d) = omega (arith, undo_levels_lem d)
undo_levels_lem (f_compensation d) = omega arith
undo_levels_lem (f_compensation_fails d) = omega (arith, undo_levels_lem d)
undo_levels_lem (f_handler d) = omega (arith, undo_levels_lem d)
undo_levels_lem (f_handler_fails d c e z) = omega (arith, undo_levels_lem e)

-- no levels: it runs nothing and succeeds
data Quiet : Run → Status → Type 0 where
  quiet : Quiet [] ok

quiet_sequence : {p q r : Run} {s : Status} → Quiet p ok → Quiet q s → p ++ q ≡ r → Quiet r s
quiet_sequence quiet quiet z = rw z at quiet

quiet_parallel : {p q r : Run} {s t u : Status} → Quiet p s → Quiet q t → Interleaving p q r → both s t ≡ u → Quiet r u
quiet_parallel quiet quiet neither z = rw z at quiet

-- it does not fail
not_quiet : {p r : Run} {s : Status} → Quiet p fail → Quiet r s
not_quiet q = elim q [ ]

runs_quiet : {P P' : Process} {p : Run} {s : Status} → levels P ≤ 0 → Forward P p s P' → Quiet p s
runs_quiet h f_done = quiet
runs_quiet h (f_leaf a) = absurd (omega arith)
runs_quiet h (f_sequence d e z) = quiet_sequence (runs_quiet (omega arith) d) (runs_quiet (omega arith) e) z
runs_quiet h (f_sequence_fails d) = runs_quiet (omega arith) d
runs_quiet h (f_parallel d e i z) = quiet_parallel (runs_quiet (omega arith) d) (runs_quiet (omega arith) e) i z
runs_quiet h (f_choice_left d) = runs_quiet (omega arith) d
runs_quiet h (f_choice_right d) = runs_quiet (omega arith) d
runs_quiet h (f_compensation d) = absurd (omega arith)
runs_quiet h (f_compensation_fails d) = absurd (omega arith)
runs_quiet h (f_handler d) = runs_quiet (omega arith) d
runs_quiet h (f_handler_fails d c e z) = not_quiet (runs_quiet (omega arith) d)

quiet_run : (P : Process) → levels P ≤ 0 → (P' : Process) × Forward P [] ok P'
quiet_run done h = (done, f_done)
quiet_run (leaf n k) h = absurd (omega arith)
quiet_run (node sequence P Q) h = let (P', d) = quiet_run P (omega arith) in let (Q', e) = quiet_run Q (omega arith) in (node sequence Q' P', f_sequence d e refl)
quiet_run (node parallel P Q) h = let (P', d) = quiet_run P (omega arith) in let (Q', e) = quiet_run Q (omega arith) in (node parallel P' Q', f_parallel d e neither refl)
quiet_run (node choice P Q) h = let (P', d) = quiet_run P (omega arith) in (P', f_choice_left d)
quiet_run (node compensation P Q) h = absurd (omega arith)
quiet_run (node handler P Q) h = let (P', d) = quiet_run P (omega arith) in (P', f_handler d)

-- the levels above hold nothing, and may be cut off
quiet_levels : {p : Run} {s : Status} (rs : List Run) → Quiet p s → whole rs ≡ [] → p ++ whole rs ≡ []
quiet_levels rs quiet x = x

pub no_levels : {P : Process} {c : Code} {rs : List Run} → levels P ≤ 0 → Levels P c rs → whole rs ≡ []
no_levels h l_none = refl
no_levels h (l_run {rs = rs} d l) = quiet_levels rs (runs_quiet h d) (no_levels (omega (arith, undo_levels_lem d)) l)

pub cut_levels : (n : ℕ) {P : Process} {c : Code} {rs : List Run} → Levels P c rs → Levels P (take n c) (take n rs)
cut_levels zero l = l_none
cut_levels (suc n) l_none = l_none
cut_levels (suc n) (l_run d l) = l_run d (cut_levels n l)

pub cut_whole : (n : ℕ) {P : Process} {c : Code} {rs : List Run} → levels P ≤ n → Levels P c rs → whole (take n rs) ≡ whole rs
cut_whole zero h l = sym (no_levels h l)
cut_whole (suc n) h l_none = refl
cut_whole (suc n) h (l_run {p = p} d l) = ap (λ r. p ++ r) (cut_whole n (omega (arith, undo_levels_lem d)) l)

pub end_levels : (n : ℕ) {P : Process} {c : Code} {rs : List Run} → levels P ≤ n → Levels P c rs → (ps : List Run) × Levels P (ended n c) ps × (whole ps ≡ whole rs)
end_levels zero {P} h l_none = ([] ∷ [], l_run (quiet_run P h).1 l_none, refl)
end_levels (suc n) h l_none = ([], l_none, refl)
end_levels n h (l_run {p = p} {s = ok} {rs = rs} d l) = (p ∷ rs, l_run d l, refl)
end_levels zero h (l_run {p = p} {s = fail} {rs = rs} d l) = (p ∷ rs, l_run d l, refl)
end_levels (suc n) h (l_run {p = p} {s = fail} d l) = let (ps, m, x) = end_levels n (omega (arith, undo_levels_lem d)) l in (p ∷ ps, l_run d m, ap (λ r. p ++ r) x)
