-- The runs of a process level by level: its forward run, its undo's, the undo's undo's, .. A complete run is the levels of a code that
-- ends, put end to end. The levels of a node are those of its sides, joined as the chart says, and no others.
use mathlib.Core.Path.{◌≡◌, refl, ap}
use mathlib.Core.Bool.{Bool, true, false}
use mathlib.Core.List.{List, [], ◌∷◌, ◌++◌, append-nil, append_assoc}
use Rattle.process.specs.Process.{Status, ok, fail, Form, sequence, parallel, choice, compensation, handler, Process, node, Run}
use Rattle.process.specs.Figure2.{Interleaving, neither, Forward, f_sequence, f_sequence_fails, f_parallel, f_choice_left, f_choice_right, f_compensation, f_compensation_fails, f_handler, f_handler_fails, Complete, c_ok, c_fail}
use Rattle.outcomes.specs.Codes.{Code, Ends, ends_ok, ends_fail}
use Rattle.outcomes.specs.Chart.{Join, j_none, j_sequence, j_sequence_fails, j_parallel, j_choice_left, j_choice_right, j_compensation, j_compensation_fails, j_handler, j_handler_fails}
use Rattle.process.proofs.Interleavings.{left_alone, right_alone, in_turn, swap, end_to_end}

-- P has the code c by the runs rs, one for each level
pub data Levels : Process → Code → List Run → Type 0 where
  l_none : {P : Process} → Levels P [] []
  l_run : {P P' : Process} {p : Run} {s : Status} {c : Code} {rs : List Run} → Forward P p s P' → Levels P' c rs → Levels P (s ∷ c) (p ∷ rs)

-- the levels put end to end
abbrev pub whole : List Run → Run
whole [] = []
whole (p ∷ rs) = p ++ whole rs

-- complete runs
pub complete_run : {P : Process} {c : Code} {s : Status} {rs : List Run} → Ends c s → Levels P c rs → Complete P (whole rs) s
complete_run ends_ok (l_run d l_none) = rw append-nil (c_ok d)
complete_run (ends_fail e) (l_run d l) = c_fail d (complete_run e l) refl

pub levels_of : {P : Process} {r : Run} {s : Status} → Complete P r s → (c : Code) × (rs : List Run) × Ends c s × Levels P c rs × (whole rs ≡ r)
levels_of (c_ok {p = p} d) = (ok ∷ [], p ∷ [], ends_ok, l_run d l_none, append-nil p)
levels_of (c_fail {p = p} d e z) = let (c, rs, e', l, x) = levels_of e in (fail ∷ c, p ∷ rs, ends_fail e', l_run d l, rw x z)

-- The levels of a node from those of its sides. Sequence: left, right; undone right, left (`true`: the left is first at this level).
-- Parallel: left, then right. Compensation: the right's levels stand above the left's. Handler: the whole left, then the right.
abbrev pub joined : Form → Bool → List Run → List Run → List Run
joined f o [] qs = qs
joined f o (p ∷ ps) [] = p ∷ ps
joined sequence true (p ∷ ps) (q ∷ qs) = (p ++ q) ∷ joined sequence false ps qs
joined sequence false (p ∷ ps) (q ∷ qs) = (q ++ p) ∷ joined sequence true ps qs
joined parallel o (p ∷ ps) (q ∷ qs) = (p ++ q) ∷ joined parallel o ps qs
joined choice o (p ∷ ps) (q ∷ qs) = (p ++ q) ∷ joined choice o ps qs
joined compensation o (p ∷ ps) (q ∷ qs) = p ∷ joined compensation o ps (q ∷ qs)
joined handler o (p ∷ ps) (q ∷ qs) = (p ++ (whole ps ++ q)) ∷ qs

regrouped : (p p' q q' : Run) → (p ++ (p' ++ q)) ++ q' ≡ (p ++ p') ++ (q ++ q')
regrouped p p' q q' = simp append_assoc

handled : (p p' q q' : Run) → Interleaving (p ++ p') (q ++ q') ((p ++ (p' ++ q)) ++ q')
handled p p' q q' = rw (regrouped p p' q q') (in_turn (p ++ p') (q ++ q'))

pub joined_interleaves : (f : Form) (o : Bool) (ps qs : List Run) → Interleaving (whole ps) (whole qs) (whole (joined f o ps qs))
joined_interleaves f o [] qs = right_alone (whole qs)
joined_interleaves f o (p ∷ ps) [] = left_alone (p ++ whole ps)
joined_interleaves sequence true (p ∷ ps) (q ∷ qs) = end_to_end (in_turn p q) (joined_interleaves sequence false ps qs)
joined_interleaves sequence false (p ∷ ps) (q ∷ qs) = end_to_end (swap (in_turn q p)) (joined_interleaves sequence true ps qs)
joined_interleaves parallel o (p ∷ ps) (q ∷ qs) = end_to_end (in_turn p q) (joined_interleaves parallel o ps qs)
joined_interleaves choice o (p ∷ ps) (q ∷ qs) = end_to_end (in_turn p q) (joined_interleaves choice o ps qs)
joined_interleaves compensation o (p ∷ ps) (q ∷ qs) = end_to_end (left_alone p) (joined_interleaves compensation o ps (q ∷ qs))
joined_interleaves handler o (p ∷ ps) (q ∷ qs) = handled p (whole ps) q (whole qs)

-- the other order is the order of the other side
turned : (ps qs : List Run) → (joined sequence true qs ps ≡ joined sequence false ps qs) × (joined sequence false qs ps ≡ joined sequence true ps qs)
turned [] [] = (refl, refl)
turned [] (q ∷ qs) = (refl, refl)
turned (p ∷ ps) [] = (refl, refl)
turned (p ∷ ps) (q ∷ qs) = let (x, y) = turned ps qs in (ap (λ rs. (q ++ p) ∷ rs) y, ap (λ rs. (p ++ q) ∷ rs) x)

pub join_levels : {f : Form} {P Q : Process} {a b c : Code} {ps qs : List Run} → Join f a b c → Levels P a ps → Levels Q b qs → Levels (node f P Q) c (joined f true ps qs)
join_levels j_none l_none l_none = l_none
join_levels (j_sequence j) (l_run {rs = ps} d l) (l_run {rs = qs} e m) = l_run (f_sequence d e refl) (rw (turned ps qs).0 at (join_levels j m l))
join_levels j_sequence_fails (l_run d l) l_none = l_run (f_sequence_fails d) l
join_levels (j_parallel j z) (l_run {p = p} d l) (l_run {p = q} e m) = l_run (f_parallel d e (in_turn p q) z) (join_levels j l m)
join_levels j_choice_left (l_run d l) l_none = l_run (f_choice_left d) l
join_levels j_choice_right l_none (l_run d l) = l_run (f_choice_right d) l
join_levels j_compensation (l_run d l_none) l_none = l_run (f_compensation d) l_none
join_levels j_compensation (l_run d l_none) (l_run e m) = l_run (f_compensation d) (l_run e m)
join_levels j_compensation_fails (l_run d l) l_none = l_run (f_compensation_fails d) l
join_levels j_handler (l_run d l) l_none = l_run (f_handler d) l
join_levels (j_handler_fails h) (l_run d l) (l_run e m) = l_run (f_handler_fails d (complete_run h l) e refl) m

-- and back: the levels of a node split into those of its sides
pub data Parts (f : Form) (P Q : Process) (c : Code) (r : Run) : Type 0 where
  parts : {a b : Code} {ps qs : List Run} → Levels P a ps → Levels Q b qs → Join f a b c → Interleaving (whole ps) (whole qs) r → Parts f P Q c r

left_part : {f : Form} {P Q : Process} {a c : Code} {ps : List Run} → Levels P a ps → Join f a [] c → Parts f P Q c (whole ps)
left_part {ps = ps} l j = parts l l_none j (left_alone (whole ps))

right_part : {f : Form} {P Q : Process} {b c : Code} {qs : List Run} → Levels Q b qs → Join f [] b c → Parts f P Q c (whole qs)
right_part {qs = qs} l j = parts l_none l j (right_alone (whole qs))

pub split : {f : Form} {P Q : Process} {c : Code} {rs : List Run} → Levels (node f P Q) c rs → Parts f P Q c (whole rs)
split l_none = parts l_none l_none j_none neither
split (l_run (f_sequence {p = p} {q = q} d e z) l) = elim (split l) [ parts m k j i ↦ parts (l_run d k) (l_run e m) (j_sequence j) (end_to_end (rw z at (in_turn p q)) (swap i)) ]
split (l_run (f_sequence_fails d) l) = left_part (l_run d l) j_sequence_fails
split (l_run (f_parallel d e k z) l) = elim (split l) [ parts m n j i ↦ parts (l_run d m) (l_run e n) (j_parallel j z) (end_to_end k i) ]
split (l_run (f_choice_left d) l) = left_part (l_run d l) j_choice_left
split (l_run (f_choice_right d) l) = right_part (l_run d l) j_choice_right
split (l_run (f_compensation {p = p} d) l) = parts (l_run d l_none) l j_compensation (end_to_end (left_alone p) (right_alone _))
split (l_run (f_compensation_fails d) l) = left_part (l_run d l) j_compensation_fails
split (l_run (f_handler d) l) = left_part (l_run d l) j_handler
split (l_run {rs = qs} (f_handler_fails {p = p} {q = q} {r = r} d e h z) l) =
    let (c, ps, x, m, y) = levels_of e in
    let w : p ++ (whole ps ++ q) ≡ r = rw y z in
    parts (l_run d m) (l_run h l) (j_handler_fails x) (rw w at (handled p (whole ps) q (whole qs)))
