-- The forward runs of a leaf and of the five forms, and so every process of any undo depth: by recursion on the depth, then on the
-- process.
use mathlib.Core.Path.{◌≡◌, refl, sym, ◌∙◌, ap}
use mathlib.Core.List.{[], ◌++◌, append_assoc}
use mathlib.Core.Bool.{Bool, true, false, not, cond}
use mathlib.Core.Logic.{inl, inr}
use Prim.Native.Nat.{ℕ, zero, suc}
use Rattle.process.specs.Process.{Status, ok, fail, Kind, finishes, fails, either, Permits, Form, sequence, parallel, choice, compensation, handler, Process, done, leaf, node, Run}
use Rattle.process.specs.Figure2.{both, Interleaving, Forward, f_leaf, f_sequence, f_sequence_fails, f_parallel, f_choice_left, f_choice_right, f_compensation, f_compensation_fails, f_handler, f_handler_fails, Complete, c_fail}
use Rattle.runs.specs.declared.Ended.{Ended}
use Rattle.runs.specs.declared.Ended.TheVariants.{Open, Succeeded, Failed}
use Rattle.runs.specs.Cells.{ending, sequence_ended, parallel_ended, handler_ended}
use Rattle.runs.proofs.Endings.{not_open, ending_one, ParallelEnds, parallel_ends}
use Rattle.runs.proofs.Marked.{Marked, m_done, m_node, fresh, unmarked, has_begun, ended_as, in_sequence, in_parallel, undo, WholeEnds, ends_ok, Mode, forward, whole, at_leaf, Steps, still, first, in_turn, Reached, r_waits, r_leaf, r_left, r_both, r_going, r_undoing}
use Rattle.process.proofs.Interleavings as interleavings
use Rattle.runs.proofs.Alike.{alike, joined_stands}
use Rattle.runs.proofs.Undo.{Within, left_within, right_within, UndoWithin, joined_done}
use Rattle.runs.proofs.Reached.{unmarked_fresh, fresh_begun, fresh_open, fresh_undo, reach_fresh, not_begun, interleaved, whole_failed}
use Rattle.runs.proofs.Whole.{join, joins, reach_steps, steps_left, steps_right, steps_both, steps_going, RunsTo, RanTo, CanEnd, ForwardRuns, WholeRuns, whole_runs, whole_done}
use Rattle.process.specs.Leaves.{AsWritten}

waits : (Q : Process) → not (has_begun (fresh Q)) ≡ true
waits Q = ap not (fresh_begun Q)

pub permitted : (k : Kind) → (s : Status) × Permits k s
permitted finishes = (ok, refl)
permitted fails = (fail, refl)
permitted either = (ok, refl)

leaf_runs : (n : ℕ) (k : Kind) → ForwardRuns (leaf n k)
leaf_runs n k = record { to = λ f. tos f; from = λ s r h. froms s r h; go = λ r. gos r }
  where
    tos : {p : Run} {s : Status} {P' : Process} → Forward (leaf n k) p s P' → RunsTo (leaf n k) p s P'
    tos (f_leaf m) = (_, first (at_leaf m) still, refl, (done, refl, alike))

    froms : {p : Run} (s : Status) {T : Marked} → Reached forward (leaf n k) p T → ended_as T ≡ ending s → RanTo (leaf n k) p s T
    froms s r_waits h = not_open s refl h
    froms s (r_leaf {s = t} m e) h = let j = ending_one t s (e ∙ h) in rw (← j) (_, f_leaf m, (done, refl, alike))

    gos : {p : Run} {T : Marked} → Reached forward (leaf n k) p T → CanEnd T
    gos r_waits = let (s, h) = permitted k in (_, _, s, first (at_leaf h) still, refl)
    gos (r_leaf {s = s} m e) = ([], _, s, still, sym e)

-- A process that has ended has begun.
ended_begun : {m : Mode} {Q : Process} {q : Run} {B : Marked} (s : Status) → AsWritten Q → Reached m Q q B → ended_as B ≡ ending s → has_begun B ≡ true
ended_begun {Q = Q} {B = B} s w r h = by (has_begun B) refl
  where
    by : (b : Bool) → has_begun B ≡ b → has_begun B ≡ true
    by true e = e
    by false e = not_open s (ap ended_as (not_begun r e).1 ∙ fresh_open Q w) h

-- How a parallel ends.
both_ended : (s t : Status) → parallel_ended (ending s) (ending t) ≡ ending (both s t)
both_ended ok t = refl
both_ended fail ok = refl
both_ended fail fail = refl

module _ {P Q : Process} (wP : AsWritten P) (wQ : AsWritten Q) (FP : ForwardRuns P) where
  compensation_runs : ForwardRuns (node compensation P Q)
  compensation_runs = record { to = λ f. tos f; from = λ s r h. froms s r h; go = λ r. gos r }
    where
      tos : {p : Run} {s : Status} {P' : Process} → Forward (node compensation P Q) p s P' → RunsTo (node compensation P Q) p s P'
      tos (f_compensation a) = let (A, r, h, u) = FP.to a in (m_node compensation A (fresh Q), steps_left refl r, h, rw h (Q, refl, alike))
      tos (f_compensation_fails a) = let (A, r, h, u) = FP.to a in (m_node compensation A (fresh Q), steps_left refl r, h, rw h u)

      by : {p : Run} {A : Marked} (s : Status) → Reached forward P p A → ended_as A ≡ ending s → RanTo (node compensation P Q) p s (m_node compensation A (fresh Q))
      by ok r h = let (P', a, u) = FP.from ok r h in (Q, f_compensation a, rw h (Q, refl, alike))
      by fail r h = let (P', a, u) = FP.from fail r h in (P', f_compensation_fails a, rw h u)

      froms : {p : Run} (s : Status) {T : Marked} → Reached forward (node compensation P Q) p T → ended_as T ≡ ending s → RanTo (node compensation P Q) p s T
      froms s (r_left r) h = by s r h
      froms s (r_both g r t m) h = absurd g

      gos : {p : Run} {T : Marked} → Reached forward (node compensation P Q) p T → CanEnd T
      gos (r_left r) = let (z, A, s, t, h) = FP.go r in (z, _, s, steps_left refl t, h)
      gos (r_both g r t m) = absurd g

  module _ (FQ : ForwardRuns Q) where
    sequence_runs : ForwardRuns (node sequence P Q)
    sequence_runs = record { to = λ f. tos f; from = λ s r h. froms s r h; go = λ r. gos r }
      where
        tos : {p : Run} {s : Status} {P' : Process} → Forward (node sequence P Q) p s P' → RunsTo (node sequence P Q) p s P'
        tos (f_sequence a b e) =
            let (A, r, h, u) = FP.to a in
            let (B, t, i, v) = FQ.to b in
            (m_node sequence A B, joins (steps_left (waits Q) r) (steps_right h t) e, rw h i, joined_stands in_sequence v u)
        tos (f_sequence_fails a) = let (A, r, h, u) = FP.to a in (m_node sequence A (fresh Q), steps_left (waits Q) r, rw h, rw (fresh_undo Q wQ) u)

        left_alone : {A : Marked} {p : Run} (s : Status) → Reached forward P p A → (x : Ended) → ended_as A ≡ x → sequence_ended x (ended_as (fresh Q)) ≡ ending s → RanTo (node sequence P Q) p s (m_node sequence A (fresh Q))
        left_alone s r Open e h = not_open s refl h
        left_alone s r Succeeded e h = not_open s (fresh_open Q wQ) h
        left_alone s r Failed e h = let j = ending_one fail s h in rw (← j) (let (P', a, u) = FP.from fail r e in (P', f_sequence_fails a, rw (fresh_undo Q wQ) u))

        froms : {p : Run} (s : Status) {T : Marked} → Reached forward (node sequence P Q) p T → ended_as T ≡ ending s → RanTo (node sequence P Q) p s T
        froms s (r_left {A = A} r) h = left_alone s r (ended_as A) refl h
        froms s (r_both f r t (in_turn e)) h =
            let (P', a, u) = FP.from ok r f in
            let (Q', b, v) = FQ.from s t (rw f at h) in
            (node sequence Q' P', f_sequence a b e, joined_stands in_sequence v u)

        go_on : {A A' : Marked} {z : Run} (s : Status) → Steps forward A z A' → ended_as A' ≡ ending s → CanEnd (m_node sequence A (fresh Q))
        go_on ok r h = let (z, B, s, t, i) = FQ.go (reach_fresh Q) in (_, _, s, join (steps_left (waits Q) r) (steps_right h t), rw h i)
        go_on fail r h = (_, _, fail, steps_left (waits Q) r, rw h)

        gos : {p : Run} {T : Marked} → Reached forward (node sequence P Q) p T → CanEnd T
        gos (r_left r) = let (z, A, s, t, h) = FP.go r in go_on s t h
        gos (r_both f r t e) = let (z, B, s, t', h) = FQ.go t in (z, _, s, steps_right f t', rw f h)

    parallel_runs : ForwardRuns (node parallel P Q)
    parallel_runs = record { to = λ f. tos f; from = λ s r h. froms s r h; go = λ r. gos r }
      where
        tos : {p : Run} {s : Status} {P' : Process} → Forward (node parallel P Q) p s P' → RunsTo (node parallel P Q) p s P'
        tos (f_parallel {s = s} {t = t} a b m e) =
            let (A, r, h, u) = FP.to a in
            let (B, r', i, v) = FQ.to b in
            (m_node parallel A B, steps_both m r r', rw (h, i) (both_ended s t ∙ ap ending e), joined_stands in_parallel u v)

        by : {A B : Marked} {p q r : Run} {u : Status} → Interleaving p q r → Reached forward P p A → Reached forward Q q B → ParallelEnds (ended_as A) (ended_as B) u → RanTo (node parallel P Q) r u (m_node parallel A B)
        by m c d x =
            let (P', a, u) = FP.from x.left c x.left_ends in
            let (Q', b, v) = FQ.from x.right d x.right_ends in
            (_, f_parallel a b m x.is_both, joined_stands in_parallel u v)

        froms : {p : Run} (s : Status) {T : Marked} → Reached forward (node parallel P Q) p T → ended_as T ≡ ending s → RanTo (node parallel P Q) p s T
        froms s (r_left {A = A} r) h = by (interleavings.left_alone _) r (reach_fresh Q) (parallel_ends (ended_as A) (ended_as (fresh Q)) s h)
        froms s (r_both {A = A} {B = B} g r t m) h = by (interleaved m) r t (parallel_ends (ended_as A) (ended_as B) s h)

        go_both : {A B : Marked} {p q : Run} → Reached forward P p A → Reached forward Q q B → CanEnd (m_node parallel A B)
        go_both c d =
            let (z, A, s, a, h) = FP.go c in
            let (v, B, t, b, i) = FQ.go d in
            (z ++ v, m_node parallel A B, both s t, steps_both (interleavings.in_turn z v) a b, rw (h, i) (both_ended s t))

        gos : {p : Run} {T : Marked} → Reached forward (node parallel P Q) p T → CanEnd T
        gos (r_left r) = go_both r (reach_fresh Q)
        gos (r_both g r t m) = go_both r t

    choice_runs : ForwardRuns (node choice P Q)
    choice_runs = record { to = λ f. tos f; from = λ s r h. froms s r h; go = λ r. gos r }
      where
        tos : {p : Run} {s : Status} {P' : Process} → Forward (node choice P Q) p s P' → RunsTo (node choice P Q) p s P'
        tos (f_choice_left a) = let (A, r, h, u) = FP.to a in (_, steps_left (waits Q) r, rw (fresh_begun Q) h, rw (fresh_undo Q wQ) u)
        tos (f_choice_right {t = t} b) = let (B, r, h, u) = FQ.to b in (_, steps_right (fresh_begun P) r, rw (ended_begun t wQ (reach_steps r (reach_fresh Q)) h) h, rw (fresh_undo P wP, joined_done sequence (undo B)) u)

        by : {q : Run} (s : Status) {B : Marked} → Reached forward Q q B → (b : Bool) → cond b (ended_as B) (ended_as (fresh P)) ≡ ending s → RanTo (node choice P Q) q s (m_node choice (fresh P) B)
        by s {B} t true h = let (Q', b, u) = FQ.from s t h in (Q', f_choice_right b, rw (fresh_undo P wP, joined_done sequence (undo B)) u)
        by s t false h = not_open s (fresh_open P wP) h

        froms : {p : Run} (s : Status) {T : Marked} → Reached forward (node choice P Q) p T → ended_as T ≡ ending s → RanTo (node choice P Q) p s T
        froms s (r_left r) h = let (P', a, u) = FP.from s r (rw (fresh_begun Q) at h) in (P', f_choice_left a, rw (fresh_undo Q wQ) u)
        froms s (r_both {p = p} {q = q} {B = B} g r t (in_turn m)) h = let z = not_begun r g in rw (← m, z.0, z.1) (by s t (has_begun B) (rw z.1 at h))

        gos : {p : Run} {T : Marked} → Reached forward (node choice P Q) p T → CanEnd T
        gos (r_left r) = let (z, A, s, t, h) = FP.go r in (z, _, s, steps_left (waits Q) t, rw (fresh_begun Q) h)
        gos (r_both g r t m) = let (z, B, s, t', h) = FQ.go t in (z, _, s, steps_right g t', rw (ended_begun s wQ (reach_steps t' t) h) h)

    module _ (WP : WholeRuns P) where
      handled : {p q r : Run} {t : Status} {Q' : Process} → Complete P p fail → Forward Q q t Q' → p ++ q ≡ r → Forward (node handler P Q) r t Q'
      handled (c_fail f c e) b i = f_handler_fails f c b (rw (← e, append_assoc) at i)

      handler_runs : ForwardRuns (node handler P Q)
      handler_runs = record { to = λ f. tos f; from = λ s r h. froms s r h; go = λ r. gos r }
        where
          tos : {p : Run} {s : Status} {P' : Process} → Forward (node handler P Q) p s P' → RunsTo (node handler P Q) p s P'
          tos (f_handler a) = let (A, r, h, u) = FP.to a in (_, steps_left (waits Q) (steps_going (reach_fresh P) r), rw h, rw h u)
          tos (f_handler_fails {p = p} {p' = p'} {q = q} a c b e) =
              let (A, r, x) = WP.to (c_fail a c refl) in
              let (B, r', h, u) = FQ.to b in
              (m_node handler A B, joins (steps_left (waits Q) r) (steps_right x r') (append_assoc p p' q ∙ e), rw (whole_failed x) h, rw (whole_failed x) u)

          by : {p : Run} (s : Status) {A : Marked} → Reached forward P p A → (x : Ended) → ended_as A ≡ x → handler_ended x (ended_as (fresh Q)) ≡ ending s → RanTo (node handler P Q) p s (m_node handler A (fresh Q))
          by s r Open e h = not_open s refl h
          by s r Succeeded e h = let j = ending_one ok s h in rw (← j) (let (P', a, u) = FP.from ok r e in (P', f_handler a, rw e u))
          by s r Failed e h = not_open s (fresh_open Q wQ) h

          left_alone : {p : Run} (s : Status) {A : Marked} → Reached whole P p A → handler_ended (ended_as A) (ended_as (fresh Q)) ≡ ending s → RanTo (node handler P Q) p s (m_node handler A (fresh Q))
          left_alone s (r_going {T = A} r) h = by s r (ended_as A) refl h
          left_alone s (r_undoing r f t g i e) h = not_open s (fresh_open Q wQ) (rw g at h)

          froms : {p : Run} (s : Status) {T : Marked} → Reached forward (node handler P Q) p T → ended_as T ≡ ending s → RanTo (node handler P Q) p s T
          froms s (r_left r) h = left_alone s r h
          froms s (r_both x r t (in_turn e)) h = let (Q', b, u) = FQ.from s t (rw (whole_failed x) at h) in (Q', handled (WP.from r x) b e, rw (whole_failed x) u)

          go_right : {A B : Marked} {q : Run} → WholeEnds A fail → Reached forward Q q B → CanEnd (m_node handler A B)
          go_right x t = let (z, B, s, t', h) = FQ.go t in (z, _, s, steps_right x t', rw (whole_failed x) h)

          go_on : {A A' : Marked} {z : Run} {s : Status} → Steps whole A z A' → WholeEnds A' s → CanEnd (m_node handler A (fresh Q))
          go_on {s = ok} r (ends_ok h) = (_, _, ok, steps_left (waits Q) r, rw h)
          go_on {s = fail} r x = let (z, T, s, t, h) = go_right x (reach_fresh Q) in (_, T, s, join (steps_left (waits Q) r) t, h)

          gos : {p : Run} {T : Marked} → Reached forward (node handler P Q) p T → CanEnd T
          gos (r_left r) = let (z, A, s, t, x) = WP.go r in go_on t x
          gos (r_both x r t e) = go_right x t

node_runs : (f : Form) {P Q : Process} → AsWritten P → AsWritten Q → ForwardRuns P → ForwardRuns Q → (ForwardRuns P → WholeRuns P) → ForwardRuns (node f P Q)
node_runs sequence wP wQ FP FQ W = sequence_runs wP wQ FP FQ
node_runs parallel wP wQ FP FQ W = parallel_runs wP wQ FP FQ
node_runs choice wP wQ FP FQ W = choice_runs wP wQ FP FQ
node_runs compensation wP wQ FP FQ W = compensation_runs wP wQ FP
node_runs handler wP wQ FP FQ W = handler_runs wP wQ FP FQ (W FP)

module _ (k : ℕ) (less_deep : (N : Process) → UndoWithin k (fresh N) → WholeRuns N) where
  forward_runs : (P : Process) → Within k P → ForwardRuns P
  forward_runs done g = absurd g.written
  forward_runs (leaf n kind) g = leaf_runs n kind
  forward_runs (node f P Q) g = node_runs f g.written.0 g.written.1 (forward_runs P (left_within g)) (forward_runs Q (right_within g)) (λ F. whole_runs k P (left_within g) F less_deep)

fresh_done : (N : Process) → fresh N ≡ m_done → WholeRuns N
fresh_done N e = let d : done ≡ N = ap unmarked (sym e) ∙ unmarked_fresh N in rw (← d) whole_done

undo_runs : (k : ℕ) (N : Process) → UndoWithin k (fresh N) → WholeRuns N
undo_runs zero N e = fresh_done N e
undo_runs (suc k) N (inl e) = fresh_done N e
undo_runs (suc k) N (inr g) = let h = rw (unmarked_fresh N) at g in whole_runs k N h (forward_runs k (λ M u. undo_runs k M u) N h) (λ M u. undo_runs k M u)

-- Any undo depth.
pub all_runs : (k : ℕ) (P : Process) → Within k P → WholeRuns P
all_runs k P g = whole_runs k P g (forward_runs k (undo_runs k) P g) (undo_runs k)
