-- From the forward runs of a process to its complete runs. Runs and reached trees agree: each run leads to a tree that has ended so,
-- a reached tree that has ended was reached by a run, and each reached tree can be brought to an end. What holds of the process going
-- forward, and of every less deep undo, holds of the process run with its undo.
use mathlib.Core.Path.{◌≡◌, refl, sym, ◌∙◌, ap}
use mathlib.Core.List.{[], ◌∷◌, ◌++◌, append_assoc, append-nil}
use Prim.Native.Nat.{ℕ}
use Rattle.process.specs.Process.{Status, ok, fail, Form, parallel, Process, done, entry, Run}
use Rattle.process.specs.Figure2.{Interleaving, neither, from_left, from_right, Forward, f_done, Complete, c_ok, c_fail}
use Rattle.runs.specs.declared.Ended.TheVariants.{Failed}
use Rattle.runs.specs.Cells.{ending}
use Rattle.runs.proofs.Endings.{not_failed}
use Rattle.runs.proofs.Marked.{Marked, m_done, m_node, fresh, unmarked, ended_as, undo, WholeEnds, ends_ok, ends_fail, mark, LeftMay, RightMay, Mode, forward, whole, left_mode, on_left, on_right, going, undoing, Steps, still, first, Reached, r_done, r_going, r_undoing}
use Rattle.runs.proofs.Alike.{StandsFor, back, alike_complete}
use Rattle.runs.proofs.Undo.{Within, UndoWithin, undo_within, undo_step, unmarked_mark}
use Rattle.runs.proofs.Reached.{unmarked_fresh, reach_fresh, undo_not_begun, reached_process, reach_step}

-- Steps, put together and lifted to a composite.
module _ {m : Mode} where
  pub join : {A B C : Marked} {p q : Run} → Steps m A p B → Steps m B q C → Steps m A (p ++ q) C
  join still t = t
  join (first s r) t = first s (join r t)

  pub split : {A C : Marked} (p : Run) {q : Run} → Steps m A (p ++ q) C → (B : Marked) × Steps m A p B × Steps m B q C
  split [] r = (_, still, r)
  split (e ∷ p) (first s r) = let z = split p r in (z.0, first s z.1, z.2)

  pub joins : {A B C : Marked} {p q r : Run} → Steps m A p B → Steps m B q C → p ++ q ≡ r → Steps m A r C
  joins x y e = rw e at (join x y)

  pub reach_steps : {P : Process} {w z : Run} {T T' : Marked} → Steps m T z T' → Reached m P w T → Reached m P (w ++ z) T'
  reach_steps {w} still r = rw append-nil r
  reach_steps {w} (first s t) r = rw append_assoc at (reach_steps t (reach_step s r))

pub steps_left : {f : Form} {A A' B : Marked} {w : Run} → LeftMay f B → Steps (left_mode f) A w A' → Steps forward (m_node f A B) w (m_node f A' B)
steps_left h still = still
steps_left h (first s r) = first (on_left h s) (steps_left h r)

pub steps_right : {f : Form} {A B B' : Marked} {w : Run} → RightMay f A → Steps forward B w B' → Steps forward (m_node f A B) w (m_node f A B')
steps_right h still = still
steps_right h (first s r) = first (on_right h s) (steps_right h r)

pub steps_both : {p q r : Run} {A A' B B' : Marked} → Interleaving p q r → Steps forward A p A' → Steps forward B q B' → Steps forward (m_node parallel A B) r (m_node parallel A' B')
steps_both neither still still = still
steps_both (from_left i) (first s a) b = first (on_left refl s) (steps_both i a b)
steps_both (from_right i) a (first s b) = first (on_right tt s) (steps_both i a b)

pub steps_going : {P : Process} {w z : Run} {T T' : Marked} → Reached forward P w T → Steps forward T z T' → Steps whole T z T'
steps_going r still = still
steps_going r (first s t) = first (going (undo_not_begun r) s) (steps_going (reach_step s r) t)

steps_undoing : (k : ℕ) (A : Marked) {X U : Marked} {w : Run} → Within k (unmarked A) → ended_as A ≡ Failed → Steps whole X w U → X ≡ undo A → (A' : Marked) × Steps whole A w A' × (ended_as A' ≡ Failed) × (U ≡ undo A')
steps_undoing k A g f still e = (A, still, f, e)
steps_undoing k A g f (first {e = entry n s} x r) e =
    let x' = rw e at x in
    let m = undo_step k A g x' in
    let (A', r', f', u) = steps_undoing k (mark n s A) (rw (unmarked_mark n s A) g) (m.same_end ∙ f) r (sym m.new_undo) in
    (A', first (undoing f x' m) r', f', u)

-- Runs and reached trees, going forward.
abbrev pub RunsTo : Process → Run → Status → Process → Type 0
RunsTo P p s P' = (T : Marked) × Steps forward (fresh P) p T × (ended_as T ≡ ending s) × StandsFor (undo T) P'

abbrev pub RanTo : Process → Run → Status → Marked → Type 0
RanTo P p s T = (P' : Process) × Forward P p s P' × StandsFor (undo T) P'

abbrev pub CanEnd : Marked → Type 0
CanEnd T = (z : Run) × (T' : Marked) × (s : Status) × Steps forward T z T' × (ended_as T' ≡ ending s)

pub record ForwardRuns (P : Process) : Type 0 where
  pub to : {p : Run} {s : Status} {P' : Process} → Forward P p s P' → RunsTo P p s P'
  pub from : {p : Run} (s : Status) {T : Marked} → Reached forward P p T → ended_as T ≡ ending s → RanTo P p s T
  pub go : {p : Run} {T : Marked} → Reached forward P p T → CanEnd T

-- The same with the undo.
abbrev WholeCanEnd : Marked → Type 0
WholeCanEnd T = (z : Run) × (T' : Marked) × (s : Status) × Steps whole T z T' × WholeEnds T' s

pub record WholeRuns (P : Process) : Type 0 where
  pub to : {p : Run} {s : Status} → Complete P p s → (T : Marked) × Steps whole (fresh P) p T × WholeEnds T s
  pub from : {p : Run} {s : Status} {T : Marked} → Reached whole P p T → WholeEnds T s → Complete P p s
  pub go : {p : Run} {T : Marked} → Reached whole P p T → WholeCanEnd T

module _ (k : ℕ) (P : Process) (g : Within k P) (F : ForwardRuns P) (less_deep : (N : Process) → UndoWithin k (fresh N) → WholeRuns N) where
  undo_runs : (T : Marked) (N : Process) → unmarked T ≡ P → undo T ≡ fresh N → WholeRuns N
  undo_runs T N e u = less_deep N (rw u at (undo_within k T (rw e g)))

  to_whole : {p : Run} {s : Status} → Complete P p s → (T : Marked) × Steps whole (fresh P) p T × WholeEnds T s
  to_whole (c_ok f) = let (T, r, h, u) = F.to f in (T, steps_going (reach_fresh P) r, ends_ok h)
  to_whole (c_fail f c e) =
      let (T, r, h, u) = F.to f in
      let i = reached_process (reach_steps r (reach_fresh P)) in
      let (U, r', x) = (undo_runs T u.0 i u.1).to (alike_complete (back u.2) c) in
      let (A, r'', h', v) = steps_undoing k T (rw i g) h r' (sym u.1) in
      (A, joins (steps_going (reach_fresh P) r) r'' e, ends_fail h' (rw v at x))

  from_whole : {p : Run} {s : Status} {T : Marked} → Reached whole P p T → WholeEnds T s → Complete P p s
  from_whole (r_going r) (ends_ok h) = c_ok (F.from ok r h).1
  from_whole (r_going {T = T} r) (ends_fail h x) =
      let (P', f, u) = F.from fail r h in
      c_fail f (alike_complete u.2 ((undo_runs T u.0 (reached_process r) u.1).from (r_going (reach_fresh u.0)) (rw u.1 at x))) (append-nil _)
  from_whole (r_undoing r f t h i e) (ends_ok j) = not_failed j h
  from_whole (r_undoing {A = A} r f t h i e) (ends_fail j x) =
      let (P', a, u) = F.from fail r f in
      c_fail a (alike_complete u.2 ((undo_runs A u.0 (reached_process r) u.1).from (rw (u.1, unmarked_fresh u.0) at t) x)) e

  go_failed : {p : Run} {T : Marked} → Reached forward P p T → ended_as T ≡ Failed → WholeCanEnd T
  go_failed {T = T} r h =
      let (P', f, u) = F.from fail r h in
      let (z, U, s, t, x) = (undo_runs T u.0 (reached_process r) u.1).go (r_going (reach_fresh u.0)) in
      let (A, t', h', v) = steps_undoing k T (rw (reached_process r) g) h t (sym u.1) in
      (z, A, fail, t', ends_fail h' (rw v at x))

  go_ended : {p z : Run} {T T' : Marked} (s : Status) → Reached forward P p T → Steps forward T z T' → ended_as T' ≡ ending s → WholeCanEnd T
  go_ended ok r t h = (_, _, ok, steps_going r t, ends_ok h)
  go_ended fail r t h = let (z, A, s, t', x) = go_failed (reach_steps t r) h in (_, A, s, join (steps_going r t) t', x)

  go_whole : {p : Run} {T : Marked} → Reached whole P p T → WholeCanEnd T
  go_whole (r_going r) = let (z, T', s, t, h) = F.go r in go_ended s r t h
  go_whole (r_undoing {A = A} {T = T} r f t h i e) =
      let (P', a, u) = F.from fail r f in
      let (z, U, s, t', x) = (undo_runs A u.0 (reached_process r) u.1).go (rw (u.1, unmarked_fresh u.0) at t) in
      let (T', t'', h', v) = steps_undoing k T (rw i g) h t' refl in
      (z, T', fail, t'', ends_fail h' (rw v at x))

  pub whole_runs : WholeRuns P
  whole_runs = record { to = λ c. to_whole c; from = λ r x. from_whole r x; go = λ r. go_whole r }

pub whole_done : WholeRuns done
whole_done = record { to = λ c. to_done c; from = λ r x. from_done r x; go = λ r. go_done r }
  where
    no_fail : {A : Type 0} {p : Run} {s : Status} {P' : Process} → Forward done p s P' → s ≡ fail → A
    no_fail f_done e = not_failed refl (ap ending e)

    idle : {p : Run} {T : Marked} → Reached forward done p T → (p ≡ []) × (T ≡ m_done)
    idle r_done = (refl, refl)

    to_done : {p : Run} {s : Status} → Complete done p s → (T : Marked) × Steps whole m_done p T × WholeEnds T s
    to_done (c_ok f_done) = (_, still, ends_ok refl)
    to_done (c_fail f c e) = no_fail f refl

    from_done : {p : Run} {s : Status} {T : Marked} → Reached whole done p T → WholeEnds T s → Complete done p s
    from_done (r_going r_done) (ends_ok h) = c_ok f_done
    from_done (r_going r) (ends_fail h x) = not_failed refl (rw (idle r).1 at h)
    from_done (r_undoing r f t h i e) x = not_failed refl (rw (idle r).1 at f)

    go_done : {p : Run} {T : Marked} → Reached whole done p T → WholeCanEnd T
    go_done (r_going r_done) = ([], _, ok, still, ends_ok refl)
    go_done (r_undoing r f t h i e) = not_failed refl (rw (idle r).1 at f)
