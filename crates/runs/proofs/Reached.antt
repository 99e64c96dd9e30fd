-- What a run reaches. The start; a tree that has not begun is as at the start; the undo of a tree that goes forward has not begun; and
-- a step from a reached tree reaches a tree by one entry more.
use mathlib.Core.Path.{◌≡◌, refl, sym, ◌∙◌, ap, ap₂}
use mathlib.Core.List.{[], ◌∷◌, ◌++◌, append_assoc, append-nil, cons≢nil}
use mathlib.Core.Bool.{Bool, true, false, not}
use mathlib.Core.Logic.{◌⊎◌, inl, inr}
use Rattle.process.specs.Process.{fail, Form, sequence, parallel, choice, compensation, handler, Process, done, leaf, node, Entry, entry, Run}
use Rattle.process.specs.Figure2.{Interleaving, neither, from_left, from_right}
use Rattle.runs.specs.declared.Ended.{Ended}
use Rattle.runs.specs.declared.Ended.TheVariants.{Open, Succeeded, Failed}
use Rattle.runs.specs.Cells.{is_succeeded, node_begun, node_ended}
use Rattle.runs.proofs.Endings.{has_run, ending_run, not_both, of_not, not_open, not_failed, or_true, or_false}
use Rattle.runs.proofs.Marked.{Marked, m_done, m_leaf, m_node, fresh, unmarked, has_begun, ended_as, joined, undo, node_undone, WholeEnds, ends_fail, mark, RightMay, Mode, forward, whole, left_mode, Step, at_leaf, on_left, on_right, going, undoing, Merged, in_turn, mixed, Reached, r_done, r_waits, r_leaf, r_left, r_both, r_going, r_undoing}
use Rattle.process.proofs.Interleavings as interleavings
use Rattle.runs.proofs.Alike.{interleave_nil_is}
use Rattle.runs.proofs.Undo.{either_way, joined_way, unmarked_mark}
use Rattle.process.specs.Leaves.{AsWritten}

pub unmarked_fresh : (P : Process) → unmarked (fresh P) ≡ P
unmarked_fresh done = refl
unmarked_fresh (leaf n k) = refl
unmarked_fresh (node f P Q) = rw (unmarked_fresh P, unmarked_fresh Q)

-- The start.
record Starts (f : Form) : Type 0 where
  not_begun : node_begun f false false ≡ false
  is_open : node_ended f Open Open false ≡ Open
  no_undo : (B : Marked) → node_undone f Open B m_done m_done ≡ m_done

starts : (f : Form) → Starts f
starts sequence = record { not_begun = refl; is_open = refl; no_undo = λ B. refl }
starts parallel = record { not_begun = refl; is_open = refl; no_undo = λ B. refl }
starts choice = record { not_begun = refl; is_open = refl; no_undo = λ B. refl }
starts compensation = record { not_begun = refl; is_open = refl; no_undo = λ B. refl }
starts handler = record { not_begun = refl; is_open = refl; no_undo = λ B. refl }

pub fresh_begun : (P : Process) → has_begun (fresh P) ≡ false
fresh_begun done = refl
fresh_begun (leaf n k) = refl
fresh_begun (node f P Q) = rw (fresh_begun P, fresh_begun Q) (starts f).not_begun

pub fresh_open : (P : Process) → AsWritten P → ended_as (fresh P) ≡ Open
fresh_open done w = absurd w
fresh_open (leaf n k) w = refl
fresh_open (node f P Q) w = rw (fresh_open P w.0, fresh_open Q w.1, fresh_begun Q) (starts f).is_open

pub fresh_undo : (P : Process) → AsWritten P → undo (fresh P) ≡ m_done
fresh_undo done w = absurd w
fresh_undo (leaf n k) w = refl
fresh_undo (node f P Q) w = rw (fresh_open P w.0, fresh_undo P w.0, fresh_undo Q w.1) ((starts f).no_undo (fresh Q))

in_mode : (m : Mode) {P : Process} {w : Run} {T : Marked} → Reached forward P w T → Reached m P w T
in_mode forward r = r
in_mode whole r = r_going r

pub reach_fresh : (P : Process) → Reached forward P [] (fresh P)
reach_fresh done = r_done
reach_fresh (leaf n k) = r_waits
reach_fresh (node f P Q) = r_left (in_mode (left_mode f) (reach_fresh P))

-- A tree that has failed has begun.
node_failed : (f : Form) (x : Ended) (a : Bool) (y : Ended) (b : Bool) → (x ≡ Failed → a ≡ true) → (y ≡ Failed → b ≡ true) → node_ended f x y b ≡ Failed → node_begun f a b ≡ true
node_failed sequence Open a y b h i e = not_open fail refl e
node_failed sequence Succeeded a y b h i e = rw (i e) (or_true a)
node_failed sequence Failed a y b h i e = rw (h refl)
node_failed parallel Open a y b h i e = not_open fail refl e
node_failed parallel Succeeded a y b h i e = rw (i e) (or_true a)
node_failed parallel Failed a y b h i e = rw (h refl)
node_failed choice x a y true h i e = or_true a
node_failed choice x a y false h i e = rw (h e)
node_failed compensation x a y b h i e = h e
node_failed handler Open a y b h i e = not_open fail refl e
node_failed handler Succeeded a y b h i e = not_failed refl e
node_failed handler Failed a y b h i e = h refl

failed_begun : (T : Marked) → ended_as T ≡ Failed → has_begun T ≡ true
failed_begun m_done h = not_failed refl h
failed_begun (m_leaf n k o) h = rw h
failed_begun (m_node f A B) h = node_failed f (ended_as A) (has_begun A) (ended_as B) (has_begun B) (failed_begun A) (failed_begun B) h

pub whole_failed : {A : Marked} → WholeEnds A fail → ended_as A ≡ Failed
whole_failed (ends_fail h e) = h

-- A tree that has not begun has run nothing and is as at the start.
left_begun : (f : Form) (a b : Bool) → node_begun f a b ≡ false → a ≡ false
left_begun sequence a b h = (or_false a b h).0
left_begun parallel a b h = (or_false a b h).0
left_begun choice a b h = (or_false a b h).0
left_begun compensation a b h = h
left_begun handler a b h = h

right_begun : (f : Form) (A : Marked) (b : Bool) → RightMay f A → node_begun f (has_begun A) b ≡ false → b ≡ false
right_begun sequence A b g h = (or_false (has_begun A) b h).1
right_begun parallel A b g h = (or_false (has_begun A) b h).1
right_begun choice A b g h = (or_false (has_begun A) b h).1
right_begun compensation A b g h = absurd g
right_begun handler A b g h = not_both (failed_begun A (whole_failed g)) h

merged_nil : {f : Form} {p q r : Run} → Merged f p q r → p ≡ [] → q ≡ [] → r ≡ []
merged_nil (in_turn e) h i = sym e ∙ rw (h, i)
merged_nil (mixed m) h i = interleave_nil_is (rw (h, i) at m)

pub not_begun : {m : Mode} {P : Process} {w : Run} {T : Marked} → Reached m P w T → has_begun T ≡ false → (w ≡ []) × (T ≡ fresh P)
not_begun r_done h = (refl, refl)
not_begun r_waits h = (refl, refl)
not_begun (r_leaf {s = s} _ e) h = not_both (ap has_run (sym e) ∙ ending_run s) h
not_begun (r_left {f = f} {Q = Q} {A = A} r) h = let z = not_begun r (left_begun f (has_begun A) (has_begun (fresh Q)) h) in (z.0, rw z.1)
not_begun (r_both {f = f} {A = A} {B = B} g r t m) h =
    let y = not_begun r (left_begun f (has_begun A) (has_begun B) h) in
    let z = not_begun t (right_begun f A (has_begun B) g h) in
    (merged_nil m y.0 z.0, rw (y.1, z.1))
not_begun (r_going r) h = not_begun r h
not_begun (r_undoing {T = T} r f t g i e) h = not_both (failed_begun T g) h

-- The undo of a tree that goes forward has not begun.
abbrev Fresh : Marked → Type 0
Fresh U = U ≡ fresh (unmarked U)

joined_fresh : (f : Form) (U W : Marked) → Fresh U → Fresh W → Fresh (joined f U W)
joined_fresh f U W h i = joined_way Fresh f U W h i (λ u w. ap₂ (m_node f) h i)

fresh_fresh : (P : Process) → Fresh (fresh P)
fresh_fresh P = rw (unmarked_fresh P)

-- Of a tree run with its undo: or it has failed.
abbrev UndoFresh : Mode → Marked → Type 0
UndoFresh forward T = Fresh (undo T)
UndoFresh whole T = Fresh (undo T) ⊎ (ended_as T ≡ Failed)

node_undo_fresh : (f : Form) (A B : Marked) → UndoFresh (left_mode f) A → Fresh (undo B) → RightMay f A ⊎ Fresh B → Fresh (undo (m_node f A B))
node_undo_fresh sequence A B a b h = joined_fresh sequence (undo B) (undo A) b a
node_undo_fresh parallel A B a b h = joined_fresh parallel (undo A) (undo B) a b
node_undo_fresh choice A B a b h = joined_fresh sequence (undo B) (undo A) b a
node_undo_fresh compensation A B a b (inl h) = absurd h
node_undo_fresh compensation A B a b (inr h) = either_way Fresh (is_succeeded (ended_as A)) B (undo A) h a
node_undo_fresh handler A B (inl a) b h = either_way Fresh (is_succeeded (ended_as A)) (undo A) (undo B) a b
node_undo_fresh handler A B (inr e) b h = rw e b

fresh_in : (m : Mode) (T : Marked) → Fresh (undo T) → UndoFresh m T
fresh_in forward T h = h
fresh_in whole T h = inl h

fresh_undo_fresh : (P : Process) → Fresh (undo (fresh P))
fresh_undo_fresh done = refl
fresh_undo_fresh (leaf n k) = refl
fresh_undo_fresh (node f P Q) = node_undo_fresh f (fresh P) (fresh Q) (fresh_in (left_mode f) (fresh P) (fresh_undo_fresh P)) (fresh_undo_fresh Q) (inr (fresh_fresh Q))

undo_fresh : {m : Mode} {P : Process} {w : Run} {T : Marked} → Reached m P w T → UndoFresh m T
undo_fresh r_done = refl
undo_fresh r_waits = refl
undo_fresh (r_leaf _ e) = refl
undo_fresh (r_left {f = f} {Q = Q} {A = A} r) = node_undo_fresh f A (fresh Q) (undo_fresh r) (fresh_undo_fresh Q) (inr (fresh_fresh Q))
undo_fresh (r_both {f = f} {A = A} {B = B} g r t m) = node_undo_fresh f A B (undo_fresh r) (undo_fresh t) (inl g)
undo_fresh (r_going r) = inl (undo_fresh r)
undo_fresh (r_undoing r f t g i e) = inr g

pub undo_not_begun : {P : Process} {w : Run} {T : Marked} → Reached forward P w T → has_begun (undo T) ≡ false
undo_not_begun {T = T} r = ap has_begun (undo_fresh r) ∙ fresh_begun (unmarked (undo T))

reach_undo : {P : Process} {w : Run} {T : Marked} → Reached forward P w T → Reached forward (unmarked (undo T)) [] (undo T)
reach_undo {T = T} r = let h : Fresh (undo T) = undo_fresh r in rw (← h) at (reach_fresh (unmarked (undo T)))

pub reached_process : {m : Mode} {P : Process} {w : Run} {T : Marked} → Reached m P w T → unmarked T ≡ P
reached_process r_done = refl
reached_process r_waits = refl
reached_process (r_leaf _ e) = refl
reached_process (r_left {Q = Q} r) = rw (reached_process r, unmarked_fresh Q)
reached_process (r_both g r t m) = rw (reached_process r, reached_process t)
reached_process (r_going r) = reached_process r
reached_process (r_undoing r f t g i e) = i

-- One entry more.
pub interleaved : {p q r : Run} → Merged parallel p q r → Interleaving p q r
interleaved (in_turn {p = p} {q = q} e) = rw e at (interleavings.in_turn p q)
interleaved (mixed m) = m

more_left : {p q r : Run} (e : Entry) → Interleaving p q r → Interleaving (p ++ (e ∷ [])) q (r ++ (e ∷ []))
more_left e neither = from_left neither
more_left e (from_left i) = from_left (more_left e i)
more_left e (from_right i) = from_right (more_left e i)

more_right : {p q r : Run} (e : Entry) → Interleaving p q r → Interleaving p (q ++ (e ∷ [])) (r ++ (e ∷ []))
more_right e neither = from_right neither
more_right e (from_left i) = from_left (more_right e i)
more_right e (from_right i) = from_right (more_right e i)

more : (p q : Run) {r : Run} (e : Entry) → p ++ q ≡ r → p ++ (q ++ (e ∷ [])) ≡ r ++ (e ∷ [])
more p q e h = rw (← h, append_assoc)

merged_more : {f : Form} {p q r : Run} (e : Entry) → Merged f p q r → Merged f p (q ++ (e ∷ [])) (r ++ (e ∷ []))
merged_more e (in_turn {p = p} {q = q} m) = in_turn (more p q e m)
merged_more e (mixed m) = mixed (more_right e m)

-- The right side has not begun: the left goes on as if it had run alone.
left_again : {f : Form} {P Q : Process} (p : Run) {q r : Run} {A B : Marked} (e : Entry) → Reached forward Q q B → not (has_begun B) ≡ true → p ++ q ≡ r → Reached (left_mode f) P (p ++ (e ∷ [])) A → Reached forward (node f P Q) (r ++ (e ∷ [])) (m_node f A B)
left_again p e t h m r = let z = not_begun t (of_not h) in rw (← m, z.0, append-nil, z.1) (r_left r)

pub reach_step : {m : Mode} {P : Process} {w : Run} {T T' : Marked} {e : Entry} → Step m T e T' → Reached m P w T → Reached m P (w ++ (e ∷ [])) T'
reach_step (at_leaf m) r_waits = r_leaf m refl
reach_step (at_leaf m) (r_leaf {s = s} _ e) = not_open s refl (sym e)
reach_step (on_left h s) (r_left r) = r_left (reach_step s r)
reach_step (on_right h s) (r_left {Q = Q} r) = r_both h r (reach_step s (reach_fresh Q)) (in_turn refl)
reach_step (on_left {f = sequence} h s) (r_both {p = p} g r t (in_turn m)) = left_again p _ t h m (reach_step s r)
reach_step (on_left {f = parallel} h s) (r_both g r t m) = r_both tt (reach_step s r) t (mixed (more_left _ (interleaved m)))
reach_step (on_left {f = choice} h s) (r_both {p = p} g r t (in_turn m)) = left_again p _ t h m (reach_step s r)
reach_step (on_left {f = compensation} h s) (r_both g r t m) = absurd g
reach_step (on_left {f = handler} h s) (r_both {p = p} g r t (in_turn m)) = left_again p _ t h m (reach_step s r)
reach_step (on_right h s) (r_both g r t m) = r_both h r (reach_step s t) (merged_more _ m)
reach_step (going u s) (r_going r) = r_going (reach_step s r)
reach_step (going u s) (r_undoing r f t g i e) = absurd (cons≢nil (not_begun t u).0)
reach_step (undoing {T = T} {n = n} {s = s} f t m) (r_going r) =
    r_undoing {e = entry n s} {p' = []} {T = mark n s T} r f (rw m.new_undo (reach_step t (r_going (reach_undo r)))) (m.same_end ∙ f) (unmarked_mark n s T ∙ reached_process r) refl
reach_step (undoing {T = T} {n = n} {s = s} f t m) (r_undoing {e = x} {p = p} {p' = q} r g u h i e) =
    r_undoing {e = x} {p' = q ++ (entry n s ∷ [])} {T = mark n s T} r g (rw m.new_undo (reach_step t u)) (m.same_end ∙ f) (unmarked_mark n s T ∙ i) (more p (x ∷ q) _ e)
