-- The marked tree: a process with the outcome of each leaf. From it: has it begun, how has it ended, its undo with the marks that
-- the undo has, one step of a run, and the trees that a run reaches. The cells are read off it (Shown), the runs too (Forms, Whole).
use mathlib.Core.Path.{◌≡◌}
use mathlib.Core.List.{[], ◌∷◌, ◌++◌}
use mathlib.Core.Bool.{Bool, true, false, cond}
use Prim.Native.Nat.{ℕ}
use lib.Dec.{eqb}
use Rattle.process.specs.Process.{Status, ok, fail, Kind, Permits, Form, sequence, parallel, choice, compensation, handler, Process, done, leaf, node, Entry, entry, Run}
use Rattle.process.specs.Figure2.{Interleaving}
use Rattle.runs.specs.declared.Ended.{Ended}
use Rattle.runs.specs.declared.Ended.TheVariants.{Open, Succeeded, Failed}
use Rattle.runs.proofs.Endings.{has_run}
use Rattle.runs.specs.Cells.{ending, is_succeeded, node_begun, node_ended, left_may}

pub data Marked : Type 0 where
  m_done : Marked
  m_leaf : ℕ → Kind → Ended → Marked
  m_node : Form → Marked → Marked → Marked

-- Nothing has run.
abbrev pub fresh : Process → Marked
fresh done = m_done
fresh (leaf n k) = m_leaf n k Open
fresh (node f P Q) = m_node f (fresh P) (fresh Q)

abbrev pub unmarked : Marked → Process
unmarked m_done = done
unmarked (m_leaf n k o) = leaf n k
unmarked (m_node f A B) = node f (unmarked A) (unmarked B)

abbrev pub has_begun : Marked → Bool
has_begun m_done = false
has_begun (m_leaf n k o) = has_run o
has_begun (m_node f A B) = node_begun f (has_begun A) (has_begun B)

-- How it has ended, going forward.
abbrev pub ended_as : Marked → Ended
ended_as m_done = Succeeded
ended_as (m_leaf n k o) = o
ended_as (m_node f A B) = node_ended f (ended_as A) (ended_as B) (has_begun B)

abbrev pub is_done : Marked → Bool
is_done m_done = true
is_done (m_leaf n k o) = false
is_done (m_node f A B) = false

-- The forms that undos are joined by.
pub data Pairing : Form → Type 0 where
  in_sequence : Pairing sequence
  in_parallel : Pairing parallel

-- Two undos as one: an empty one falls away.
abbrev pub joined : Form → Marked → Marked → Marked
joined f U W = cond (is_done U) W (cond (is_done W) U (m_node f U W))

abbrev pub node_undone : Form → Ended → Marked → Marked → Marked → Marked
node_undone sequence x B U W = joined sequence W U
node_undone parallel x B U W = joined parallel U W
node_undone choice x B U W = joined sequence W U
node_undone compensation x B U W = cond (is_succeeded x) B U
node_undone handler x B U W = cond (is_succeeded x) U W

-- The undo, with the marks that it has.
abbrev pub undo : Marked → Marked
undo m_done = m_done
undo (m_leaf n k o) = m_done
undo (m_node f A B) = node_undone f (ended_as A) B (undo A) (undo B)

-- How the tree run with its undo has ended.
pub data WholeEnds : Marked → Status → Type 0 where
  ends_ok : {T : Marked} → ended_as T ≡ Succeeded → WholeEnds T ok
  ends_fail : {T : Marked} {s : Status} → ended_as T ≡ Failed → WholeEnds (undo T) s → WholeEnds T fail

-- The mark s at the leaf n.
abbrev pub mark : ℕ → Status → Marked → Marked
mark n s m_done = m_done
mark n s (m_leaf i k o) = m_leaf i k (cond (eqb n i) (ending s) o)
mark n s (m_node f A B) = m_node f (mark n s A) (mark n s B)

-- When the left side may go on, by the right; when the right side may, by the left.
abbrev pub LeftMay : Form → Marked → Type 0
LeftMay f B = left_may f (has_begun B) ≡ true

abbrev pub RightMay : Form → Marked → Type 0
RightMay sequence A = ended_as A ≡ Succeeded
RightMay parallel A = Unit {0}
RightMay choice A = has_begun A ≡ false
RightMay compensation A = ⊥
RightMay handler A = WholeEnds A fail

-- A mark in the undo leaves the tree as it stands, with the undo U.
pub record MarksUndo (n : ℕ) (s : Status) (T U : Marked) : Type 0 where
  pub same_end : ended_as (mark n s T) ≡ ended_as T
  pub same_begun : has_begun (mark n s T) ≡ has_begun T
  pub new_undo : undo (mark n s T) ≡ U

-- A process run forward; or run with its undo, as the root and a handler's left side are.
pub data Mode : Type 0 where
  forward whole : Mode

abbrev pub left_mode : Form → Mode
left_mode sequence = forward
left_mode parallel = forward
left_mode choice = forward
left_mode compensation = forward
left_mode handler = whole

-- One step. The whole goes forward while the undo has not begun, and by the undo once it has failed.
pub data Step : Mode → Marked → Entry → Marked → Type 0 where
  at_leaf : {n : ℕ} {k : Kind} {s : Status} → Permits k s → Step forward (m_leaf n k Open) (entry n s) (m_leaf n k (ending s))
  on_left : {f : Form} {A A' B : Marked} {e : Entry} → LeftMay f B → Step (left_mode f) A e A' → Step forward (m_node f A B) e (m_node f A' B)
  on_right : {f : Form} {A B B' : Marked} {e : Entry} → RightMay f A → Step forward B e B' → Step forward (m_node f A B) e (m_node f A B')
  going : {T T' : Marked} {e : Entry} → has_begun (undo T) ≡ false → Step forward T e T' → Step whole T e T'
  undoing : {T U : Marked} {n : ℕ} {s : Status} → ended_as T ≡ Failed → Step whole (undo T) (entry n s) U → MarksUndo n s T U → Step whole T (entry n s) (mark n s T)

pub data Steps (m : Mode) : Marked → Run → Marked → Type 0 where
  still : {A : Marked} → Steps m A [] A
  first : {A B C : Marked} {e : Entry} {w : Run} → Step m A e B → Steps m B w C → Steps m A (e ∷ w) C

-- The runs of two sides as one: in turn, or interleaved.
pub data Merged : Form → Run → Run → Run → Type 0 where
  in_turn : {f : Form} {p q r : Run} → p ++ q ≡ r → Merged f p q r
  mixed : {p q r : Run} → Interleaving p q r → Merged parallel p q r

-- P has run w and stands at T.
pub data Reached : Mode → Process → Run → Marked → Type 0 where
  r_done : Reached forward done [] m_done
  r_waits : {n : ℕ} {k : Kind} → Reached forward (leaf n k) [] (m_leaf n k Open)
  r_leaf : {n : ℕ} {k : Kind} {s : Status} {o : Ended} → Permits k s → ending s ≡ o → Reached forward (leaf n k) (entry n s ∷ []) (m_leaf n k o)
  r_left : {f : Form} {P Q : Process} {p : Run} {A : Marked} → Reached (left_mode f) P p A → Reached forward (node f P Q) p (m_node f A (fresh Q))
  r_both : {f : Form} {P Q : Process} {p q r : Run} {A B : Marked} → RightMay f A → Reached (left_mode f) P p A → Reached forward Q q B → Merged f p q r → Reached forward (node f P Q) r (m_node f A B)
  r_going : {P : Process} {w : Run} {T : Marked} → Reached forward P w T → Reached whole P w T
  r_undoing : {P : Process} {e : Entry} {p p' r : Run} {A T : Marked} → Reached forward P p A → ended_as A ≡ Failed → Reached whole (unmarked (undo A)) (e ∷ p') (undo T) → ended_as T ≡ Failed → unmarked T ≡ P → p ++ (e ∷ p') ≡ r → Reached whole P r T
