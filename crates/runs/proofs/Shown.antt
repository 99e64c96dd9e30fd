-- The cells show the marked tree. At each level the cell says whether the tree is empty, has begun, how it has ended, and holds a leaf
-- as next exactly where the tree has a step at that leaf. One leaf and one status that the leaf permits are fixed throughout.
use mathlib.Core.Path.{◌≡◌, refl, sym, ◌∙◌, ap}
use mathlib.Core.Bool.{Bool, true, false, not, cond}
use mathlib.Core.Logic.{inl, inr, ◌↔◌}
use Prim.Native.Nat.{ℕ, zero, suc}
use Rattle.process.specs.Process.{Status, ok, fail, Kind, Permits, Form, sequence, parallel, choice, compensation, handler, Process, done, leaf, node, entry}
use Rattle.runs.specs.declared.Ended.{Ended}
use Rattle.runs.specs.declared.Ended.TheVariants.{Open, Succeeded, Failed}
use Rattle.runs.specs.declared.Cell.{Cell}
use Rattle.runs.specs.Cells.{ending, is_succeeded, is_failed, Outcomes, Holds, given, empty_cell, leaf_cell, left_may, right_may, node_cell, join_cell, Levels, undo_levels, then_undo, whole_ended, whole_next, left_next, in_turn, node_undo, leaf_levels, cells_of}
use Rattle.runs.proofs.Endings.{not_both, of_not, not_open, ending_one, of_succeeded, of_failed}
use Rattle.runs.proofs.Marked.{Marked, m_done, m_leaf, m_node, unmarked, has_begun, ended_as, is_done, Pairing, in_sequence, in_parallel, joined, undo, node_undone, WholeEnds, ends_ok, ends_fail, MarksUndo, RightMay, Mode, forward, whole, left_mode, Step, at_leaf, on_left, on_right, going, undoing}
use Rattle.runs.proofs.Undo.{Within, left_within, right_within, UndoWithin, undo_again, joined_done, undo_step, step_leaf}
use Rattle.runs.proofs.Leaves.{holds_none, union_holds, left_holds, right_holds, only_holds, holds_only}

-- The undo of two joined trees.
undo_joined : {f : Form} → Pairing f → (U W : Marked) → undo (joined f U W) ≡ node_undone f (ended_as U) W (undo U) (undo W)
undo_joined in_sequence m_done W = sym (joined_done sequence (undo W))
undo_joined in_parallel m_done W = refl
undo_joined in_sequence (m_leaf n k o) m_done = refl
undo_joined in_parallel (m_leaf n k o) m_done = refl
undo_joined in_sequence (m_node f A B) m_done = refl
undo_joined in_parallel (m_node f A B) m_done = sym (joined_done parallel (undo (m_node f A B)))
undo_joined f (m_leaf n k o) (m_leaf i l p) = refl
undo_joined f (m_leaf n k o) (m_node g C D) = refl
undo_joined f (m_node h A B) (m_leaf i l p) = refl
undo_joined f (m_node h A B) (m_node g C D) = refl

-- The tree of a table of outcomes; the undo of an undo.
abbrev pub marked_by : Outcomes → Process → Marked
marked_by table done = m_done
marked_by table (leaf n k) = m_leaf n k (table n)
marked_by table (node f P Q) = m_node f (marked_by table P) (marked_by table Q)

pub unmarked_by : (table : Outcomes) (P : Process) → unmarked (marked_by table P) ≡ P
unmarked_by table done = refl
unmarked_by table (leaf n k) = refl
unmarked_by table (node f P Q) = rw (unmarked_by table P, unmarked_by table Q)

abbrev level : ℕ → Marked → Marked
level zero T = T
level (suc i) T = level i (undo T)

-- Each leaf n of the process permits s.
abbrev pub Fits : ℕ → Status → Process → Type 0
Fits n s done = Unit {0}
Fits n s (leaf m k) = n ≡ m → Permits k s
Fits n s (node f P Q) = Fits n s P × Fits n s Q

module _ (n : ℕ) (s : Status) where
  abbrev pub Goes : Mode → Marked → Type 0
  Goes m T = (T' : Marked) × Step m T (entry n s) T'

  done_stays : {m : Mode} {A : Type 0} {T : Marked} → T ≡ m_done → Goes m T → A
  done_stays e g = absurd (rw e at (step_leaf n s g.1))

  pub record Shows (x : Cell) (T : Marked) : Type 0 where
    pub same_empty : x.empty ≡ is_done T
    pub same_begun : x.begun ≡ has_begun T
    pub same_ended : x.ended ≡ ended_as T
    pub same_next : Holds x.next n ↔ Goes forward T

  abbrev pub ShowsAll : Levels → Marked → Type 0
  ShowsAll a T = (i : ℕ) → Shows (a i) (level i T)

  -- A composite.
  right_iff : (f : Form) {x : Cell} {x_over : Bool} {A : Marked} → Shows x A → (x_over ≡ true) ↔ WholeEnds A fail → (right_may f x.ended x.begun x_over ≡ true) ↔ RightMay f A
  right_iff sequence {x} S R = (λ e. sym S.same_ended ∙ of_succeeded x.ended e, λ h. ap is_succeeded (S.same_ended ∙ h))
  right_iff parallel S R = (λ e. tt, λ h. refl)
  right_iff choice {x} S R = (λ e. sym S.same_begun ∙ of_not e, λ h. ap not (S.same_begun ∙ h))
  right_iff compensation S R = (λ e. not_both e refl, λ h. absurd h)
  right_iff handler S R = R

  shows_node : (f : Form) (x_over : Bool) (x_next : ℕ) {x y : Cell} {A B : Marked} → Shows x A → Shows y B → Holds x_next n ↔ Goes (left_mode f) A → (right_may f x.ended x.begun x_over ≡ true) ↔ RightMay f A → Shows (node_cell f x y x_next x_over) (m_node f A B)
  shows_node f x_over x_next {x} {y} {A} {B} S Z L R = record {
    same_empty = refl;
    same_begun = rw (S.same_begun, Z.same_begun);
    same_ended = rw (Z.same_begun, S.same_ended, Z.same_ended);
    same_next = (
      λ h. union_holds n (left_may f y.begun) (right_may f x.ended x.begun x_over) x_next y.next h
          (λ g i. (_, on_left (rw Z.same_begun at g) (L.0 i).1))
          (λ g i. (_, on_right (R.0 g) (Z.same_next.0 i).1)),
      λ g. held g.1,
    );
  }
    where
      held : {T : Marked} → Step forward (m_node f A B) (entry n s) T → Holds (node_cell f x y x_next x_over).next n
      held (on_left h t) = left_holds n (left_may f y.begun) x_next (given (right_may f x.ended x.begun x_over) y.next) (rw Z.same_begun h) (L.1 (_, t))
      held (on_right h t) = right_holds n (given (left_may f y.begun) x_next) (right_may f x.ended x.begun x_over) y.next (R.1 h) (Z.same_next.1 (_, t))

  -- Joined undos.
  shows_pick : {a b : Bool} {x y : Cell} {U W : Marked} → a ≡ b → Shows x U → Shows y W → Shows (cond a x y) (cond b U W)
  shows_pick {a = true} e S Z = rw (← e) S
  shows_pick {a = false} e S Z = rw (← e) Z

  shows_pair : {f : Form} → Pairing f → {x y : Cell} {U W : Marked} → Shows x U → Shows y W → Shows (node_cell f x y x.next false) (m_node f U W)
  shows_pair in_sequence {x} S Z = shows_node sequence false x.next S Z S.same_next (λ e. sym S.same_ended ∙ of_succeeded x.ended e, λ h. ap is_succeeded (S.same_ended ∙ h))
  shows_pair in_parallel {x} S Z = shows_node parallel false x.next S Z S.same_next (λ e. tt, λ h. refl)

  shows_joined : {f : Form} → Pairing f → {x y : Cell} {U W : Marked} → Shows x U → Shows y W → Shows (join_cell f x y) (joined f U W)
  shows_joined f S Z = shows_pick S.same_empty Z (shows_pick Z.same_empty S (shows_pair f S Z))

  shows_turn : (i : ℕ) (U W : Marked) (a b : Levels) → ShowsAll a U → ShowsAll b W → Shows (in_turn i (a i) (b i)) (level i (joined sequence U W))
  shows_turn zero U W a b S Z = shows_joined in_sequence (S zero) (Z zero)
  shows_turn (suc i) U W a b S Z = rw (undo_joined in_sequence U W) (shows_turn i (undo W) (undo U) (undo_levels b) (undo_levels a) (λ j. Z (suc j)) (λ j. S (suc j)))

  shows_beside : (i : ℕ) (U W : Marked) (a b : Levels) → ShowsAll a U → ShowsAll b W → Shows (join_cell parallel (a i) (b i)) (level i (joined parallel U W))
  shows_beside zero U W a b S Z = shows_joined in_parallel (S zero) (Z zero)
  shows_beside (suc i) U W a b S Z = rw (undo_joined in_parallel U W) (shows_beside i (undo U) (undo W) (undo_levels a) (undo_levels b) (λ j. S (suc j)) (λ j. Z (suc j)))

  shows_either : (test : Bool) (i : ℕ) (U W : Marked) {x y : Cell} → Shows x (level i U) → Shows y (level i W) → Shows (cond test x y) (level i (cond test U W))
  shows_either true i U W S Z = S
  shows_either false i U W S Z = Z

  shows_undo : (f : Form) (A B : Marked) (a b : Levels) → ShowsAll a A → ShowsAll b B → ShowsAll (node_undo f a b) (undo (m_node f A B))
  shows_undo sequence A B a b S Z i = shows_turn i (undo B) (undo A) (undo_levels b) (undo_levels a) (λ j. Z (suc j)) (λ j. S (suc j))
  shows_undo parallel A B a b S Z i = shows_beside i (undo A) (undo B) (undo_levels a) (undo_levels b) (λ j. S (suc j)) (λ j. Z (suc j))
  shows_undo choice A B a b S Z i = shows_turn i (undo B) (undo A) (undo_levels b) (undo_levels a) (λ j. Z (suc j)) (λ j. S (suc j))
  shows_undo compensation A B a b S Z i = rw (S zero).same_ended (shows_either (is_succeeded (ended_as A)) i B (undo A) (Z i) (S (suc i)))
  shows_undo handler A B a b S Z i = rw (S zero).same_ended (shows_either (is_succeeded (ended_as A)) i (undo A) (undo B) (S (suc i)) (Z (suc i)))

  -- How the whole has ended.
  undone : (t : Status) → then_undo Failed (ending t) ≡ Failed
  undone ok = refl
  undone fail = refl

  to_ended : (k : ℕ) {T : Marked} {t : Status} (a : Levels) → ShowsAll a T → UndoWithin (suc k) T → WholeEnds T t → whole_ended k a ≡ ending t
  to_ended zero a S u (ends_ok h) = (S zero).same_ended ∙ h
  to_ended zero a S u (ends_fail h x) = (S zero).same_ended ∙ h
  to_ended (suc k) a S u (ends_ok h) = rw ((S zero).same_ended ∙ h)
  to_ended (suc k) {T = T} a S u (ends_fail {s = v} h x) = rw ((S zero).same_ended ∙ h, to_ended k (undo_levels a) (λ j. S (suc j)) (undo_again (suc k) T u) x) (undone v)

  ended_flat : (T : Marked) (t : Status) → undo T ≡ m_done → ended_as T ≡ ending t → WholeEnds T t
  ended_flat T ok e h = ends_ok h
  ended_flat T fail e h = ends_fail {T = T} {s = ok} h (rw e (ends_ok refl))

  ended_then : (T : Marked) (x y : Ended) (t : Status) → ended_as T ≡ x → ((v : Status) → y ≡ ending v → WholeEnds (undo T) v) → then_undo x y ≡ ending t → WholeEnds T t
  ended_then T Open y t e f h = not_open t refl h
  ended_then T Succeeded y t e f h = let j = ending_one ok t h in rw (← j) (ends_ok e)
  ended_then T Failed Open t e f h = not_open t refl h
  ended_then T Failed Succeeded t e f h = let j = ending_one fail t h in rw (← j) (ends_fail e (f ok refl))
  ended_then T Failed Failed t e f h = let j = ending_one fail t h in rw (← j) (ends_fail e (f fail refl))

  from_ended : (k : ℕ) (T : Marked) (t : Status) (a : Levels) → ShowsAll a T → UndoWithin (suc k) T → whole_ended k a ≡ ending t → WholeEnds T t
  from_ended zero T t a S u h = ended_flat T t (undo_again zero T u) (sym (S zero).same_ended ∙ h)
  from_ended (suc k) T t a S u h = ended_then T (a zero).ended (whole_ended k (undo_levels a)) t (sym (S zero).same_ended) (λ v i. from_ended k (undo T) v (undo_levels a) (λ j. S (suc j)) (undo_again (suc k) T u) i) h

  pub ended_iff : (k : ℕ) (T : Marked) (a : Levels) → ShowsAll a T → Within k (unmarked T) → (t : Status) → (whole_ended k a ≡ ending t) ↔ WholeEnds T t
  ended_iff k T a S g t = (λ h. from_ended k T t a S (inr g) h, λ x. to_ended k a S (inr g) x)

  -- What may come next in the whole.
  next_flat : (T : Marked) (a : Levels) → ShowsAll a T → undo T ≡ m_done → Holds (a zero).next n ↔ Goes whole T
  next_flat T a S e = (λ h. (_, going (ap has_begun e) ((S zero).same_next.0 h).1), λ z. held z.1)
    where
      held : {T' : Marked} → Step whole T (entry n s) T' → Holds (a zero).next n
      held (going h t) = (S zero).same_next.1 (_, t)
      held (undoing h t m) = done_stays e (_, t)

  next_then : (k : ℕ) (T : Marked) (a : Levels) → ShowsAll a T → UndoWithin (suc (suc k)) T → Holds (whole_next k (undo_levels a)) n ↔ Goes whole (undo T) → Holds (whole_next (suc k) a) n ↔ Goes whole T
  next_then k T a S u I = (
    λ h. union_holds n (not (a (suc zero)).begun) (is_failed (a zero).ended) (a zero).next (whole_next k (undo_levels a)) h
        (λ e i. (_, going (sym (S (suc zero)).same_begun ∙ of_not e) ((S zero).same_next.0 i).1))
        (λ e i. let z = I.0 i in (_, undoing (sym (S zero).same_ended ∙ of_failed (a zero).ended e) z.1 (by u z.1))),
    λ z. held z.1,
  )
    where
      by : UndoWithin (suc (suc k)) T → {U : Marked} → Step whole (undo T) (entry n s) U → MarksUndo n s T U
      by (inl e) t = done_stays (ap undo e) (_, t)
      by (inr g) t = undo_step (suc k) T g t

      held : {T' : Marked} → Step whole T (entry n s) T' → Holds (whole_next (suc k) a) n
      held (going h t) = left_holds n (not (a (suc zero)).begun) (a zero).next (given (is_failed (a zero).ended) (whole_next k (undo_levels a))) (ap not ((S (suc zero)).same_begun ∙ h)) ((S zero).same_next.1 (_, t))
      held (undoing h t m) = right_holds n (given (not (a (suc zero)).begun) (a zero).next) (is_failed (a zero).ended) (whole_next k (undo_levels a)) (ap is_failed ((S zero).same_ended ∙ h)) (I.1 (_, t))

  next_all : (k : ℕ) (T : Marked) (a : Levels) → ShowsAll a T → UndoWithin (suc k) T → Holds (whole_next k a) n ↔ Goes whole T
  next_all zero T a S u = next_flat T a S (undo_again zero T u)
  next_all (suc k) T a S u = next_then k T a S u (next_all k (undo T) (undo_levels a) (λ j. S (suc j)) (undo_again (suc k) T u))

  pub next_iff : (k : ℕ) (T : Marked) (a : Levels) → ShowsAll a T → Within k (unmarked T) → Holds (whole_next k a) n ↔ Goes whole T
  next_iff k T a S g = next_all k T a S (inr g)

  left_next_iff : (k : ℕ) (f : Form) (T : Marked) (a : Levels) → ShowsAll a T → Within k (unmarked T) → Holds (left_next f (a zero).next (whole_next k a)) n ↔ Goes (left_mode f) T
  left_next_iff k sequence T a S g = (S zero).same_next
  left_next_iff k parallel T a S g = (S zero).same_next
  left_next_iff k choice T a S g = (S zero).same_next
  left_next_iff k compensation T a S g = (S zero).same_next
  left_next_iff k handler T a S g = next_iff k T a S g

  -- Leaves.
  shows_done : (i : ℕ) → Shows empty_cell (level i m_done)
  shows_done zero = record { same_empty = refl; same_begun = refl; same_ended = refl; same_next = (λ h. absurd (holds_none n h), λ g. done_stays refl g) }
  shows_done (suc i) = shows_done i

  leaf_step : {m : ℕ} {k : Kind} {o : Ended} {T : Marked} → Step forward (m_leaf m k o) (entry n s) T → Holds (leaf_cell m o).next n
  leaf_step (at_leaf h) = only_holds n

  shows_leaf : (m : ℕ) (k : Kind) (o : Ended) → (n ≡ m → Permits k s) → ShowsAll (leaf_levels m o) (m_leaf m k o)
  shows_leaf m k Open p zero = record { same_empty = refl; same_begun = refl; same_ended = refl; same_next = (λ h. let e = holds_only n m h in rw e (_, at_leaf (p e)), λ g. leaf_step g.1) }
  shows_leaf m k Succeeded p zero = record { same_empty = refl; same_begun = refl; same_ended = refl; same_next = (λ h. absurd (holds_none n h), λ g. leaf_step g.1) }
  shows_leaf m k Failed p zero = record { same_empty = refl; same_begun = refl; same_ended = refl; same_next = (λ h. absurd (holds_none n h), λ g. leaf_step g.1) }
  shows_leaf m k o p (suc i) = shows_done i

  -- The fold shows the tree at every level.
  pub shows : (k : ℕ) (table : Outcomes) (P : Process) → Within k P → Fits n s P → ShowsAll (cells_of k table P) (marked_by table P)
  shows k table done g p i = absurd g.written
  shows k table (leaf m kind) g p i = shows_leaf m kind (table m) p i
  shows k table (node f P Q) g p zero =
      let S = shows k table P (left_within g) p.0 in
      let A = marked_by table P in
      let w : Within k (unmarked A) = rw (unmarked_by table P) (left_within g) in
      let a = cells_of k table P in
      shows_node f (is_failed (whole_ended k a)) (left_next f (a zero).next (whole_next k a)) (S zero) (shows k table Q (right_within g) p.1 zero) (left_next_iff k f A a S w)
      (right_iff f (S zero) (λ e. (ended_iff k A a S w fail).0 (of_failed (whole_ended k a) e), λ x. ap is_failed ((ended_iff k A a S w fail).1 x)))
  shows k table (node f P Q) g p (suc i) = shows_undo f (marked_by table P) (marked_by table Q) (cells_of k table P) (cells_of k table Q) (shows k table P (left_within g) p.0) (shows k table Q (right_within g) p.1) i
