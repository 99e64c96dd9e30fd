-- The undo of a marked tree. It is less deep than the tree, its leaves are leaves of the tree, and a mark that is set in it is the
-- same mark set in the tree: since leaves are distinct, and what a tree has done never reads the right side of a compensation.
use mathlib.Core.Path.{◌≡◌, refl, sym, ◌∙◌, ap}
use mathlib.Core.Bool.{Bool, true, false, true≢false, cond}
use mathlib.Core.Logic.{◌⊎◌, inl, inr}
use Prim.Native.Nat.{ℕ, zero, suc, ◌≤◌}
use native.Mathlib.Omega.{arith}
use borrow.Author.Tests.{eq-eqb, ne_eqb}
use Rattle.process.specs.Process.{Status, Kind, Permits, Form, sequence, parallel, choice, compensation, handler, Process, done, leaf, node, entry}
use Rattle.runs.specs.Cells.{is_succeeded}
use Rattle.runs.specs.declared.Ended.{Ended}
use Rattle.runs.proofs.Marked.{Marked, m_done, m_leaf, m_node, unmarked, has_begun, ended_as, is_done, Pairing, in_sequence, in_parallel, joined, undo, node_undone, mark, MarksUndo, Mode, whole, Step, at_leaf, on_left, on_right, going, undoing}
use Rattle.process.specs.Leaves.{AsWritten, SomeLeaf, HasLeaf, LeafPermits, Apart, Distinct}
use Rattle.process.specs.Depth.{right_depth, undo_depth}

-- As the theorem asks for it, with undos no deeper than k.
pub record Within (k : ℕ) (P : Process) : Type 0 where
  pub written : AsWritten P
  pub distinct : Distinct P
  pub depth : undo_depth P ≤ k

right_depth_lem : (f : Form) (d : ℕ) → d ≤ right_depth f d
right_depth_lem sequence d = omega arith
right_depth_lem parallel d = omega arith
right_depth_lem choice d = omega arith
right_depth_lem compensation d = omega arith
right_depth_lem handler d = omega arith

module _ {k : ℕ} {f : Form} {P Q : Process} (g : Within k (node f P Q)) where
  pub left_within : Within k P
  left_within = record { written = g.written.0; distinct = g.distinct.0; depth = omega arith }

  pub right_within : Within k Q
  right_within = record { written = g.written.1; distinct = g.distinct.1; depth = omega (arith, right_depth_lem f (undo_depth Q)) }

pair_within : {k : ℕ} {f : Form} {P Q : Process} → Pairing f → Within k P → Within k Q → Apart P Q → Within k (node f P Q)
pair_within in_sequence g h a = record { written = (g.written, h.written); distinct = (g.distinct, h.distinct, a); depth = omega arith }
pair_within in_parallel g h a = record { written = (g.written, h.written); distinct = (g.distinct, h.distinct, a); depth = omega arith }

-- The undo is nothing, or less deep.
abbrev pub UndoWithin : ℕ → Marked → Type 0
UndoWithin zero U = U ≡ m_done
UndoWithin (suc k) U = (U ≡ m_done) ⊎ Within k (unmarked U)

-- What holds of the parts that an undo is made of holds of the undo.
pub either_way : (F : Marked → Type 0) (test : Bool) (U W : Marked) → F U → F W → F (cond test U W)
either_way F true U W x y = x
either_way F false U W x y = y

pub joined_way : (F : Marked → Type 0) (f : Form) (U W : Marked) → F U → F W → (is_done U ≡ false → is_done W ≡ false → F (m_node f U W)) → F (joined f U W)
joined_way F f U W x y z = by (is_done U) (is_done W) z
  where
    by : (a b : Bool) → (a ≡ false → b ≡ false → F (m_node f U W)) → F (cond a W (cond b U (m_node f U W)))
    by true b z = y
    by false true z = x
    by false false z = z refl refl

undo_way : (F : Marked → Type 0) (f : Form) (x : Ended) (B U W : Marked) → F U → F W → (is_done U ≡ false → is_done W ≡ false → F (m_node sequence W U) × F (m_node parallel U W)) → (f ≡ compensation → F B) → F (node_undone f x B U W)
undo_way F sequence x B U W u w p b = joined_way F sequence W U w u (λ i j. (p j i).0)
undo_way F parallel x B U W u w p b = joined_way F parallel U W u w (λ i j. (p i j).1)
undo_way F choice x B U W u w p b = joined_way F sequence W U w u (λ i j. (p j i).0)
undo_way F compensation x B U W u w p b = either_way F (is_succeeded x) B U (b refl) u
undo_way F handler x B U W u w p b = either_way F (is_succeeded x) U W u w

pub joined_done : (f : Form) (U : Marked) → joined f U m_done ≡ U
joined_done f m_done = refl
joined_done f (m_leaf n kind o) = refl
joined_done f (m_node g A B) = refl

-- The leaves of the undo.
both_ways : {A B C D : Type 0} → (A → C) → (B → D) → A ⊎ B → C ⊎ D
both_ways f g (inl a) = inl (f a)
both_ways f g (inr b) = inr (g b)

swapped : {A B : Type 0} → A ⊎ B → B ⊎ A
swapped (inl a) = inr a
swapped (inr b) = inl b

some_undo_leaf : (F : ℕ → Kind → Type 0) (T : Marked) → SomeLeaf F (unmarked (undo T)) → SomeLeaf F (unmarked T)
some_undo_leaf F m_done h = h
some_undo_leaf F (m_leaf i kind o) h = absurd h
some_undo_leaf F (m_node f A B) h =
    let a = some_undo_leaf F A in
    let b = some_undo_leaf F B in
    undo_way (λ X. SomeLeaf F (unmarked X) → SomeLeaf F (unmarked (m_node f A B))) f (ended_as A) B (undo A) (undo B) (λ x. inl (a x)) (λ x. inr (b x)) (λ i j. (λ x. both_ways a b (swapped x), both_ways a b)) (λ e x. inr x) h

undo_leaf : (n : ℕ) (T : Marked) → HasLeaf n (unmarked (undo T)) → HasLeaf n (unmarked T)
undo_leaf n T h = some_undo_leaf (λ m k. n ≡ m) T h

-- The depth of the undo.
pair_undo_within : {f : Form} → Pairing f → (k : ℕ) (U W : Marked) → UndoWithin k U → UndoWithin k W → is_done U ≡ false → is_done W ≡ false → Apart (unmarked U) (unmarked W) → UndoWithin k (m_node f U W)
pair_undo_within f zero U W u w i j a = absurd (true≢false (ap is_done (sym u) ∙ i))
pair_undo_within f (suc k) U W (inl u) w i j a = absurd (true≢false (ap is_done (sym u) ∙ i))
pair_undo_within f (suc k) U W (inr u) (inl w) i j a = absurd (true≢false (ap is_done (sym w) ∙ j))
pair_undo_within f (suc k) U W (inr u) (inr w) i j a = inr (pair_within f u w a)

right_undo_within : (k : ℕ) (P : Process) (B : Marked) → Within k (node compensation P (unmarked B)) → UndoWithin k B
right_undo_within zero P B g = let z : ⊥ = omega arith in absurd z
right_undo_within (suc k) P B g = inr (record { written = g.written.1; distinct = g.distinct.1; depth = omega arith })

pub undo_within : (k : ℕ) (T : Marked) → Within k (unmarked T) → UndoWithin k (undo T)
undo_within k m_done g = absurd g.written
undo_within zero (m_leaf n kind o) g = refl
undo_within (suc k) (m_leaf n kind o) g = inl refl
undo_within k (m_node f A B) g =
    let u = undo_within k A (left_within g) in
    let w = undo_within k B (right_within g) in
    let a : Apart (unmarked (undo A)) (unmarked (undo B)) = λ n h i. g.distinct.2 n (undo_leaf n A h) (undo_leaf n B i) in
    undo_way (UndoWithin k) f (ended_as A) B (undo A) (undo B) u w (λ i j. (pair_undo_within in_sequence k (undo B) (undo A) w u j i (λ n h l. a n l h), pair_undo_within in_parallel k (undo A) (undo B) u w i j a)) (λ e. right_undo_within k (unmarked A) B (rw e at g))

pub undo_again : (k : ℕ) (U : Marked) → UndoWithin (suc k) U → UndoWithin k (undo U)
undo_again zero U (inl e) = ap undo e
undo_again (suc k) U (inl e) = inl (ap undo e)
undo_again k U (inr g) = undo_within k U g

module _ (n : ℕ) (s : Status) where
  -- A mark goes into the parts of the undo.
  mark_is_done : (U : Marked) → is_done (mark n s U) ≡ is_done U
  mark_is_done m_done = refl
  mark_is_done (m_leaf i kind o) = refl
  mark_is_done (m_node f A B) = refl

  mark_pick : (test : Bool) (U W : Marked) → cond test (mark n s U) (mark n s W) ≡ mark n s (cond test U W)
  mark_pick true U W = refl
  mark_pick false U W = refl

  mark_joined : (f : Form) (U W : Marked) → joined f (mark n s U) (mark n s W) ≡ mark n s (joined f U W)
  mark_joined f U W = rw (mark_is_done U, mark_is_done W, mark_pick (is_done W) U (m_node f U W)) (mark_pick (is_done U) W (cond (is_done W) U (m_node f U W)))

  mark_undone : (f : Form) (x : Ended) (B U W : Marked) → node_undone f x (mark n s B) (mark n s U) (mark n s W) ≡ mark n s (node_undone f x B U W)
  mark_undone sequence x B U W = mark_joined sequence W U
  mark_undone parallel x B U W = mark_joined parallel U W
  mark_undone choice x B U W = mark_joined sequence W U
  mark_undone compensation x B U W = mark_pick (is_succeeded x) B U
  mark_undone handler x B U W = mark_pick (is_succeeded x) U W

  -- A mark elsewhere changes nothing.
  pub mark_other : (T : Marked) → ¬ HasLeaf n (unmarked T) → mark n s T ≡ T
  mark_other m_done h = refl
  mark_other (m_leaf i kind o) h = rw (ne_eqb n i h)
  mark_other (m_node f A B) h = rw (mark_other A (λ x. h (inl x)), mark_other B (λ x. h (inr x)))

  -- A mark in the undo leaves the tree as it stands.
  abbrev Stands : Marked → Type 0
  Stands T = MarksUndo n s T (mark n s (undo T))

  stands_other : (T : Marked) → ¬ HasLeaf n (unmarked T) → Stands T
  stands_other T h = let e = mark_other T h in record { same_end = ap ended_as e; same_begun = ap has_begun e; new_undo = ap undo e ∙ sym (mark_other (undo T) (λ l. h (undo_leaf n T l))) }

  stands_node : (f : Form) (A B : Marked) → Stands A → Stands B → Stands (m_node f A B)
  stands_node f A B a b = record {
    same_end = rw (a.same_end, b.same_end, b.same_begun);
    same_begun = rw (a.same_begun, b.same_begun);
    new_undo = rw (a.same_end, a.new_undo, b.new_undo) (mark_undone f (ended_as A) B (undo A) (undo B));
  }

  -- The right side of a compensation has the leaf, and then the left has not.
  stands_right : (f : Form) (A B : Marked) → f ≡ compensation → Stands A → Stands (m_node f A B)
  stands_right f A B e a = rw e (record { same_end = a.same_end; same_begun = a.same_begun; new_undo = rw (a.same_end, a.new_undo) (mark_pick (is_succeeded (ended_as A)) B (undo A)) })

  abbrev InUndo : Marked → Type 0
  InUndo T = HasLeaf n (unmarked (undo T))

  stands_sides : (f : Form) (A B : Marked) → Apart (unmarked A) (unmarked B) → (InUndo A → Stands A) → (InUndo B → Stands B) → InUndo A ⊎ InUndo B → Stands (m_node f A B)
  stands_sides f A B a i j (inl l) = stands_node f A B (i l) (stands_other B (a n (undo_leaf n A l)))
  stands_sides f A B a i j (inr l) = stands_node f A B (stands_other A (λ x. a n x (undo_leaf n B l))) (j l)

  stands : (T : Marked) → Distinct (unmarked T) → InUndo T → Stands T
  stands m_done d = λ l. absurd l
  stands (m_leaf i kind o) d = λ l. absurd l
  stands (m_node f A B) d =
      let sides = stands_sides f A B d.2 (stands A d.0) (stands B d.1) in
      undo_way (λ X. HasLeaf n (unmarked X) → Stands (m_node f A B)) f (ended_as A) B (undo A) (undo B) (λ l. sides (inl l)) (λ l. sides (inr l)) (λ i j. (λ l. sides (swapped l), sides)) (λ e l. stands_right f A B e (stands_other A (λ x. d.2 n x l)))

  pub unmarked_mark : (T : Marked) → unmarked (mark n s T) ≡ unmarked T
  unmarked_mark m_done = refl
  unmarked_mark (m_leaf i kind o) = refl
  unmarked_mark (m_node f A B) = rw (unmarked_mark A, unmarked_mark B)

  -- A step is at a leaf that permits its status.
  pub step_permits : {m : Mode} {T T' : Marked} → Step m T (entry n s) T' → LeafPermits n s (unmarked T)
  step_permits (at_leaf h) = (refl, h)
  step_permits (on_left _ r) = inl (step_permits r)
  step_permits (on_right _ r) = inr (step_permits r)
  step_permits (going _ r) = step_permits r
  step_permits (undoing {T = T} _ r m) = some_undo_leaf (λ i k. (n ≡ i) × Permits k s) T (step_permits r)

  pub permits_leaf : (P : Process) → LeafPermits n s P → HasLeaf n P
  permits_leaf done h = h
  permits_leaf (leaf i kind) h = h.0
  permits_leaf (node f P Q) h = both_ways (permits_leaf P) (permits_leaf Q) h

  pub step_leaf : {m : Mode} {T T' : Marked} → Step m T (entry n s) T' → HasLeaf n (unmarked T)
  step_leaf {T = T} r = permits_leaf (unmarked T) (step_permits r)

  -- A step marks its leaf.
  pub step_marks : {m : Mode} {T T' : Marked} → Step m T (entry n s) T' → Distinct (unmarked T) → T' ≡ mark n s T
  step_marks (at_leaf h) d = rw (eq-eqb n n refl)
  step_marks (on_left {B = B} _ r) d = rw (mark_other B (d.2 n (step_leaf r)), step_marks r d.0)
  step_marks (on_right {A = A} _ r) d = rw (mark_other A (λ x. d.2 n x (step_leaf r)), step_marks r d.1)
  step_marks (going _ r) d = step_marks r d
  step_marks (undoing _ r m) d = refl

-- A step of the undo is a step of the whole, and marks the same leaf.
pub undo_step : (k : ℕ) {n : ℕ} {s : Status} (T : Marked) {U : Marked} → Within k (unmarked T) → Step whole (undo T) (entry n s) U → MarksUndo n s T U
undo_step k {n} {s} T {U} g r = rw (by k (undo_within k T g)) (stands n s T g.distinct (step_leaf n s r))
  where
    by : (i : ℕ) → UndoWithin i (undo T) → U ≡ mark n s (undo T)
    by zero h = absurd (rw h at (step_leaf n s r))
    by (suc i) (inl h) = absurd (rw h at (step_leaf n s r))
    by (suc i) (inr h) = step_marks n s r h.distinct
