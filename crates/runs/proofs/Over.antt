-- What has ended does not go on: where the cells tell that a run may end, they tell no leaf as next. It holds of every table of outcomes,
-- since each cell keeps it: one that has ended has no next leaf, and has begun unless it is empty. A parallel keeps it because both of its
-- sides have to end.
use mathlib.Core.Path.{◌≡◌, refl, ap}
use mathlib.Core.Bool.{Bool, true, false, not, cond}
use Prim.Native.Nat.{ℕ, zero, suc}
use lib.Bits.{bit_or}
use Rattle.process.specs.Process.{Status, ok, fail, Form, sequence, parallel, choice, compensation, handler, Process, done, leaf, node}
use Rattle.process.specs.Leaves.{AsWritten}
use Rattle.runs.specs.declared.Ended.{Ended}
use Rattle.runs.specs.declared.Ended.TheVariants.{Open, Succeeded, Failed}
use Rattle.runs.specs.declared.Cell.{Cell}
use Rattle.runs.specs.Cells.{ending, is_succeeded, is_failed, Outcomes, given, empty_cell, leaf_cell, node_begun, node_ended, left_may, right_may, node_cell, join_cell, Levels, undo_levels, then_undo, whole_ended, whole_next, left_next, in_turn, node_undo, cells_of}
use Rattle.runs.proofs.Endings.{not_both, of_not, not_open, or_true, parallel_ends}
use Rattle.runs.proofs.Marked.{Pairing, in_sequence, in_parallel}

-- A side that has ended has begun, and no leaf comes next in it.
abbrev Stops : Ended → Bool → ℕ → Type 0
Stops x begun next = (s : Status) → x ≡ ending s → (begun ≡ true) × (next ≡ 0)

-- A composite that has ended has begun, and in a side of it that may still go on no leaf comes next.
record NodeOver (f : Form) (x : Ended) (x_begun y_begun x_over : Bool) (x_next x_whole y_next : ℕ) : Type 0 where
  has_begun_lem : node_begun f x_begun y_begun ≡ true
  left_stops : left_may f y_begun ≡ true → left_next f x_next x_whole ≡ 0
  right_stops : right_may f x x_begun x_over ≡ true → y_next ≡ 0

module _ {x_begun y_begun x_over : Bool} {x_next x_whole y_next : ℕ} where
  node_over : (f : Form) (x y : Ended) (s : Status) → Stops x x_begun x_next → Stops y y_begun y_next → (x ≡ Succeeded → x_whole ≡ 0) → (x ≡ Succeeded → x_over ≡ false) → node_ended f x y y_begun ≡ ending s → NodeOver f x x_begun y_begun x_over x_next x_whole y_next
  node_over sequence Open y s l r w o h = not_open s refl h
  node_over sequence Succeeded y s l r w o h = record { has_begun_lem = rw (l ok refl).0; left_stops = λ e. (l ok refl).1; right_stops = λ e. (r s h).1 }
  node_over sequence Failed y s l r w o h = record { has_begun_lem = rw (l fail refl).0; left_stops = λ e. (l fail refl).1; right_stops = λ e. not_both e refl }
  node_over parallel x y s l r w o h = let p = parallel_ends x y s h in record { has_begun_lem = rw (l p.left p.left_ends).0; left_stops = λ e. (l p.left p.left_ends).1; right_stops = λ e. (r p.right p.right_ends).1 }
  node_over choice x y s l r w o h = by y_begun refl h
    where
      by : (b : Bool) → y_begun ≡ b → cond b y x ≡ ending s → NodeOver choice x x_begun y_begun x_over x_next x_whole y_next
      by true e h = record { has_begun_lem = rw e (or_true x_begun); left_stops = λ i. not_both e (of_not i); right_stops = λ i. (r s h).1 }
      by false e h = record { has_begun_lem = rw (l s h).0; left_stops = λ i. (l s h).1; right_stops = λ i. not_both (l s h).0 (of_not i) }
  node_over compensation x y s l r w o h = record { has_begun_lem = (l s h).0; left_stops = λ e. (l s h).1; right_stops = λ e. not_both e refl }
  node_over handler Open y s l r w o h = not_open s refl h
  node_over handler Succeeded y s l r w o h = record { has_begun_lem = (l ok refl).0; left_stops = λ e. w refl; right_stops = λ e. not_both e (o refl) }
  node_over handler Failed y s l r w o h = record { has_begun_lem = (l fail refl).0; left_stops = λ e. not_both (r s h).0 (of_not e); right_stops = λ e. (r s h).1 }

-- What each cell keeps.
record Settles (x : Cell) : Type 0 where
  begins : x.empty ≡ false → (s : Status) → x.ended ≡ ending s → x.begun ≡ true
  stops : (s : Status) → x.ended ≡ ending s → x.next ≡ 0

neither_next : (a b : Bool) (m n : ℕ) → (a ≡ true → m ≡ 0) → (b ≡ true → n ≡ 0) → bit_or (given a m) (given b n) ≡ 0
neither_next true true m n h i = rw (h refl, i refl)
neither_next true false m n h i = rw (h refl)
neither_next false true m n h i = rw (i refl)
neither_next false false m n h i = refl

-- A composite of sides that are there. Where the left has succeeded its whole has no next leaf, and has not failed.
module _ {x y : Cell} (X : Settles x) (Y : Settles y) (x_there : x.empty ≡ false) (y_there : y.empty ≡ false) where
  node_settles : (f : Form) (x_whole : ℕ) (x_over : Bool) → (x.ended ≡ Succeeded → x_whole ≡ 0) → (x.ended ≡ Succeeded → x_over ≡ false) → Settles (node_cell f x y (left_next f x.next x_whole) x_over)
  node_settles f n o w v = record {
    begins = λ e s h. (over s h).has_begun_lem;
    stops = λ s h. neither_next (left_may f y.begun) (right_may f x.ended x.begun o) (left_next f x.next n) y.next (over s h).left_stops (over s h).right_stops;
  }
    where
      over : (s : Status) → node_ended f x.ended y.ended y.begun ≡ ending s → NodeOver f x.ended x.begun y.begun o x.next n y.next
      over s h = node_over f x.ended y.ended s (λ t e. (X.begins x_there t e, X.stops t e)) (λ t e. (Y.begins y_there t e, Y.stops t e)) w v h

  pair_settles : {f : Form} → Pairing f → Settles (node_cell f x y x.next false)
  pair_settles in_sequence = node_settles sequence 0 false (λ e. refl) (λ e. refl)
  pair_settles in_parallel = node_settles parallel 0 false (λ e. refl) (λ e. refl)

either_settles : (test : Bool) {x y : Cell} → (test ≡ true → Settles x) → (test ≡ false → Settles y) → Settles (cond test x y)
either_settles true h i = h refl
either_settles false h i = i refl

join_settles : {f : Form} → Pairing f → {x y : Cell} → Settles x → Settles y → Settles (join_cell f x y)
join_settles f {x} {y} X Y = either_settles x.empty (λ e. Y) (λ e. either_settles y.empty (λ i. X) (λ i. pair_settles X Y e i f))

-- Every level of a process.
abbrev AllSettle : Levels → Type 0
AllSettle a = (i : ℕ) → Settles (a i)

turn_settles : (i : ℕ) {x y : Cell} → Settles x → Settles y → Settles (in_turn i x y)
turn_settles zero X Y = join_settles in_sequence X Y
turn_settles (suc i) X Y = turn_settles i Y X

undo_settles : (f : Form) (a b : Levels) → AllSettle a → AllSettle b → AllSettle (node_undo f a b)
undo_settles sequence a b A B i = turn_settles i (B (suc i)) (A (suc i))
undo_settles parallel a b A B i = join_settles in_parallel (A (suc i)) (B (suc i))
undo_settles choice a b A B i = turn_settles i (B (suc i)) (A (suc i))
undo_settles compensation a b A B i = either_settles (is_succeeded (a zero).ended) (λ e. B i) (λ e. A (suc i))
undo_settles handler a b A B i = either_settles (is_succeeded (a zero).ended) (λ e. A (suc i)) (λ e. B (suc i))

-- The whole of a process.
whole_stops : (k : ℕ) (a : Levels) → AllSettle a → (s : Status) → whole_ended k a ≡ ending s → whole_next k a ≡ 0
whole_stops zero a A s h = (A zero).stops s h
whole_stops (suc k) a A s h = by (a zero).ended (whole_ended k (undo_levels a)) refl refl h (whole_stops k (undo_levels a) (λ j. A (suc j)))
  where
    next : (t : Status) → (a zero).ended ≡ ending t → (is_failed (a zero).ended ≡ true → whole_next k (undo_levels a) ≡ 0) → whole_next (suc k) a ≡ 0
    next t e u = neither_next (not (a (suc zero)).begun) (is_failed (a zero).ended) (a zero).next (whole_next k (undo_levels a)) (λ i. (A zero).stops t e) u

    by : (x y : Ended) → (a zero).ended ≡ x → whole_ended k (undo_levels a) ≡ y → then_undo x y ≡ ending s → ((t : Status) → whole_ended k (undo_levels a) ≡ ending t → whole_next k (undo_levels a) ≡ 0) → whole_next (suc k) a ≡ 0
    by Open y e i h f = not_open s refl h
    by Succeeded y e i h f = next ok e (λ u. not_both u (ap is_failed e))
    by Failed Open e i h f = not_open s refl h
    by Failed Succeeded e i h f = next fail e (λ u. f ok i)
    by Failed Failed e i h f = next fail e (λ u. f fail i)

whole_succeeds : (k : ℕ) (a : Levels) → (a zero).ended ≡ Succeeded → whole_ended k a ≡ Succeeded
whole_succeeds zero a h = h
whole_succeeds (suc k) a h = rw h

-- The fold.
leaf_settles : (n : ℕ) (o : Ended) → Settles (leaf_cell n o)
leaf_settles n Open = record { begins = λ e s h. not_open s refl h; stops = λ s h. not_open s refl h }
leaf_settles n Succeeded = record { begins = λ e s h. refl; stops = λ s h. refl }
leaf_settles n Failed = record { begins = λ e s h. refl; stops = λ s h. refl }

empty_settles : Settles empty_cell
empty_settles = record { begins = λ e s h. not_both refl e; stops = λ s h. refl }

leaf_there : (n : ℕ) (o : Ended) → (leaf_cell n o).empty ≡ false
leaf_there n Open = refl
leaf_there n Succeeded = refl
leaf_there n Failed = refl

module _ (k : ℕ) (table : Outcomes) where
  forward_there : (P : Process) → AsWritten P → (cells_of k table P zero).empty ≡ false
  forward_there done w = absurd w
  forward_there (leaf n kind) w = leaf_there n (table n)
  forward_there (node f P Q) w = refl

  cells_settle : (P : Process) → AsWritten P → AllSettle (cells_of k table P)
  cells_settle done w i = absurd w
  cells_settle (leaf n kind) w zero = leaf_settles n (table n)
  cells_settle (leaf n kind) w (suc i) = empty_settles
  cells_settle (node f P Q) w zero =
      let A = cells_settle P w.0 in
      let a = cells_of k table P in
      node_settles (A zero) (cells_settle Q w.1 zero) (forward_there P w.0) (forward_there Q w.1) f (whole_next k a) (is_failed (whole_ended k a)) (λ e. whole_stops k a A ok (whole_succeeds k a e)) (λ e. ap is_failed (whole_succeeds k a e))
  cells_settle (node f P Q) w (suc i) = undo_settles f (cells_of k table P) (cells_of k table Q) (cells_settle P w.0) (cells_settle Q w.1) i

  pub over : (P : Process) → AsWritten P → (s : Status) → whole_ended k (cells_of k table P) ≡ ending s → whole_next k (cells_of k table P) ≡ 0
  over P w s h = whole_stops k (cells_of k table P) (cells_settle P w) s h
