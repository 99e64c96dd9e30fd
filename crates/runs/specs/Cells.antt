-- Cells: where a process stands after some entries of a run, computed by one fold over it from the outcomes of its leaves alone, and
-- what the runner tells from that (document 01, "The job"). Each rule is the sentence of document 01, "Runs", on its form; of a parallel,
-- as document 02 (N6) amends it.
--
-- A process has levels: level 0 is its forward run (the report's Π), level 1 its undo (the report's compensation process), level 2 the
-- undo of its undo, and so on. A cell is a process at one level: nothing to run, or whether it has begun, how it has ended, and which
-- leaves may come next in it.
use Rattle.std.specs.Prelude.{◌≡◌, Bool, true, false, not, ◌||◌, cond, [], ◌∷◌, ℕ, zero, suc, ◌/◌, ◌%◌, ◌^◌, eqb}
use Rattle.std.specs.Int.Bits.{bit_or}
use Rattle.process.specs.Process.{Status, ok, fail, Form, sequence, parallel, choice, compensation, handler, Process, done, leaf, node, entry, Run}
use Rattle.runs.specs.declared.Ended.{Ended}
use Rattle.runs.specs.declared.Ended.TheVariants.{Open, Succeeded, Failed}
use Rattle.runs.specs.declared.Cell.{Cell}

-- Ended with the report's ✓ or ×.
abbrev pub ending : Status → Ended
ending ok = Succeeded
ending fail = Failed

-- By the byte of an entry or of a table of outcomes: 0 not run, 1 finished, any other failed.
abbrev pub ended_of : ℕ → Ended
ended_of x = cond (eqb x 0) Open (cond (eqb x 1) Succeeded Failed)

-- It has ended, and with ✓; with ×.
abbrev pub is_succeeded : Ended → Bool
is_succeeded Open = false
is_succeeded Succeeded = true
is_succeeded Failed = false

abbrev pub is_failed : Ended → Bool
is_failed Open = false
is_failed Succeeded = false
is_failed Failed = true

-- The outcomes of the leaves by node number: not run (Open), finished, failed. This table is all that is kept of a run's entries.
abbrev pub Outcomes : Type 0
Outcomes = ℕ → Ended

-- Before any entry; after one entry more; after a run.
abbrev pub none_run : Outcomes
none_run n = Open

abbrev pub set_outcome : Outcomes → ℕ → Status → Outcomes
set_outcome table n s i = cond (eqb n i) (ending s) (table i)

abbrev pub outcomes_after : Outcomes → Run → Outcomes
outcomes_after table [] = table
outcomes_after table (entry n s ∷ w) = outcomes_after (set_outcome table n s) w

-- A set of leaves is a number, document 01's "63 bits (bit n for node n)". It holds the leaf n.
abbrev pub Holds : ℕ → ℕ → Type 0
Holds leaves n = leaves / 2 ^ n % 2 ≡ 1

-- The set of the leaf n alone.
abbrev pub only : ℕ → ℕ
only n = 2 ^ n

-- These leaves where the test holds, else none.
abbrev pub given : Bool → ℕ → ℕ
given test leaves = cond test leaves 0

-- The cell of nothing to run, which counts as not begun and succeeded: a leaf's undo.
abbrev pub empty_cell : Cell
empty_cell = record { empty = true; begun = false; ended = Succeeded; next = 0 }

-- A leaf going forward, by its outcome: where it has not run it may come next.
abbrev pub leaf_cell : ℕ → Ended → Cell
leaf_cell n Open = record { empty = false; begun = false; ended = Open; next = only n }
leaf_cell n Succeeded = record { empty = false; begun = true; ended = Succeeded; next = 0 }
leaf_cell n Failed = record { empty = false; begun = true; ended = Failed; next = 0 }

-- Has a composite begun? The right side of a compensation is no part of its forward run, and a handler's runs after its left.
abbrev pub node_begun : Form → Bool → Bool → Bool
node_begun sequence x y = x || y
node_begun parallel x y = x || y
node_begun choice x y = x || y
node_begun compensation x y = x
node_begun handler x y = x

-- How a sequence has ended: "the right side runs only if the left succeeds".
abbrev pub sequence_ended : Ended → Ended → Ended
sequence_ended Open y = Open
sequence_ended Succeeded y = y
sequence_ended Failed y = Failed

-- How a parallel has ended: both sides begin, so that both have to end; "it succeeds if both do".
abbrev pub parallel_ended : Ended → Ended → Ended
parallel_ended Open y = Open
parallel_ended Succeeded y = y
parallel_ended Failed Open = Open
parallel_ended Failed Succeeded = Failed
parallel_ended Failed Failed = Failed

-- How a handler has ended: the right side runs "if the left fails".
abbrev pub handler_ended : Ended → Ended → Ended
handler_ended Open y = Open
handler_ended Succeeded y = Succeeded
handler_ended Failed y = y

-- How a composite has ended, from how its sides have ended and whether the right has begun.
abbrev pub node_ended : Form → Ended → Ended → Bool → Ended
node_ended sequence x y y_begun = sequence_ended x y
node_ended parallel x y y_begun = parallel_ended x y
node_ended choice x y y_begun = cond y_begun y x
node_ended compensation x y y_begun = x
node_ended handler x y y_begun = handler_ended x y

-- May the left side go on, by whether the right has begun?
abbrev pub left_may : Form → Bool → Bool
left_may sequence y_begun = not y_begun
left_may parallel y_begun = true
left_may choice y_begun = not y_begun
left_may compensation y_begun = true
left_may handler y_begun = not y_begun

-- May the right side go on, by the left? `x_over`: the left has failed and its undo has ended, with success or without.
abbrev pub right_may : Form → Ended → Bool → Bool → Bool
right_may sequence x x_begun x_over = is_succeeded x
right_may parallel x x_begun x_over = true
right_may choice x x_begun x_over = not x_begun
right_may compensation x x_begun x_over = false
right_may handler x x_begun x_over = x_over

-- A composite of the cells x and y. `x_next`: what may come next in its left side.
abbrev pub node_cell : Form → Cell → Cell → ℕ → Bool → Cell
node_cell f x y x_next x_over = record {
  empty = false;
  begun = node_begun f x.begun y.begun;
  ended = node_ended f x.ended y.ended y.begun;
  next = bit_or (given (left_may f y.begun) x_next) (given (right_may f x.ended x.begun x_over) y.next);
}

-- Two undos as one, by a sequence or a parallel: an empty one falls away.
abbrev pub join_cell : Form → Cell → Cell → Cell
join_cell f x y = cond x.empty y (cond y.empty x (node_cell f x y x.next false))

-- A process by its levels.
abbrev pub Levels : Type 0
Levels = ℕ → Cell

-- Its undo by its levels.
abbrev pub undo_levels : Levels → Levels
undo_levels a i = a (suc i)

-- How a process has ended that runs its undo where it fails: the undo has then to end, "whether or not the undo succeeded".
abbrev pub then_undo : Ended → Ended → Ended
then_undo Open undone = Open
then_undo Succeeded undone = Succeeded
then_undo Failed Open = Open
then_undo Failed Succeeded = Failed
then_undo Failed Failed = Failed

-- The whole of a process, the report's ⟦ ⟧ from its Π: the process run with its undo, by its levels 0 to `depth`. How it has ended.
abbrev pub whole_ended : ℕ → Levels → Ended
whole_ended zero a = (a zero).ended
whole_ended (suc depth) a = then_undo (a zero).ended (whole_ended depth (undo_levels a))

-- What may come next in the whole: going forward until the undo has begun, by the undo once it has failed.
abbrev pub whole_next : ℕ → Levels → ℕ
whole_next zero a = (a zero).next
whole_next (suc depth) a = bit_or (given (not (a (suc zero)).begun) (a zero).next) (given (is_failed (a zero).ended) (whole_next depth (undo_levels a)))

-- What may come next in a left side: in a handler's, which runs with its undo, by the whole of it.
abbrev pub left_next : Form → ℕ → ℕ → ℕ
left_next sequence x_next x_whole = x_next
left_next parallel x_next x_whole = x_next
left_next choice x_next x_whole = x_next
left_next compensation x_next x_whole = x_next
left_next handler x_next x_whole = x_whole

-- x, then y, at level i of an undo: the undo of a sequence runs in the other order, its undo's undo in the first order again.
abbrev pub in_turn : ℕ → Cell → Cell → Cell
in_turn zero x y = join_cell sequence x y
in_turn (suc i) x y = in_turn i y x

-- The undo of a composite of a and b, level by level. A choice ran one side, and the undo of the other is empty. A compensation that
-- succeeded is undone by its right side; a handler whose left failed, by the right's undo, the left's being spent.
abbrev pub node_undo : Form → Levels → Levels → Levels
node_undo sequence a b i = in_turn i (undo_levels b i) (undo_levels a i)
node_undo parallel a b i = join_cell parallel (undo_levels a i) (undo_levels b i)
node_undo choice a b i = in_turn i (undo_levels b i) (undo_levels a i)
node_undo compensation a b i = cond (is_succeeded (a zero).ended) (b i) (undo_levels a i)
node_undo handler a b i = cond (is_succeeded (a zero).ended) (undo_levels a i) (undo_levels b i)

-- A composite of a and b: one function from the form and the cells of the two sides.
abbrev pub node_levels : ℕ → Form → Levels → Levels → Levels
node_levels depth f a b zero = node_cell f (a zero) (b zero) (left_next f (a zero).next (whole_next depth a)) (is_failed (whole_ended depth a))
node_levels depth f a b (suc i) = node_undo f a b i

-- A leaf: "a leaf's undo is nothing".
abbrev pub leaf_levels : ℕ → Ended → Levels
leaf_levels n outcome zero = leaf_cell n outcome
leaf_levels n outcome (suc i) = empty_cell

-- The fold: the cells of a process from the outcomes of its leaves. `depth`: how many levels of undos there may be.
abbrev pub cells_of : ℕ → Outcomes → Process → Levels
cells_of depth table done i = empty_cell
cells_of depth table (leaf n kind) i = leaf_levels n (table n) i
cells_of depth table (node f P Q) i = node_levels depth f (cells_of depth table P) (cells_of depth table Q) i

-- What is told at the root: how the run may end here, and the leaves that may come next.
abbrev pub told_ended : ℕ → Process → Run → Ended
told_ended depth P w = whole_ended depth (cells_of depth (outcomes_after none_run w) P)

abbrev pub told_next : ℕ → Process → Run → ℕ
told_next depth P w = whole_next depth (cells_of depth (outcomes_after none_run w) P)
