-- The theorem under the runner: after a list of entries that begins a run of a plan, the cells tell exactly the entries that may
-- follow, and exactly how the run may end here; and a run that may end does not go on. It holds for undos of any depth. `beginnings` in
-- proofs/ proves it.
use Rattle.std.specs.Prelude.{◌≡◌, [], ◌∷◌, ◌++◌, ◌⊎◌, ◌↔◌, ℕ, ◌+◌, ◌≤◌, eqb, length, cond}
use Rattle.process.specs.Process.{Status, Process, done, leaf, node, entry, Run}
use Rattle.process.specs.Figure2.{Complete}
use Rattle.runs.specs.Cells.{ending, Holds, told_ended, told_next}
use Rattle.process.specs.Leaves.{AsWritten, LeafPermits, Distinct}
use Rattle.process.specs.Depth.{undo_depth}

-- A number of each leaf, summed over the leaves of a process, and over the entries of a run.
abbrev pub sum_of_leaves : (ℕ → ℕ) → Process → ℕ
sum_of_leaves number done = 0
sum_of_leaves number (leaf n k) = number n
sum_of_leaves number (node f P Q) = sum_of_leaves number P + sum_of_leaves number Q

abbrev pub sum_of_run : (ℕ → ℕ) → Run → ℕ
sum_of_run number [] = 0
sum_of_run number (entry n s ∷ w) = number n + sum_of_run number w

-- How many leaves a process has; how often a leaf occurs in a run.
abbrev pub leaf_count : Process → ℕ
leaf_count P = sum_of_leaves (λ n. 1) P

abbrev pub occurrences : ℕ → Run → ℕ
occurrences n w = sum_of_run (λ m. cond (eqb n m) 1 0) w

-- The entries w begin a run of P: they go on to a complete one.
abbrev pub Begins : Process → Run → Type 0
Begins P w = (z : Run) × (s : Status) × Complete P (w ++ z) s

-- No complete run of P is a proper beginning of another, and it has one status.
abbrev pub NoPrefix : Process → Type 0
NoPrefix P = (w z : Run) (s t : Status) → Complete P w s → Complete P (w ++ z) t → (z ≡ []) × (s ≡ t)

-- What the cells with so many levels of undos tell of P.
pub record Beginnings (depth : ℕ) (P : Process) : Type 0 where
  -- the empty list begins a run
  pub start : Begins P []
  -- a beginning of a beginning begins a run
  pub cut : (w z : Run) → Begins P (w ++ z) → Begins P w
  -- an entry continues a beginning exactly where its leaf is told as next and permits its status
  pub next : (w : Run) → Begins P w → (n : ℕ) (s : Status) → Begins P (w ++ (entry n s ∷ [])) ↔ (Holds (told_next depth P w) n × LeafPermits n s P)
  -- a leaf that is told as next is one that may come, with some status
  pub told_leaf : (w : Run) → Begins P w → (n : ℕ) → Holds (told_next depth P w) n → (s : Status) × LeafPermits n s P
  -- how the run may end is told exactly where it is complete
  pub ends : (w : Run) → Begins P w → (s : Status) → (told_ended depth P w ≡ ending s) ↔ Complete P w s
  -- from each beginning an end is reached, with at most the leaves that have not run
  pub reaches : (w : Run) → Begins P w → (z : Run) × (s : Status) × Complete P (w ++ z) s × (length w + length z ≤ leaf_count P)
  -- the run may end here, or some leaf is told as next
  pub goes_on : (w : Run) → Begins P w → ((s : Status) × (told_ended depth P w ≡ ending s)) ⊎ ((n : ℕ) × Holds (told_next depth P w) n)
  -- and never both: where the run may end, no leaf is told as next
  pub over : (w : Run) (s : Status) → told_ended depth P w ≡ ending s → told_next depth P w ≡ 0
  -- the same of runs: what is complete does not go on
  pub no_prefix : NoPrefix P
  -- "a leaf occurs at most once in a run": in a beginning, and so in a complete run
  pub once : (w : Run) → Begins P w → (n : ℕ) → occurrences n w ≤ 1

-- Of a process as a plan writes it, of which the undos are no deeper than the cells' levels.
abbrev pub BeginningsTold : Type 0
BeginningsTold = (depth : ℕ) (P : Process) → AsWritten P → Distinct P → undo_depth P ≤ depth → Beginnings depth P
