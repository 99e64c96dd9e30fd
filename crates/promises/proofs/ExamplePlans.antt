-- The small plans of the examples: that they are plan files, what is computed of them, and their complete runs, made and taken apart by Figure 2's own lines. No demand is used, nor a law that
-- proves one.
use mathlib.Core.Path.{◌≡◌, refl, sym, ap}
use mathlib.Core.Bool.{Bool, true, false, cond, false≢true}
use mathlib.Core.List.{List, [], ◌∷◌, ◌++◌}
use mathlib.Core.Option.{none, some}
use Prim.Native.Nat.{ℕ, zero, suc, ◌≤◌, ◌<◌}
use native.Mathlib.Omega.{arith}
use Rattle.std.specs.Prelude.{Ok}
use lib.Dec.{ltb}
use lib.ListN.{length, replicate, length-append}
use borrow.Author.Tests.{ltb-true, lt-ltb}
use Rattle.process.specs.Process.{Status, ok, fail, finishes, fails, choice, Process, leaf, node, entry, Run}
use Rattle.process.specs.Figure2.{f_done, f_leaf, f_choice_left, f_choice_right, Complete, c_ok, c_fail}
use Rattle.runs.specs.Beginnings.{Begins}
use Rattle.blocks.specs.Bounded.{every, total}
use Rattle.nodes.specs.Nodes.{form, FormRule, Nested, alone, nested, NodeRules}
use Rattle.nodes.specs.Fold.{fold_from}
use Rattle.bodies.specs.Types.{Types}
use Rattle.bodies.specs.Pairs.{Pairs}
use Rattle.bodies.specs.Rule.{action, not, or, rule_from}
use Rattle.plan.specs.PlanFile.{most_actions, most_pairs, Bytes, PlanFile}
use Rattle.plan.specs.Reading.{read_of}
use Rattle.plan.specs.Reading as reader
use Rattle.meaning.specs.Meaning.{meaning}
use Rattle.state.specs.State.{told_by, leaf_permits, may_come, replay, entries_from}
use Rattle.state.specs.declared.Entry.{Entry}
use Rattle.job.specs.Job.{fresh_job, start_of, take_of}
use Rattle.job.specs.Numbers.{end_number}
use Rattle.job.specs.Numbers as runner
use Rattle.job.specs.Offer.{offer, started, status_number, run_entry, record_of, Real, Sized}
use Rattle.job.specs.Demand2.{plan_process, Continues}
use Rattle.plainest.specs.Bytes.{Before, here, later}
use Rattle.judge.specs.Shown.{shown_entries, run_set, ShowsRun}
use Rattle.judge.specs.Demand3.{PlanRule, keeps, AllKeep}
use Rattle.promises.specs.Examples.{other_kind, plan_of, file, layout, process, fresh, ended, kept, kept_layout, choices, choices_layout}

-- a test of bytes
abbrev pub bytes_ok : List ℕ → Bool
bytes_ok [] = true
bytes_ok (x ∷ s) = cond (ltb x 256) (bytes_ok s) false

byte : (x : ℕ) (s : List ℕ) → x < 256 → Bytes s → Bytes (x ∷ s)
byte x s h b zero = h
byte x s h b (suc i) = b i

pub bytes : (s : List ℕ) → bytes_ok s ≡ true → Bytes s
bytes [] h = λ i. omega arith
bytes (x ∷ s) h = go (ltb x 256) refl (bytes s) h
  where
    go : (b : Bool) → ltb x 256 ≡ b → (bytes_ok s ≡ true → Bytes s) → cond b (bytes_ok s) false ≡ true → Bytes (x ∷ s)
    go true e rest k = byte x s (ltb-true _ _ e) (rest k)
    go false e rest k = absurd (false≢true k)

-- the plan with the type t, 1 to 3, is a plan file
pub plan_bytes : (t : ℕ) → t ≤ 3 → Bytes (plan_of t)
plan_bytes t h = let k : t < 256 = omega arith in bytes (plan_of t) (rw (lt-ltb t 256 k))

one_type : (t : ℕ) → 1 ≤ t → t ≤ 3 → Types (t ∷ [])
one_type t h k zero i = (h, k)
one_type t h k (suc n) i = absurd (omega arith)

no_pairs : Pairs 1 []
unfolding total
no_pairs = record {
  numbers = λ i h. absurd (omega arith);
  few = λ a. omega arith;
  different = λ i j h k. absurd (omega arith);
  apart = λ i j h k. absurd (omega arith);
}

only_node : (i : ℕ) → i < 1 → FormRule 1 (0 ∷ 0 ∷ 0 ∷ []) i
only_node zero h = record { known = omega arith; action = λ e. (omega arith, refl); plain = λ k m. absurd (omega arith); parts = λ k. absurd (omega arith) }
only_node (suc i) h = absurd (omega arith)

no_undo : (i : ℕ) → i < 1 → form (0 ∷ 0 ∷ 0 ∷ []) i ≡ 6 → ⊥
no_undo zero h e = omega arith
no_undo (suc i) h e = omega arith

no_nested : (n i : ℕ) → Nested (0 ∷ 0 ∷ 0 ∷ []) n i → ⊥
no_nested n i (alone h e) = no_undo i h e
no_nested n i (nested h e u m) = no_undo i h e

one_node : NodeRules 1 (0 ∷ 0 ∷ 0 ∷ [])
one_node = record { keep = only_node; once = λ j h. absurd (omega arith); shallow = λ i n. no_nested _ i n }

pub plan_file : (t : ℕ) → 1 ≤ t → t ≤ 3 → PlanFile most_actions most_pairs (plan_of t)
plan_file t h k = record {
  types = t ∷ [];
  pairs = [];
  nodes = 0 ∷ 0 ∷ 0 ∷ [];
  rule = 0 ∷ [];
  blocks = refl;
  hold = record {
    types_hold = record { size = record { number = 1; whole = refl; enough = omega arith; few = omega arith }; holds = one_type t h k };
    pairs_hold = record { size = record { number = 0; whole = refl; enough = omega arith; few = omega arith }; holds = no_pairs };
    nodes_hold = record { size = record { number = 1; whole = refl; enough = omega arith; few = omega arith }; holds = one_node };
    rule_holds = record { size = record { number = 1; whole = refl; enough = omega arith; few = omega arith }; holds = action {a = 0} (omega arith) };
  };
}

-- what is computed of it
pub accepted : read_of file ≡ Ok layout
unfolding every total fold_from rule_from
accepted = refl

pub reading_numbers : (reader.number_of (read_of other_kind) ≡ some 2) × (reader.number_of (read_of file) ≡ none)
unfolding every total fold_from rule_from
reading_numbers = (refl, refl)

pub starting_numbers : (runner.number_of (start_of other_kind).answer ≡ some 2) × (runner.number_of (start_of file).answer ≡ none)
unfolding every total fold_from rule_from
starting_numbers = (refl, refl)

pub other_leaf_refused : (s : Status) → runner.number_of (take_of (fresh_job file) (record { leaf = 1; outcome = status_number s })).answer ≡ some 11
unfolding every total fold_from rule_from told_by leaf_permits may_come replay entries_from
other_leaf_refused ok = refl
other_leaf_refused fail = refl

pub start_told : (t : ℕ) → ((started (plan_of t) layout).told.next ≡ 1) × (end_number (started (plan_of t) layout).told.end ≡ 0)
unfolding fold_from told_by
start_told t = (refl, refl)

-- its fresh job is real
pub fresh_sized : Sized (fresh_job file)
fresh_sized = record { file = refl; entries = refl; windows = refl; minute = omega arith }

pub fresh_is : fresh_job file ≡ (offer fresh []).job
unfolding offer
fresh_is = refl

pub fresh_empty : record_of (fresh_job file) ≡ []
unfolding entries_from
fresh_empty = refl

abbrev pub fresh_real : Real (fresh_job file)
fresh_real = record { file = file; layout = layout; accepted = accepted; entries = []; is = fresh_is }

-- its complete runs, and what begins one
pub finished_or_failed : (s : Status) → Complete process (entry 0 s ∷ []) s
finished_or_failed ok = c_ok (f_leaf refl)
finished_or_failed fail = c_fail (f_leaf refl) (c_ok f_done) refl

pub only_entry : {r : Run} {s : Status} → Complete process r s → r ≡ entry 0 s ∷ []
only_entry (c_ok (f_leaf h)) = refl
only_entry (c_fail (f_leaf h) (c_ok f_done) j) = sym j
only_entry {r = r} (c_fail (f_leaf h) (c_fail {p = p} {s = s} x _ _) j) = elim x [ ]

pub begins_short : (w : Run) → Begins process w → length w ≤ 1
begins_short w (z, s, c) = omega (arith, length-append w z, ap length (only_entry c))

pub begins_at_leaf : (w : Run) (n : ℕ) (s : Status) → Begins process (w ++ (entry n s ∷ [])) → n ≡ 0
begins_at_leaf [] n s (z, t, c) = let e = only_entry c in cc
begins_at_leaf (x ∷ w) n s (z, t, c) = absurd (omega (arith, length-append (w ++ (entry n s ∷ [])) z, length-append w (entry n s ∷ []), ap length (only_entry c)))

-- the entries that continue a record without entries, by what follows them
pub continues_empty : (w : Run) (e : Entry) (s : Status) → w ≡ [] → e.outcome ≡ status_number s → Begins process (entry e.leaf s ∷ []) → Continues (plan_process file layout) w e
unfolding fold_from
continues_empty w e s h k b = record { status = s; outcome = k; begins = rw h b }

pub ended_continues : (w : Run) (s : Status) → w ≡ [] → Continues (plan_process file layout) w (ended s)
ended_continues w s h = continues_empty w (ended s) s h refl ([], s, finished_or_failed s)

pub entry_recorded : (w : Run) (s : Status) → w ≡ [] → w ++ (run_entry (ended s) ∷ []) ≡ entry 0 s ∷ []
entry_recorded w ok h = rw h
entry_recorded w fail h = rw h

-- the one that leaves the set 0, and breaks the rule
abbrev pub file_rule : PlanRule file layout
file_rule = action {a = 0} (omega arith)

pub failed_breaks : keeps file layout file_rule (run_set file layout (entry 0 fail ∷ [])) ≡ false
unfolding meaning total
failed_breaks = refl

pub only_failed : (r : Run) (s : Status) → Complete process r s → run_set file layout r ≡ 0 → (r ≡ entry 0 fail ∷ []) × (s ≡ fail)
only_failed r ok c e = let one : run_set file layout r ≡ 1 = rw (only_entry c) in absurd (omega arith)
only_failed r fail c e = (only_entry c, refl)

-- its bytes are such as are shown
never_before : {l : List ℕ} → Before l l → ⊥
never_before (here h) = omega arith
never_before (later e b) = never_before b

pub shows_failed : ShowsRun file layout 0 (0 ∷ 2 ∷ replicate 124 0)
unfolding fold_from shown_entries
shows_failed = record {
  plainest = record {
    status = fail;
    complete = finished_or_failed fail;
    leaves = refl;
    fewest = λ q t c e. rw (only_failed q t c e).0 (omega arith);
    first = λ q t c e f b. never_before (rw (only_failed q t c e).0 at b);
  };
  long = refl;
  padded = refl;
}

-- the plan with the rule that no set breaks
pub kept_accepted : read_of kept ≡ Ok kept_layout
unfolding every total fold_from rule_from
kept_accepted = refl

abbrev pub kept_rule : PlanRule kept kept_layout
kept_rule = or {p = 0 ∷ []} {q = 0 ∷ 0x80 ∷ []} (action {a = 0} (omega arith)) (not {p = 0 ∷ []} (action {a = 0} (omega arith)))

kept_keeps : (s : Status) → keeps kept kept_layout kept_rule (run_set kept kept_layout (entry 0 s ∷ [])) ≡ true
unfolding meaning total
kept_keeps ok = refl
kept_keeps fail = refl

pub all_keep : AllKeep kept kept_layout kept_rule
unfolding fold_from
all_keep run s c = rw (only_entry c) (kept_keeps s)

-- the choice: its three runs
pub choices_accepted : read_of choices ≡ Ok choices_layout
unfolding every total fold_from rule_from
choices_accepted = refl

abbrev pub choices_rule : PlanRule choices choices_layout
choices_rule = action {a = 0} (omega arith)

abbrev pub chosen : Process
chosen = node choice (node choice (leaf 0 fails) (leaf 1 finishes)) (leaf 3 finishes)

pub skip_runs : Complete chosen (entry 1 ok ∷ []) ok
skip_runs = c_ok (f_choice_left (f_choice_right (f_leaf refl)))

pub skip_breaks : keeps choices choices_layout choices_rule (run_set choices choices_layout (entry 1 ok ∷ [])) ≡ false
unfolding meaning total
skip_breaks = refl

pub data Chosen : Run → Type 0 where
  throw_0 : {r : Run} → r ≡ entry 0 fail ∷ [] → Chosen r
  skip_1 : {r : Run} → r ≡ entry 1 ok ∷ [] → Chosen r
  skip_3 : {r : Run} → r ≡ entry 3 ok ∷ [] → Chosen r

pub three_runs : {r : Run} {s : Status} → Complete chosen r s → Chosen r
three_runs (c_ok (f_choice_left (f_choice_left (f_leaf h)))) = absurd (false≢true h)
three_runs (c_ok (f_choice_left (f_choice_right (f_leaf h)))) = skip_1 refl
three_runs (c_ok (f_choice_right (f_leaf h))) = skip_3 refl
three_runs (c_fail (f_choice_left (f_choice_left (f_leaf h))) (c_ok f_done) j) = throw_0 (sym j)
three_runs {r = r} (c_fail (f_choice_left (f_choice_left (f_leaf h))) (c_fail {p = p} {s = s} x _ _) j) = elim x [ ]
three_runs (c_fail (f_choice_left (f_choice_right (f_leaf h))) c j) = absurd (false≢true h)
three_runs (c_fail (f_choice_right (f_leaf h)) c j) = absurd (false≢true h)
