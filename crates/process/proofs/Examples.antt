-- Worked examples of Figure 2: the report's Examples 1 and 2, whole; for each form a run that a wrong rule of the figure would lose; and for
-- a parallel what all its runs are like, which a rule too many would break.
use mathlib.Core.Path.{◌≡◌, refl, sym, ◌∙◌, ap}
use mathlib.Core.Bool.{Bool, true, false, true≢false}
use mathlib.Core.List.{List, [], ◌∷◌, ◌++◌, append-nil}
use Prim.Native.Nat.{ℕ, ◌+◌}
use native.Mathlib.Omega.{arith}
use lib.ListN.{length, length-append}
use Rattle.process.specs.Process.{Status, ok, fail, Kind, finishes, fails, either, permits, sequence, parallel, choice, compensation, handler, Process, done, leaf, node, entry, Run}
use Rattle.process.specs.Figure2.{Interleaving, from_left, from_right, neither, Forward, f_done, f_leaf, f_sequence, f_sequence_fails, f_parallel, f_choice_left, f_choice_right, f_compensation, f_compensation_fails, f_handler, f_handler_fails, Complete, c_ok, c_fail}

pub not_both : {A : Type 0} {test : Bool} → test ≡ true → test ≡ false → A
not_both p q = absurd (true≢false (sym p ∙ q))

-- Example 1. SimpleOrder = Billing ; ProcessOrder, Billing = Charge ÷ Credit. Charge and ProcessOrder may fail, Credit may not.
abbrev pub charge : Process
charge = leaf 0 either

abbrev pub credit : Process
credit = leaf 1 finishes

abbrev pub process_order : Process
process_order = leaf 3 either

abbrev pub simple_order : Process
simple_order = node sequence (node compensation charge credit) process_order

-- Its Π: (Charge ProcessOrder⟨✓⟩, skip ; Credit), (Charge⟨×⟩, skip ; Credit), (⟨×⟩, skip). The report writes the second undo as Credit.
data OrderForward : Run → Status → Process → Type 0 where
  ordered : OrderForward (entry 0 ok ∷ entry 3 ok ∷ []) ok (node sequence done credit)
  order_failed : OrderForward (entry 0 ok ∷ entry 3 fail ∷ []) fail (node sequence done credit)
  charge_failed : OrderForward (entry 0 fail ∷ []) fail done

order_forward : {r : Run} {s : Status} {U : Process} → Forward simple_order r s U → OrderForward r s U
order_forward (f_sequence {s = ok} (f_compensation (f_leaf _)) (f_leaf _) e) = rw (← e) ordered
order_forward (f_sequence {s = fail} (f_compensation (f_leaf _)) (f_leaf _) e) = rw (← e) order_failed
order_forward (f_sequence_fails (f_compensation_fails (f_leaf _))) = charge_failed

forward_order : {r : Run} {s : Status} {U : Process} → OrderForward r s U → Forward simple_order r s U
forward_order ordered = f_sequence (f_compensation (f_leaf refl)) (f_leaf refl) refl
forward_order order_failed = f_sequence (f_compensation (f_leaf refl)) (f_leaf refl) refl
forward_order charge_failed = f_sequence_fails (f_compensation_fails (f_leaf refl))

-- Its ⟦ ⟧: Charge ProcessOrder⟨✓⟩, Charge Credit⟨×⟩, skip⟨×⟩.
data OrderComplete : Run → Status → Type 0 where
  kept : OrderComplete (entry 0 ok ∷ entry 3 ok ∷ []) ok
  credited : OrderComplete (entry 0 ok ∷ entry 3 fail ∷ entry 1 ok ∷ []) fail
  not_charged : OrderComplete (entry 0 fail ∷ []) fail

-- Its undos run Credit alone, or nothing.
credit_runs : {r : Run} {s : Status} → Complete (node sequence done credit) r s → r ≡ entry 1 ok ∷ []
credit_runs (c_ok (f_sequence f_done (f_leaf _) e)) = rw (← e)
credit_runs (c_fail (f_sequence f_done (f_leaf m) e) _ _) = not_both m refl
credit_runs (c_fail (f_sequence_fails x) _ _) = elim x [ ]

done_runs : {r : Run} {s : Status} → Complete done r s → r ≡ []
done_runs (c_ok f_done) = refl
done_runs (c_fail x _ _) = elim x [ ]

order_complete : {r : Run} {s : Status} → Complete simple_order r s → OrderComplete r s
order_complete (c_ok f) = succeeded (order_forward f)
  where
    succeeded : {r : Run} {U : Process} → OrderForward r ok U → OrderComplete r ok
    succeeded ordered = kept
order_complete (c_fail f c e) = failed (order_forward f) c e
  where
    failed : {p p' r : Run} {s : Status} {U : Process} → OrderForward p fail U → Complete U p' s → p ++ p' ≡ r → OrderComplete r fail
    failed order_failed c e = rw (← e, credit_runs c) credited
    failed charge_failed c e = rw (← e, done_runs c) not_charged

complete_order : {r : Run} {s : Status} → OrderComplete r s → Complete simple_order r s
complete_order kept = c_ok (forward_order ordered)
complete_order credited = c_fail (forward_order order_failed) (c_ok (f_sequence f_done (f_leaf refl) refl)) refl
complete_order not_charged = c_fail (forward_order charge_failed) (c_ok f_done) refl

-- Example 2. Its executions, the sets of actions that finished: {Charge, ProcessOrder}, {Charge, Credit}, ∅.
abbrev finished : Run → List ℕ
finished [] = []
finished (entry n ok ∷ w) = n ∷ finished w
finished (entry n fail ∷ w) = finished w

data OrderExecution : List ℕ → Type 0 where
  charged_and_processed : OrderExecution (0 ∷ 3 ∷ [])
  charged_and_credited : OrderExecution (0 ∷ 1 ∷ [])
  nothing_left : OrderExecution []

abbrev Executed : List ℕ → Type 0
Executed actions = (r : Run) × (s : Status) × Complete simple_order r s × (finished r ≡ actions)

order_execution : {r : Run} {s : Status} → OrderComplete r s → OrderExecution (finished r)
order_execution kept = charged_and_processed
order_execution credited = charged_and_credited
order_execution not_charged = nothing_left

order_executions : {actions : List ℕ} → Executed actions → OrderExecution actions
order_executions (r, s, c, e) = rw e at (order_execution (order_complete c))

executions_order : {actions : List ℕ} → OrderExecution actions → Executed actions
executions_order charged_and_processed = (_, _, complete_order kept, refl)
executions_order charged_and_credited = (_, _, complete_order credited, refl)
executions_order nothing_left = (_, _, complete_order not_charged, refl)

-- Parallel, P3 as document 02 has it: a throw beside an action. Both begin, in either order, and so the set 1 is the only one.
abbrev pub beside : Process
beside = node parallel (leaf 0 fails) (leaf 1 finishes)

data BesideComplete : Run → Status → Type 0 where
  thrown_first : BesideComplete (entry 0 fail ∷ entry 1 ok ∷ []) fail
  thrown_last : BesideComplete (entry 1 ok ∷ entry 0 fail ∷ []) fail

pub not_ok : {A : Type 0} → fail ≡ ok → A
not_ok e = not_both {test = permits finishes ok} refl (ap (permits finishes) (sym e))

no_undos : {r : Run} {s : Status} → Complete (node parallel done done) r s → r ≡ []
no_undos (c_ok (f_parallel f_done f_done neither e)) = refl
no_undos (c_fail (f_parallel f_done f_done i e) c z) = not_ok (sym e)

beside_complete : {r : Run} {s : Status} → Complete beside r s → BesideComplete r s
beside_complete (c_ok (f_parallel {s = ok} (f_leaf m) b i e)) = not_both m refl
beside_complete (c_ok (f_parallel {s = fail} a b i e)) = not_ok e
beside_complete (c_fail (f_parallel {s = ok} (f_leaf m) b i e) c z) = not_both m refl
beside_complete (c_fail (f_parallel {s = fail} {t = fail} a (f_leaf m) i e) c z) = not_both m refl
beside_complete (c_fail (f_parallel {s = fail} {t = ok} (f_leaf _) (f_leaf _) (from_left (from_right neither)) e) c z) = rw (← z, no_undos c) thrown_first
beside_complete (c_fail (f_parallel {s = fail} {t = ok} (f_leaf _) (f_leaf _) (from_right (from_left neither)) e) c z) = rw (← z, no_undos c) thrown_last

complete_beside : {r : Run} {s : Status} → BesideComplete r s → Complete beside r s
complete_beside thrown_first = c_fail (f_parallel (f_leaf refl) (f_leaf refl) (from_left (from_right neither)) refl) (c_ok (f_parallel f_done f_done neither refl)) refl
complete_beside thrown_last = c_fail (f_parallel (f_leaf refl) (f_leaf refl) (from_right (from_left neither)) refl) (c_ok (f_parallel f_done f_done neither refl)) refl

-- Two leaves side by side, of any kinds, whichever fails: each has its entry.
interleaved_length : {p q r : Run} → Interleaving p q r → length r ≡ length p + length q
interleaved_length neither = refl
interleaved_length (from_left i) = omega (arith, interleaved_length i)
interleaved_length (from_right i) = omega (arith, interleaved_length i)

two_entries : {i j : ℕ} {k l : Kind} {r : Run} {s : Status} {U : Process} → Forward (node parallel (leaf i k) (leaf j l)) r s U → (length r ≡ 2) × (U ≡ node parallel done done)
two_entries (f_parallel (f_leaf _) (f_leaf _) i e) = (interleaved_length i, refl)

both_begin : (k l : Kind) {r : Run} {s : Status} → Complete (node parallel (leaf 0 k) (leaf 1 l)) r s → length r ≡ 2
both_begin k l (c_ok f) = (two_entries f).0
both_begin k l (c_fail f c z) = let (h, e) = two_entries f in rw (← z, no_undos (rw e at c), append-nil) h

-- And so their undos, side by side: (0 with undo 1) beside (2 with undo 3), then a throw.
abbrev pub undone_beside : Kind → Kind → Process
undone_beside k l = node sequence (node parallel (node compensation (leaf 0 finishes) (leaf 1 k)) (node compensation (leaf 2 finishes) (leaf 3 l))) (leaf 4 fails)

record Compensated (U : Process) (r : Run) (s : Status) (U' : Process) : Type 0 where
  succeeded : ok ≡ s
  one_entry : length r ≡ 1
  its_undo : U' ≡ U

compensated : {n : ℕ} {U U' : Process} {r : Run} {s : Status} → Forward (node compensation (leaf n finishes) U) r s U' → Compensated U r s U'
compensated (f_compensation (f_leaf _)) = record { succeeded = refl; one_entry = refl; its_undo = refl }
compensated (f_compensation_fails (f_leaf m)) = not_both m refl

nothing_undone : {r : Run} {s : Status} → Complete (node sequence (node parallel done done) done) r s → r ≡ []
nothing_undone (c_ok (f_sequence (f_parallel f_done f_done neither e) f_done z)) = sym z
nothing_undone (c_fail (f_sequence_fails (f_parallel f_done f_done i e)) c z) = not_ok (sym e)
nothing_undone (c_fail (f_sequence _ x _) _ _) = elim x [ ]

undos_run : {k l : Kind} {r : Run} {s : Status} → Complete (node sequence done (node parallel (leaf 1 k) (leaf 3 l))) r s → length r ≡ 2
undos_run (c_ok (f_sequence f_done b z)) = rw (← z) (two_entries b).0
undos_run (c_fail (f_sequence f_done b z) c i) = let (h, e) = two_entries b in rw (← i, ← z, nothing_undone (rw e at c), append-nil) h
undos_run (c_fail (f_sequence_fails x) _ _) = elim x [ ]

undos_both_begin : (k l : Kind) {r : Run} {s : Status} → Complete (undone_beside k l) r s → length r ≡ 5
undos_both_begin k l (c_ok (f_sequence a (f_leaf m) z)) = not_both m refl
undos_both_begin k l (c_fail (f_sequence (f_parallel a b i e) (f_leaf m) z) c w) =
    let x = compensated a in
    let y = compensated b in
    rw (← w, ← z) (simp length-append (omega (arith, interleaved_length i, x.one_entry, y.one_entry, undos_run (rw (x.its_undo, y.its_undo) at c))))
undos_both_begin k l (c_fail (f_sequence_fails (f_parallel a b i e)) c w) = not_ok (sym e ∙ rw (← (compensated a).succeeded, ← (compensated b).succeeded))

-- A side does not stop where the other has failed: a leaf beside two in turn, which both come.
in_turn : {r : Run} {s : Status} {U : Process} → Forward (node sequence (leaf 1 finishes) (leaf 2 finishes)) r s U → length r ≡ 2
in_turn (f_sequence (f_leaf _) (f_leaf _) z) = rw (← z)
in_turn (f_sequence_fails (f_leaf m)) = not_both m refl

both_end : (k : Kind) {r : Run} {s : Status} {U : Process} → Forward (node parallel (leaf 0 k) (node sequence (leaf 1 finishes) (leaf 2 finishes))) r s U → length r ≡ 3
both_end k (f_parallel (f_leaf _) b i e) = omega (arith, interleaved_length i, in_turn b)

-- Where the right side alone fails the whole fails, and both sides are undone; forward and undoing they mix.
mixed : Complete (node parallel (node compensation (leaf 0 finishes) (leaf 1 finishes)) (node sequence (node compensation (leaf 3 finishes) (leaf 4 finishes)) (leaf 6 fails))) (entry 3 ok ∷ entry 0 ok ∷ entry 6 fail ∷ entry 4 ok ∷ entry 1 ok ∷ []) fail
mixed =
    c_fail (f_parallel (f_compensation (f_leaf refl)) (f_sequence (f_compensation (f_leaf refl)) (f_leaf refl) refl) (from_right (from_left (from_right neither))) refl)
    (c_ok (f_parallel (f_leaf refl) (f_sequence f_done (f_leaf refl) refl) (from_right (from_left neither)) refl)) refl

-- Choice: exactly one side.
left_side : Complete (node choice (leaf 0 finishes) (leaf 1 fails)) (entry 0 ok ∷ []) ok
left_side = c_ok (f_choice_left (f_leaf refl))

right_side : Complete (node choice (leaf 0 finishes) (leaf 1 fails)) (entry 1 fail ∷ []) fail
right_side = c_fail (f_choice_right (f_leaf refl)) (c_ok f_done) refl

-- Handler, document 01's P4: the undo of the left fails, and the right runs all the same.
handled : Complete (node handler (node sequence (node compensation (leaf 0 finishes) (leaf 1 either)) (leaf 3 fails)) (leaf 5 finishes)) (entry 0 ok ∷ entry 3 fail ∷ entry 1 fail ∷ entry 5 ok ∷ []) ok
handled =
    c_ok
    (f_handler_fails (f_sequence (f_compensation (f_leaf refl)) (f_leaf refl) refl)
    (c_fail (f_sequence f_done (f_leaf refl) refl) (c_ok (f_sequence f_done f_done refl)) refl) (f_leaf refl) refl)

not_handled : Complete (node handler (leaf 0 finishes) (leaf 1 finishes)) (entry 0 ok ∷ []) ok
not_handled = c_ok (f_handler (f_leaf refl))

-- Compensation, document 01's P5: the outer undo replaces the inner one.
replaced : Complete (node sequence (node compensation (node compensation (leaf 0 finishes) (leaf 1 finishes)) (leaf 3 finishes)) (leaf 5 fails)) (entry 0 ok ∷ entry 5 fail ∷ entry 3 ok ∷ []) fail
replaced =
    c_fail (f_sequence (f_compensation (f_compensation (f_leaf refl))) (f_leaf refl) refl) (c_ok (f_sequence f_done (f_leaf refl) refl)) refl

-- Sequence, document 01's P6: undone from the right, and where the right's undo fails the left's does not run.
stops : Complete (node sequence (node sequence (node compensation (leaf 0 finishes) (leaf 1 finishes)) (node compensation (leaf 3 finishes) (leaf 4 fails))) (leaf 7 fails)) (entry 0 ok ∷ entry 3 ok ∷ entry 7 fail ∷ entry 4 fail ∷ []) fail
stops =
    c_fail (f_sequence (f_sequence (f_compensation (f_leaf refl)) (f_compensation (f_leaf refl)) refl) (f_leaf refl) refl)
    (c_fail (f_sequence f_done (f_sequence_fails (f_leaf refl)) refl) (c_ok (f_sequence f_done f_done refl)) refl) refl

-- A throw does not finish, and a skip does not fail.
throw_fails : {n : ℕ} {r : Run} {U : Process} → Forward (leaf n fails) r ok U → ⊥
throw_fails (f_leaf m) = not_both m refl

skip_finishes : {n : ℕ} {r : Run} {U : Process} → Forward (leaf n finishes) r fail U → ⊥
skip_finishes (f_leaf m) = not_both m refl
