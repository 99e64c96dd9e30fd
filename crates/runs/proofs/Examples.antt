-- Worked examples of the cells: the report's SimpleOrder, two sides of a parallel and of its undo, and an undo that fails and is undone itself.
use mathlib.Core.Path.{◌≡◌, refl}
use mathlib.Core.List.{[], ◌∷◌, ◌++◌}
use mathlib.Core.Logic.{◌⊎◌, inl, inr}
use Prim.Native.Nat.{ℕ}
use native.Mathlib.Omega.{arith}
use Rattle.process.proofs.Examples.{simple_order, beside, undone_beside}
use Rattle.process.specs.Process.{ok, fail, finishes, fails, either, sequence, compensation, handler, Process, leaf, node, entry, Run}
use Rattle.process.specs.Figure2.{f_done, f_leaf, f_sequence, f_compensation, Complete, c_ok, c_fail}
use Rattle.runs.specs.declared.Ended.TheVariants.{Open, Succeeded, Failed}
use Rattle.runs.specs.Cells.{told_ended, told_next}
use Rattle.runs.specs.ThreeLevels.{leaf_three, node_three, told_three}
use Rattle.runs.specs.Beginnings.{Beginnings}
use Rattle.runs.proofs.Beginnings.{beginnings}
use Rattle.process.specs.Depth.{undo_depth, most_undos}

-- What the cells tell of it.
order_start : (told_next most_undos simple_order [] ≡ 1) × (told_ended most_undos simple_order [] ≡ Open)
order_start = (refl, refl)

order_charged : (told_next most_undos simple_order (entry 0 ok ∷ []) ≡ 8) × (told_ended most_undos simple_order (entry 0 ok ∷ []) ≡ Open)
order_charged = (refl, refl)

order_undoes : (told_next most_undos simple_order (entry 0 ok ∷ entry 3 fail ∷ []) ≡ 2) × (told_ended most_undos simple_order (entry 0 ok ∷ entry 3 fail ∷ []) ≡ Open)
order_undoes = (refl, refl)

order_credited : (told_next most_undos simple_order (entry 0 ok ∷ entry 3 fail ∷ entry 1 ok ∷ []) ≡ 0) × (told_ended most_undos simple_order (entry 0 ok ∷ entry 3 fail ∷ entry 1 ok ∷ []) ≡ Failed)
order_credited = (refl, refl)

-- The same by the code's definitions, from the node numbers and forms of its plan file.
order_code : told_three (node_three 3 (node_three 6 (leaf_three 0 Succeeded) (leaf_three 1 Open)) (leaf_three 3 Failed)) ≡ record { ended = Open; next = 2 }
order_code = refl

-- The theorem at it.
order_told : Beginnings most_undos simple_order
order_told = beginnings most_undos simple_order ((tt, tt), tt) ((tt, tt, λ n h i. omega arith), tt, λ n h i. apart h i) (omega arith)
  where
    apart : {n : ℕ} → (n ≡ 0) ⊎ (n ≡ 1) → n ≡ 3 → ⊥
    apart (inl h) i = omega arith
    apart (inr h) i = omega arith

-- Document 01's P3, a throw beside an action: where the throw has come the run may not end, and the action, leaf 1, is next.
beside_waits : (told_next most_undos beside (entry 0 fail ∷ []) ≡ 2) × (told_ended most_undos beside (entry 0 fail ∷ []) ≡ Open)
beside_waits = (refl, refl)

-- Two undos side by side, of which one, leaf 1, has failed: the other, leaf 3, is still to come.
abbrev half_undone : Run
half_undone = entry 0 ok ∷ entry 2 ok ∷ entry 4 fail ∷ entry 1 fail ∷ []

undos_wait : (told_next most_undos (undone_beside fails finishes) half_undone ≡ 8) × (told_ended most_undos (undone_beside fails finishes) half_undone ≡ Open)
undos_wait = (refl, refl)

undos_end : (told_next most_undos (undone_beside fails finishes) (half_undone ++ (entry 3 ok ∷ [])) ≡ 0) × (told_ended most_undos (undone_beside fails finishes) (half_undone ++ (entry 3 ok ∷ [])) ≡ Failed)
undos_end = (refl, refl)

-- An undo that fails and is undone itself: A ÷ ((U ÷ R) ; V), then a throw. The undo U ; V runs; where V fails, R undoes U.
abbrev deep : Process
deep = node sequence (node compensation (leaf 0 finishes) (node sequence (node compensation (leaf 1 finishes) (leaf 2 either)) (leaf 4 either))) (leaf 7 fails)

deep_most : undo_depth deep ≡ most_undos
deep_most = refl

abbrev undoing : Run
undoing = entry 0 ok ∷ entry 7 fail ∷ entry 1 ok ∷ []

-- After U leaf 4, V, is next, and not yet leaf 2, R.
deep_goes_on : (told_next most_undos deep undoing ≡ 16) × (told_ended most_undos deep undoing ≡ Open)
deep_goes_on = (refl, refl)

-- Where V finishes the undo has succeeded, and R does not run.
deep_undone : (told_next most_undos deep (undoing ++ (entry 4 ok ∷ [])) ≡ 0) × (told_ended most_undos deep (undoing ++ (entry 4 ok ∷ [])) ≡ Failed)
deep_undone = (refl, refl)

-- Where V fails the run may not end, and R is next; after R it may end, whether or not R finished.
deep_undoes : (told_next most_undos deep (undoing ++ (entry 4 fail ∷ [])) ≡ 4) × (told_ended most_undos deep (undoing ++ (entry 4 fail ∷ [])) ≡ Open)
deep_undoes = (refl, refl)

deep_ends : (told_next most_undos deep (undoing ++ (entry 4 fail ∷ entry 2 ok ∷ [])) ≡ 0) × (told_ended most_undos deep (undoing ++ (entry 4 fail ∷ entry 2 ok ∷ [])) ≡ Failed)
deep_ends = (refl, refl)

deep_ends_failed : (told_next most_undos deep (undoing ++ (entry 4 fail ∷ entry 2 fail ∷ [])) ≡ 0) × (told_ended most_undos deep (undoing ++ (entry 4 fail ∷ entry 2 fail ∷ [])) ≡ Failed)
deep_ends_failed = (refl, refl)

-- And so by Figure 2.
deep_complete : Complete deep (undoing ++ (entry 4 fail ∷ entry 2 ok ∷ [])) fail
deep_complete =
    c_fail (f_sequence (f_compensation (f_leaf refl)) (f_leaf refl) refl)
    (c_fail (f_sequence f_done (f_sequence (f_compensation (f_leaf refl)) (f_leaf refl) refl) refl) (c_ok (f_sequence (f_sequence f_done (f_leaf refl) refl) f_done refl)) refl) refl

-- By the code's definitions, where V has failed.
deep_code : told_three (node_three 3 (node_three 6 (leaf_three 0 Succeeded) (node_three 3 (node_three 6 (leaf_three 1 Succeeded) (leaf_three 2 Open)) (leaf_three 4 Failed))) (leaf_three 7 Failed)) ≡ record { ended = Open; next = 4 }
deep_code = refl

-- With a handler, leaf 9: it is next where R has run, and not before.
abbrev handled : Process
handled = node handler deep (leaf 9 finishes)

handled_waits : (told_next most_undos handled (undoing ++ (entry 4 fail ∷ [])) ≡ 4) × (told_ended most_undos handled (undoing ++ (entry 4 fail ∷ [])) ≡ Open)
handled_waits = (refl, refl)

handled_begins : (told_next most_undos handled (undoing ++ (entry 4 fail ∷ entry 2 fail ∷ [])) ≡ 512) × (told_ended most_undos handled (undoing ++ (entry 4 fail ∷ entry 2 fail ∷ [])) ≡ Open)
handled_begins = (refl, refl)
