-- The outcome chart for undos of any depth: which code a node has from the codes of its two sides, a rule for each line of Figure 2, and
-- which sets a process leaves under a code.
use Rattle.std.specs.Prelude.{[], ◌∷◌, ◌≡◌, ℕ}
use Rattle.process.specs.Process.{Status, ok, fail, Kind, Permits, Form, sequence, parallel, choice, compensation, handler, Process, done, leaf, node, entry}
use Rattle.process.specs.Figure2.{both}
use Rattle.outcomes.specs.Codes.{Code, Ends}
use Rattle.outcomes.specs.Sets.{Sets, added}

-- Join f a b c: a node of the form f has the code c where its left side has a and its right side b.
pub data Join : Form → Code → Code → Code → Type 0 where
  -- a node that did not run
  j_none : {f : Form} → Join f [] [] []
  -- P ; Q, first set: Q' ; P' is undone from the right, so the sides change places above
  j_sequence : {a b c : Code} {s : Status} → Join sequence b a c → Join sequence (ok ∷ a) (s ∷ b) (s ∷ c)
  -- P ; Q, second set: P failed, and its undo is the node's
  j_sequence_fails : {a : Code} → Join sequence (fail ∷ a) [] (fail ∷ a)
  -- P ∥ Q: both ran; P' ∥ Q' is undone in parallel
  j_parallel : {a b c : Code} {s t u : Status} → Join parallel a b c → both s t ≡ u → Join parallel (s ∷ a) (t ∷ b) (u ∷ c)
  -- P □ Q, first set
  j_choice_left : {a : Code} {s : Status} → Join choice (s ∷ a) [] (s ∷ a)
  -- P □ Q, second set
  j_choice_right : {b : Code} {s : Status} → Join choice [] (s ∷ b) (s ∷ b)
  -- P ÷ Q, first set: P succeeded, its own undo is dropped, and Q is the undo
  j_compensation : {b : Code} → Join compensation (ok ∷ []) b (ok ∷ b)
  -- P ÷ Q, second set: P failed, and its own undo remains
  j_compensation_fails : {a : Code} → Join compensation (fail ∷ a) [] (fail ∷ a)
  -- P ▷ Q, first set: P succeeded
  j_handler : {a : Code} → Join handler (ok ∷ a) [] (ok ∷ a)
  -- P ▷ Q, second set: P failed, and its undo ran to the end, with any status; then Q ran
  j_handler_fails : {a b : Code} {s t : Status} → Ends a s → Join handler (fail ∷ a) (t ∷ b) (t ∷ b)

module _ (S : Sets) where
  -- InChart P c X: the set X is derived for the process P under the code c.
  pub data InChart : Process → Code → S.Set → Type 0 where
    -- code 0 has the empty set only
    in_none : {P : Process} → InChart P [] S.empty
    -- the undo of a leaf: runs nothing and succeeds
    in_done : {c : Code} {X : S.Set} → InChart done c X → InChart done (ok ∷ c) X
    -- a leaf, with what its outcome adds
    in_leaf : {n : ℕ} {k : Kind} {s : Status} {c : Code} {X : S.Set} → Permits k s → InChart done c X → InChart (leaf n k) (s ∷ c) (S.union (added S (entry n s)) X)
    -- a node: the union of a left set and a right set
    in_node : {f : Form} {P Q : Process} {a b c : Code} {A B X : S.Set} → InChart P a A → InChart Q b B → Join f a b c → S.union A B ≡ X → InChart (node f P Q) c X
