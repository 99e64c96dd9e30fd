-- The traces of a plan: its process as the report writes it, read from the node list with no leaf numbers, and what document 01 says of its runs:
-- "Striking out skips and failed entries gives the figure's trace without its skips." It holds for any two lists of bytes, and so for the types
-- and nodes of every accepted file. `plan_traces` in proofs/ proves it.
use Rattle.std.specs.Prelude.{cond, List, ◌↔◌, ◌≡◌, ℕ, ◌-◌, eqb, get_or}
use Rattle.process.specs.Process.{Status, Kind}
use Rattle.process.specs.Forms.{form_of}
use Rattle.process.specs.Traces.{Atom, skip, throw, action, Term, atom, compose, Trace, Whole, term_of, Labelled, StruckComplete}
use Rattle.nodes.specs.Nodes.{count, form, left}
use Rattle.nodes.specs.Fold.{fold_at}
use Rattle.plan.specs.Tree.{type_kind, process_of}

-- "0 action (left is its number, right is 0), 1 skip, 2 throw"
abbrev pub atom_of : List ℕ → ℕ → Atom
atom_of b i = cond (eqb (form b i) 0) (action (left b i)) (cond (eqb (form b i) 1) skip throw)

-- the report's Γ: what each action's type permits
abbrev pub kinds_of : List ℕ → ℕ → Kind
kinds_of types a = type_kind (get_or types a 0)

-- the whole process, as the report writes it
abbrev pub plan_term : List ℕ → Term
plan_term b = fold_at (λ i. atom (atom_of b i)) (λ i P Q. compose (form_of (form b i)) P Q) b (count b - 1)

pub record PlanTraces : Type 0 where
  -- each leaf of the plan's process may do what Γ says of its atomic action
  pub labelled : (types nodes : List ℕ) → Labelled (kinds_of types) (atom_of nodes) (process_of types nodes)
  -- with its leaves for these, it is the plan's process as the report writes it
  pub term : (types nodes : List ℕ) → term_of (atom_of nodes) (process_of types nodes) ≡ plan_term nodes
  -- whose traces are exactly the plan's complete runs with skips and failed entries struck out
  pub traces : (types nodes : List ℕ) (t : Trace) (s : Status)
      → Whole (kinds_of types) (plan_term nodes) t s ↔ StruckComplete (atom_of nodes) (process_of types nodes) t s
