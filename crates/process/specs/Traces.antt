-- Figures 1 and 2 of the report (TR-070011) over its own traces, with nothing of runs or leaves. `Traces Γ P p s U` is the report's
-- (p⟨s⟩, U) ∈ Π(P), and `Whole Γ P p s` is p⟨s⟩ ∈ ⟦P⟧. The papers change three points: a failed action leaves nothing in a trace (document 01),
-- a trace is "without its skips" (document 01), and of the rule for P ∥ Q only the first set stays (document 02, N6).
--
-- Then what document 01 says of runs: "Striking out skips and failed entries gives the figure's trace without its skips." That is
-- `TracesAreRuns`, for undos of any depth; `traces_are_runs` in proofs/ proves it.
use Rattle.std.specs.Prelude.{cond, List, [], ◌∷◌, ◌++◌, ◌↔◌, ◌≡◌, ℕ, eqb}
use Rattle.process.specs.Process.{Status, ok, fail, Kind, finishes, fails, either, Permits, Form, sequence, parallel, choice, compensation, handler, Process, done, leaf, node, Entry, entry, Run}
use Rattle.process.specs.Figure2.{both, Forward, Complete}

-- Figure 1. Atomic actions, the report's Σ = 𝒜 ∪ {throw, skip}: the built-in ones, and the defined ones by their numbers.
pub data Atom : Type 0 where
  skip throw : Atom
  action : ℕ → Atom

-- The report's processes.
pub data Term : Type 0 where
  atom : Atom → Term
  compose : Form → Term → Term → Term

-- The report's Γ for all of Σ, from the types of the defined actions: skip "always succeeds", throw has the result set {×}.
abbrev pub kind_of : (ℕ → Kind) → Atom → Kind
kind_of Γ skip = finishes
kind_of Γ throw = fails
kind_of Γ (action a) = Γ a

-- A trace without its status, which stands beside it: the actions that finished, in order.
abbrev pub Trace : Type 0
Trace = List ℕ

-- what an atomic action that finished leaves in a trace
abbrev pub trace_of : Atom → Trace
trace_of skip = []
trace_of throw = []
trace_of (action a) = a ∷ []

-- The report's r ∈ p ⋈ q.
pub data Mixed : Trace → Trace → Trace → Type 0 where
  none : Mixed [] [] []
  next_left : {a : ℕ} {p q r : Trace} → Mixed p q r → Mixed (a ∷ p) q (a ∷ r)
  next_right : {a : ℕ} {p q r : Trace} → Mixed p q r → Mixed p (a ∷ q) (a ∷ r)

mutual
  pub data Traces (Γ : ℕ → Kind) : Term → Trace → Status → Term → Type 0 where
    -- Γ ⊢ A : {✓, ×} or {✓}: (A⟨✓⟩, skip)
    t_finishes : {A : Atom} {p : Trace} → Permits (kind_of Γ A) ok → trace_of A ≡ p → Traces Γ (atom A) p ok (atom skip)
    -- Γ ⊢ A : {✓, ×} or {×}: (⟨×⟩, skip), as the report's Example 1 and document 01 have it; its figure has A in the trace
    t_fails : {A : Atom} → Permits (kind_of Γ A) fail → Traces Γ (atom A) [] fail (atom skip)
    -- P ; Q, first set: (pq⟨s⟩, Q' ; P') for (p⟨✓⟩, P') ∈ Π(P), (q⟨s⟩, Q') ∈ Π(Q)
    t_sequence : {P Q P' Q' : Term} {p q r : Trace} {s : Status} → Traces Γ P p ok P' → Traces Γ Q q s Q' → p ++ q ≡ r → Traces Γ (compose sequence P Q) r s (compose sequence Q' P')
    -- P ; Q, second set: (p⟨×⟩, P') ∈ Π(P)
    t_sequence_fails : {P Q P' : Term} {p : Trace} → Traces Γ P p fail P' → Traces Γ (compose sequence P Q) p fail P'
    -- P ∥ Q, the first set and, by N6, the only one: (r⟨s & t⟩, P' ∥ Q') for r ∈ p ⋈ q, (p⟨s⟩, P') ∈ Π(P), (q⟨t⟩, Q') ∈ Π(Q)
    t_parallel : {P Q P' Q' : Term} {p q r : Trace} {s t u : Status} → Traces Γ P p s P' → Traces Γ Q q t Q' → Mixed p q r → both s t ≡ u → Traces Γ (compose parallel P Q) r u (compose parallel P' Q')
    -- P □ Q, first set: (p⟨s⟩, P') ∈ Π(P)
    t_choice_left : {P Q P' : Term} {p : Trace} {s : Status} → Traces Γ P p s P' → Traces Γ (compose choice P Q) p s P'
    -- P □ Q, second set: (q⟨t⟩, Q') ∈ Π(Q)
    t_choice_right : {P Q Q' : Term} {q : Trace} {t : Status} → Traces Γ Q q t Q' → Traces Γ (compose choice P Q) q t Q'
    -- P ÷ Q, first set: (p⟨✓⟩, Q) for (p⟨✓⟩, P') ∈ Π(P)
    t_compensation : {P Q P' : Term} {p : Trace} → Traces Γ P p ok P' → Traces Γ (compose compensation P Q) p ok Q
    -- P ÷ Q, second set: (p⟨×⟩, P') ∈ Π(P)
    t_compensation_fails : {P Q P' : Term} {p : Trace} → Traces Γ P p fail P' → Traces Γ (compose compensation P Q) p fail P'
    -- P ▷ Q, first set: (p⟨✓⟩, P') ∈ Π(P)
    t_handler : {P Q P' : Term} {p : Trace} → Traces Γ P p ok P' → Traces Γ (compose handler P Q) p ok P'
    -- P ▷ Q, second set: (pp'q⟨t⟩, Q') for pp'⟨×⟩ ∈ ⟦P⟧, (q⟨t⟩, Q') ∈ Π(Q); `p` here is the report's pp'
    t_handler_fails : {P Q Q' : Term} {p q r : Trace} {t : Status} → Whole Γ P p fail → Traces Γ Q q t Q' → p ++ q ≡ r → Traces Γ (compose handler P Q) r t Q'

  pub data Whole (Γ : ℕ → Kind) : Term → Trace → Status → Type 0 where
    -- ⟦P⟧, first set: p⟨✓⟩ for (p⟨✓⟩, P') ∈ Π(P)
    w_ok : {P P' : Term} {p : Trace} → Traces Γ P p ok P' → Whole Γ P p ok
    -- ⟦P⟧, second set: pp'⟨×⟩ for (p⟨×⟩, P') ∈ Π(P), p'⟨s⟩ ∈ ⟦P'⟧
    w_fail : {P P' : Term} {p p' r : Trace} {s : Status} → Traces Γ P p fail P' → Whole Γ P' p' s → p ++ p' ≡ r → Whole Γ P r fail

-- The report's process of a process of document 01, by the atomic action that stands at each leaf. The undo of a leaf is the report's skip.
abbrev pub term_of : (ℕ → Atom) → Process → Term
term_of label done = atom skip
term_of label (leaf n k) = atom (label n)
term_of label (node f P Q) = compose f (term_of label P) (term_of label Q)

-- Each leaf may do what Γ says of its atomic action.
abbrev pub Labelled : (ℕ → Kind) → (ℕ → Atom) → Process → Type 0
Labelled Γ label done = Unit {0}
Labelled Γ label (leaf n k) = k ≡ kind_of Γ (label n)
Labelled Γ label (node f P Q) = Labelled Γ label P × Labelled Γ label Q

-- "Striking out skips and failed entries": what is left of an entry, and of a run.
abbrev pub struck : (ℕ → Atom) → Entry → Trace
struck label (entry n ok) = trace_of (label n)
struck label (entry n fail) = []

abbrev pub strike : (ℕ → Atom) → Run → Trace
strike label [] = []
strike label (e ∷ r) = struck label e ++ strike label r

-- A run of P forward, with its undo, that is struck out to a trace and its undo.
pub record StruckForward (label : ℕ → Atom) (P : Process) (t : Trace) (s : Status) (U : Term) : Type 0 where
  pub run : Run
  pub undo : Process
  pub runs : Forward P run s undo
  pub trace : strike label run ≡ t
  pub term : term_of label undo ≡ U

-- A complete run of P that is struck out to a trace.
pub record StruckComplete (label : ℕ → Atom) (P : Process) (t : Trace) (s : Status) : Type 0 where
  pub run : Run
  pub runs : Complete P run s
  pub trace : strike label run ≡ t

pub record TracesAreRuns : Type 0 where
  -- Π of the report is the runs forward, struck out, each with its undo
  pub forward : (Γ : ℕ → Kind) (label : ℕ → Atom) (P : Process) → Labelled Γ label P → (t : Trace) (s : Status) (U : Term)
      → Traces Γ (term_of label P) t s U ↔ StruckForward label P t s U
  -- ⟦ ⟧ of the report is the complete runs, struck out
  pub complete : (Γ : ℕ → Kind) (label : ℕ → Atom) (P : Process) → Labelled Γ label P → (t : Trace) (s : Status)
      → Whole Γ (term_of label P) t s ↔ StruckComplete label P t s

-- The report's Example 1: SimpleOrder = Billing ; ProcessOrder, Billing = Charge ÷ Credit, with Charge 0, Credit 1, ProcessOrder 2, and
-- Γ = ⟨Charge ↦ {✓, ×}, Credit ↦ {✓}, ProcessOrder ↦ {✓, ×}⟩.
abbrev pub order_types : ℕ → Kind
order_types a = cond (eqb a 1) finishes either

abbrev pub order_term : Term
order_term = compose sequence (compose compensation (atom (action 0)) (atom (action 1))) (atom (action 2))

-- {Charge ProcessOrder⟨✓⟩, Charge Credit⟨×⟩, skip⟨×⟩}
pub data OrderTrace : Trace → Status → Type 0 where
  processed : OrderTrace (0 ∷ 2 ∷ []) ok
  credited : OrderTrace (0 ∷ 1 ∷ []) fail
  not_charged : OrderTrace [] fail

pub record TraceExamples : Type 0 where
  -- Example 1's ⟦SimpleOrder⟧
  pub order : (t : Trace) (s : Status) → Whole order_types order_term t s ↔ OrderTrace t s
  -- a skip leaves the empty trace, and so does a throw, which fails
  pub skips : (Γ : ℕ → Kind) (t : Trace) (s : Status) → Whole Γ (atom skip) t s ↔ ((t ≡ []) × (s ≡ ok))
  pub throws : (Γ : ℕ → Kind) (t : Trace) (s : Status) → Whole Γ (atom throw) t s ↔ ((t ≡ []) × (s ≡ fail))
  -- N6: beside a throw an action that always succeeds has begun, and is in every trace
  pub beside : (t : Trace) (s : Status)
      → Whole (λ a. finishes) (compose parallel (atom throw) (atom (action 0))) t s ↔ ((t ≡ 0 ∷ []) × (s ≡ fail))
