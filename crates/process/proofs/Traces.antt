-- The theorem of specs/Traces: the traces of the report's figure are the runs with skips and failed entries struck out. Either way it goes by recursion
-- on the derivation, which holds those of its undos, with one lemma for each rule. What is left to show is on interleavings: one of runs is
-- struck out to one of traces, and one of traces comes from one of runs, in which an entry that is struck out comes as early as it may.
use mathlib.Core.Path.{◌≡◌, refl, sym, ◌∙◌, ap, ap₂}
use mathlib.Core.Bool.{true≢false}
use mathlib.Core.List.{[], ◌∷◌, ◌++◌, append-nil, append_assoc}
use mathlib.Core.Logic.{◌⊎◌, inl, inr}
use Prim.Native.Nat.{ℕ}
use native.Mathlib.Omega.{arith}
use Rattle.process.specs.Process.{Status, ok, fail, Kind, permits, Permits, Form, sequence, parallel, choice, compensation, handler, Process, done, leaf, node, Entry, entry, Run}
use Rattle.process.specs.Figure2.{both, Interleaving, neither, from_left, from_right, Forward, f_done, f_leaf, f_sequence, f_sequence_fails, f_parallel, f_choice_left, f_choice_right, f_compensation, f_compensation_fails, f_handler, f_handler_fails, Complete, c_ok, c_fail}
use Rattle.process.specs.Traces.{Atom, skip, throw, action, Term, atom, compose, kind_of, Trace, trace_of, Mixed, none, next_left, next_right, Traces, t_finishes, t_fails, t_sequence, t_sequence_fails, t_parallel, t_choice_left, t_choice_right, t_compensation, t_compensation_fails, t_handler, t_handler_fails, Whole, w_ok, w_fail, term_of, Labelled, struck, strike, StruckForward, StruckComplete, TracesAreRuns}
use Rattle.process.proofs.Interleavings.{left_alone, right_alone, in_turn, end_to_end}

-- Traces side by side: one of them may have more in front.
front_left : (u : Trace) {p q r : Trace} → Mixed p q r → Mixed (u ++ p) q (u ++ r)
front_left [] m = m
front_left (a ∷ u) m = next_left (front_left u m)

front_right : (u : Trace) {p q r : Trace} → Mixed p q r → Mixed p (u ++ q) (u ++ r)
front_right [] m = m
front_right (a ∷ u) m = next_right (front_right u m)

-- A run whose trace begins with the action a: up to the entry that leaves it, and after that.
record Begun (label : ℕ → Atom) (p : Run) (a : ℕ) (t : Trace) : Type 0 where
  front : Run
  back : Run
  is : front ++ back ≡ p
  first : strike label front ≡ a ∷ []
  rest : strike label back ≡ t

-- An interleaving of two runs that is struck out to t.
record Unmixed (label : ℕ → Atom) (p q : Run) (t : Trace) : Type 0 where
  run : Run
  mixed : Interleaving p q run
  trace : strike label run ≡ t

-- A labelled process that has this term; and the two parts of one whose term is a composition.
record Source (Γ : ℕ → Kind) (label : ℕ → Atom) (X : Term) : Type 0 where
  process : Process
  labelled : Labelled Γ label process
  term : term_of label process ≡ X

record Parts (Γ : ℕ → Kind) (label : ℕ → Atom) (P : Process) (f : Form) (A B : Term) : Type 0 where
  left : Source Γ label A
  right : Source Γ label B
  is : P ≡ node f left.process right.process

not_composed : {C : Type 0} {A : Atom} {f : Form} {T U : Term} → atom A ≡ compose f T U → C
not_composed e = let z : ◌≡◌ {A = ℕ} 0 1 = cc in absurd (omega arith)

module _ (label : ℕ → Atom) where
  strike_append : (p q : Run) → strike label (p ++ q) ≡ strike label p ++ strike label q
  strike_append [] q = refl
  strike_append (e ∷ p) q = rw (strike_append p q, append_assoc)

  struck_mixed : {p q r : Run} → Interleaving p q r → Mixed (strike label p) (strike label q) (strike label r)
  struck_mixed neither = none
  struck_mixed (from_left {e = e} i) = front_left (struck label e) (struck_mixed i)
  struck_mixed (from_right {e = e} i) = front_right (struck label e) (struck_mixed i)

  -- an entry leaves one action or none
  none_or_one : (e : Entry) → (struck label e ≡ []) ⊎ ((a : ℕ) × (struck label e ≡ a ∷ []))
  none_or_one (entry n ok) = by (label n)
    where
      by : (A : Atom) → (trace_of A ≡ []) ⊎ ((a : ℕ) × (trace_of A ≡ a ∷ []))
      by skip = inl refl
      by throw = inl refl
      by (action a) = inr (a, refl)
  none_or_one (entry n fail) = inl refl

  begun_after : (e : Entry) (p : Run) {a : ℕ} {t : Trace} → (strike label p ≡ a ∷ t → Begun label p a t) → struck label e ++ strike label p ≡ a ∷ t
      → (struck label e ≡ []) ⊎ ((b : ℕ) × (struck label e ≡ b ∷ [])) → Begun label (e ∷ p) a t
  begun_after e p more h (inl z) =
      let x = more (rw z at h) in
      record { front = e ∷ x.front; back = x.back; is = ap (λ (r : Run). e ∷ r) x.is; first = rw z x.first; rest = x.rest }
  begun_after e p {a} {t} more h (inr (b, z)) =
      let k : b ∷ strike label p ≡ a ∷ t = rw z at h in
      record { front = e ∷ []; back = p; is = refl; first = rw z (cc); rest = cc }

  begun : (p : Run) {a : ℕ} {t : Trace} → strike label p ≡ a ∷ t → Begun label p a t
  begun [] h = let z : ◌≡◌ {A = ℕ} 0 1 = cc in absurd (omega arith)
  begun (e ∷ p) h = begun_after e p (λ k. begun p k) h (none_or_one e)

  unmixed_left : {p q : Run} {a : ℕ} {t u : Trace} (b : Begun label p a t) → Unmixed label b.back q u → Unmixed label p q (a ∷ u)
  unmixed_left b x = record {
    run = b.front ++ x.run;
    mixed = rw b.is at (end_to_end (left_alone b.front) x.mixed);
    trace = strike_append b.front x.run ∙ ap₂ ◌++◌ b.first x.trace;
  }

  unmixed_right : {p q : Run} {a : ℕ} {t u : Trace} (b : Begun label q a t) → Unmixed label p b.back u → Unmixed label p q (a ∷ u)
  unmixed_right b x = record {
    run = b.front ++ x.run;
    mixed = rw b.is at (end_to_end (right_alone b.front) x.mixed);
    trace = strike_append b.front x.run ∙ ap₂ ◌++◌ b.first x.trace;
  }

  unmixed : (p q : Run) {t u v : Trace} → strike label p ≡ t → strike label q ≡ u → Mixed t u v → Unmixed label p q v
  unmixed p q h k none = record { run = p ++ q; mixed = in_turn p q; trace = strike_append p q ∙ ap₂ ◌++◌ h k }
  unmixed p q h k (next_left m) = let b = begun p h in unmixed_left b (unmixed b.back q b.rest k m)
  unmixed p q h k (next_right m) = let b = begun q k in unmixed_right b (unmixed p b.back h b.rest m)

  -- From traces to runs, rule by rule.
  sequence_run : {P Q : Process} {p q r : Trace} {s : Status} {A B : Term} → StruckForward label P p ok A → StruckForward label Q q s B → p ++ q ≡ r
      → StruckForward label (node sequence P Q) r s (compose sequence B A)
  sequence_run a b i = record {
    run = a.run ++ b.run;
    undo = node sequence b.undo a.undo;
    runs = f_sequence a.runs b.runs refl;
    trace = strike_append a.run b.run ∙ ap₂ ◌++◌ a.trace b.trace ∙ i;
    term = ap₂ (compose sequence) b.term a.term;
  }

  sequence_fails_run : {P Q : Process} {p : Trace} {A : Term} → StruckForward label P p fail A → StruckForward label (node sequence P Q) p fail A
  sequence_fails_run a = record { run = a.run; undo = a.undo; runs = f_sequence_fails a.runs; trace = a.trace; term = a.term }

  parallel_run : {P Q : Process} {p q r : Trace} {s t u : Status} {A B : Term} → StruckForward label P p s A → StruckForward label Q q t B → Mixed p q r → both s t ≡ u
      → StruckForward label (node parallel P Q) r u (compose parallel A B)
  parallel_run a b m e =
      let x = unmixed a.run b.run a.trace b.trace m in
      record {
        run = x.run;
        undo = node parallel a.undo b.undo;
        runs = f_parallel a.runs b.runs x.mixed e;
        trace = x.trace;
        term = ap₂ (compose parallel) a.term b.term;
      }

  choice_left_run : {P Q : Process} {p : Trace} {s : Status} {A : Term} → StruckForward label P p s A → StruckForward label (node choice P Q) p s A
  choice_left_run a = record { run = a.run; undo = a.undo; runs = f_choice_left a.runs; trace = a.trace; term = a.term }

  choice_right_run : {P Q : Process} {q : Trace} {t : Status} {B : Term} → StruckForward label Q q t B → StruckForward label (node choice P Q) q t B
  choice_right_run b = record { run = b.run; undo = b.undo; runs = f_choice_right b.runs; trace = b.trace; term = b.term }

  compensation_run : {P Q : Process} {p : Trace} {A B : Term} → StruckForward label P p ok A → term_of label Q ≡ B → StruckForward label (node compensation P Q) p ok B
  compensation_run {Q = Q} a e = record { run = a.run; undo = Q; runs = f_compensation a.runs; trace = a.trace; term = e }

  compensation_fails_run : {P Q : Process} {p : Trace} {A : Term} → StruckForward label P p fail A → StruckForward label (node compensation P Q) p fail A
  compensation_fails_run a = record { run = a.run; undo = a.undo; runs = f_compensation_fails a.runs; trace = a.trace; term = a.term }

  handler_run : {P Q : Process} {p : Trace} {A : Term} → StruckForward label P p ok A → StruckForward label (node handler P Q) p ok A
  handler_run a = record { run = a.run; undo = a.undo; runs = f_handler a.runs; trace = a.trace; term = a.term }

  handled : {P Q U : Process} {p q : Run} {t : Status} → Complete P p fail → Forward Q q t U → Forward (node handler P Q) (p ++ q) t U
  handled {q = q} (c_fail {p = p} {p' = p'} a c i) b = f_handler_fails a c b (sym (append_assoc p p' q) ∙ ap (λ (r : Run). r ++ q) i)

  handler_fails_run : {P Q : Process} {p q r : Trace} {t : Status} {B : Term} → StruckComplete label P p fail → StruckForward label Q q t B → p ++ q ≡ r
      → StruckForward label (node handler P Q) r t B
  handler_fails_run a b i = record {
    run = a.run ++ b.run;
    undo = b.undo;
    runs = handled a.runs b.runs;
    trace = strike_append a.run b.run ∙ ap₂ ◌++◌ a.trace b.trace ∙ i;
    term = b.term;
  }

  ok_run : {P : Process} {p : Trace} {A : Term} → StruckForward label P p ok A → StruckComplete label P p ok
  ok_run a = record { run = a.run; runs = c_ok a.runs; trace = a.trace }

  fail_run : {P : Process} {p q r : Trace} {s : Status} {A : Term} (a : StruckForward label P p fail A) → StruckComplete label a.undo q s → p ++ q ≡ r
      → StruckComplete label P r fail
  fail_run a c i = record {
    run = a.run ++ c.run;
    runs = c_fail a.runs c.runs refl;
    trace = strike_append a.run c.run ∙ ap₂ ◌++◌ a.trace c.trace ∙ i;
  }

  of_equal : {P Q : Process} {t : Trace} {s : Status} {A : Term} → P ≡ Q → StruckForward label Q t s A → StruckForward label P t s A
  of_equal e a = rw e a

  module _ (Γ : ℕ → Kind) where
    undo_labelled : {P U : Process} {r : Run} {s : Status} → Labelled Γ label P → Forward P r s U → Labelled Γ label U
    undo_labelled l f_done = tt
    undo_labelled l (f_leaf m) = tt
    undo_labelled l (f_sequence a b i) = (undo_labelled l.1 b, undo_labelled l.0 a)
    undo_labelled l (f_sequence_fails a) = undo_labelled l.0 a
    undo_labelled l (f_parallel a b i e) = (undo_labelled l.0 a, undo_labelled l.1 b)
    undo_labelled l (f_choice_left a) = undo_labelled l.0 a
    undo_labelled l (f_choice_right b) = undo_labelled l.1 b
    undo_labelled l (f_compensation a) = l.1
    undo_labelled l (f_compensation_fails a) = undo_labelled l.0 a
    undo_labelled l (f_handler a) = undo_labelled l.0 a
    undo_labelled l (f_handler_fails a c b i) = undo_labelled l.1 b

    -- From runs to traces.
    leaf_trace : (n : ℕ) {k : Kind} (s : Status) → k ≡ kind_of Γ (label n) → Permits k s → Traces Γ (atom (label n)) (strike label (entry n s ∷ [])) s (atom skip)
    leaf_trace n ok l m = t_finishes (rw l at m) (sym (append-nil (trace_of (label n))))
    leaf_trace n fail l m = t_fails (rw l at m)

    joined : (p q : Run) {r : Run} → p ++ q ≡ r → strike label p ++ strike label q ≡ strike label r
    joined p q i = sym (strike_append p q) ∙ ap (strike label) i

    mutual
      trace_of_lem : {P U : Process} {r : Run} {s : Status} → Labelled Γ label P → Forward P r s U → Traces Γ (term_of label P) (strike label r) s (term_of label U)
      trace_of_lem l f_done = t_finishes refl refl
      trace_of_lem l (f_leaf {n = n} {s = s} m) = leaf_trace n s l m
      trace_of_lem l (f_sequence {p = p} {q = q} a b i) = t_sequence (trace_of_lem l.0 a) (trace_of_lem l.1 b) (joined p q i)
      trace_of_lem l (f_sequence_fails a) = t_sequence_fails (trace_of_lem l.0 a)
      trace_of_lem l (f_parallel a b i e) = t_parallel (trace_of_lem l.0 a) (trace_of_lem l.1 b) (struck_mixed i) e
      trace_of_lem l (f_choice_left a) = t_choice_left (trace_of_lem l.0 a)
      trace_of_lem l (f_choice_right b) = t_choice_right (trace_of_lem l.1 b)
      trace_of_lem l (f_compensation a) = t_compensation (trace_of_lem l.0 a)
      trace_of_lem l (f_compensation_fails a) = t_compensation_fails (trace_of_lem l.0 a)
      trace_of_lem l (f_handler a) = t_handler (trace_of_lem l.0 a)
      trace_of_lem l (f_handler_fails {p = p} {p' = p'} {q = q} a c b i) = t_handler_fails (w_fail (trace_of_lem l.0 a) (whole_of (undo_labelled l.0 a) c) (joined p p' refl)) (trace_of_lem l.1 b) (joined (p ++ p') q (append_assoc p p' q ∙ i))

      whole_of : {P : Process} {r : Run} {s : Status} → Labelled Γ label P → Complete P r s → Whole Γ (term_of label P) (strike label r) s
      whole_of l (c_ok a) = w_ok (trace_of_lem l a)
      whole_of l (c_fail {p = p} {p' = p'} a c i) = w_fail (trace_of_lem l a) (whole_of (undo_labelled l a) c) (joined p p' i)

    -- From traces to runs: what has an atomic action for its term, and what has a composition.
    finished_run : (P : Process) {A : Atom} {t : Trace} → Labelled Γ label P → term_of label P ≡ atom A → Permits (kind_of Γ A) ok → trace_of A ≡ t → StruckForward label P t ok (atom skip)
    finished_run done {A} l e m i = let z : skip ≡ A = cc in record { run = []; undo = done; runs = f_done; trace = ap trace_of z ∙ i; term = refl }
    finished_run (leaf n k) {A} l e m i =
        let z : label n ≡ A = cc in
        let h : Permits k ok = rw (l, z) m in
        record { run = entry n ok ∷ []; undo = done; runs = f_leaf h; trace = append-nil (trace_of (label n)) ∙ ap trace_of z ∙ i; term = refl }
    finished_run (node f P Q) l e m i = not_composed (sym e)

    failed_run : (P : Process) {A : Atom} → Labelled Γ label P → term_of label P ≡ atom A → Permits (kind_of Γ A) fail → StruckForward label P [] fail (atom skip)
    failed_run done {A} l e m = let z : skip ≡ A = cc in absurd (true≢false (sym m ∙ ap (λ (B : Atom). permits (kind_of Γ B) fail) (sym z)))
    failed_run (leaf n k) {A} l e m =
        let z : label n ≡ A = cc in
        let h : Permits k fail = rw (l, z) m in
        record { run = entry n fail ∷ []; undo = done; runs = f_leaf h; trace = refl; term = refl }
    failed_run (node f P Q) l e m = not_composed (sym e)

    parts : (P : Process) {f : Form} {A B : Term} → Labelled Γ label P → term_of label P ≡ compose f A B → Parts Γ label P f A B
    parts done l e = not_composed e
    parts (leaf n k) l e = not_composed e
    parts (node g P Q) l e = record {
      left = record { process = P; labelled = l.0; term = cc };
      right = record { process = Q; labelled = l.1; term = cc };
      is = cc;
    }

    parts_of : {f : Form} {A B : Term} (X : Source Γ label (compose f A B)) → Parts Γ label X.process f A B
    parts_of X = parts X.process X.labelled X.term

    mutual
      run_of : {A U : Term} {t : Trace} {s : Status} (X : Source Γ label A) → Traces Γ A t s U → StruckForward label X.process t s U
      run_of X (t_finishes m i) = finished_run X.process X.labelled X.term m i
      run_of X (t_fails m) = failed_run X.process X.labelled X.term m
      run_of X (t_sequence a b i) = let z = parts_of X in of_equal z.is (sequence_run (run_of z.left a) (run_of z.right b) i)
      run_of X (t_sequence_fails a) = let z = parts_of X in of_equal z.is (sequence_fails_run (run_of z.left a))
      run_of X (t_parallel a b m e) = let z = parts_of X in of_equal z.is (parallel_run (run_of z.left a) (run_of z.right b) m e)
      run_of X (t_choice_left a) = let z = parts_of X in of_equal z.is (choice_left_run (run_of z.left a))
      run_of X (t_choice_right b) = let z = parts_of X in of_equal z.is (choice_right_run (run_of z.right b))
      run_of X (t_compensation a) = let z = parts_of X in of_equal z.is (compensation_run (run_of z.left a) z.right.term)
      run_of X (t_compensation_fails a) = let z = parts_of X in of_equal z.is (compensation_fails_run (run_of z.left a))
      run_of X (t_handler a) = let z = parts_of X in of_equal z.is (handler_run (run_of z.left a))
      run_of X (t_handler_fails w b i) = let z = parts_of X in of_equal z.is (handler_fails_run (complete_of z.left w) (run_of z.right b) i)

      complete_of : {A : Term} {t : Trace} {s : Status} (X : Source Γ label A) → Whole Γ A t s → StruckComplete label X.process t s
      complete_of X (w_ok a) = ok_run (run_of X a)
      complete_of X (w_fail a c i) = let x = run_of X a in fail_run x (complete_of (record { process = x.undo; labelled = undo_labelled X.labelled x.runs; term = x.term }) c) i

    struck_trace : {P : Process} {t : Trace} {s : Status} {U : Term} → Labelled Γ label P → StruckForward label P t s U → Traces Γ (term_of label P) t s U
    struck_trace l x = rw (← x.trace, ← x.term) (trace_of_lem l x.runs)

    struck_whole : {P : Process} {t : Trace} {s : Status} → Labelled Γ label P → StruckComplete label P t s → Whole Γ (term_of label P) t s
    struck_whole l x = rw (← x.trace) (whole_of l x.runs)

pub traces_are_runs : TracesAreRuns
traces_are_runs = record {
  forward = λ Γ label P l t s U. (λ x. run_of label Γ (record { process = P; labelled = l; term = refl }) x, λ x. struck_trace label Γ l x);
  complete = λ Γ label P l t s. (λ x. complete_of label Γ (record { process = P; labelled = l; term = refl }) x, λ x. struck_whole label Γ l x);
}
