-- The lines that the verdict on a starred plan comes to: where it is a violation, only one complete run leaves the set, so the record's bytes
-- are that run's.
use mathlib.Core.Path.{◌≡◌, sym, ap, subst, ◌∙◌}
use mathlib.Core.Bool.{Bool, true, false, cond}
use mathlib.Core.List.Memᴰ
use mathlib.Core.List.{List, [], ◌∷◌, Memᴰ}
use Prim.Native.Nat.{ℕ, ◌≤◌}
use native.Mathlib.Omega.{arith}
use Rattle.std.specs.Prelude.{Result, Ok, Err}
use lib.Dec.{eqb}
use lib.ListN.{length, take, drop, replicate, length-append, length-drop, length-replicate}
use lib.Seq.{take_at}
use borrow.Author.Tests.{eq-eqb}
use Rattle.process.specs.Process.{Status, Process, done, Run}
use Rattle.process.specs.Figure2.{Complete}
use Rattle.plan.specs.Reading.{read_of}
use Rattle.plan.specs.declared.Layout.{Layout}
use Rattle.plan.specs.declared.Fault.{Fault}
use Rattle.job.specs.Demand2.{plan_process}
use Rattle.plainest.specs.Bytes.{record_bytes}
use Rattle.judge.specs.Verdict.{Answer, record_size}
use Rattle.judge.specs.Shown.{shown_run, run_set}
use Rattle.judge.specs.Judged.{Recorded, RecordAfter}
use Rattle.judge.specs.declared.Judgement.TheVariants.{Consistent, Violated}
use Rattle.text.specs.Lines.{line}
use Rattle.report.specs.Lines.{consistent, verdict_lines}
use Rattle.tried.specs.TriedPlans.{TriedPlan}

-- the runs of a list that leave the set
abbrev pub leaving : (Run → ℕ) → ℕ → List Run → List Run
leaving f set [] = []
leaving f set (w ∷ ws) = cond (eqb (f w) set) (w ∷ leaving f set ws) (leaving f set ws)

kept : (b : Bool) (w : Run) {r : Run} {ws : List Run} → Memᴰ r ws → Memᴰ r (cond b (w ∷ ws) ws)
kept true w m = Memᴰ.tail m
kept false w m = m

among_leaving : (f : Run → ℕ) (set : ℕ) {r : Run} {ws : List Run} → Memᴰ r ws → f r ≡ set → Memᴰ r (leaving f set ws)
among_leaving f set {r = r} {ws = []} m z = elim m [ ]
among_leaving f set {ws = w ∷ ws} (Memᴰ.head e) z = rw (eq-eqb (f w) set (ap f (sym e) ∙ z)) (Memᴰ.head e)
among_leaving f set {ws = w ∷ ws} (Memᴰ.tail m) z = kept (eqb (f w) set) w (among_leaving f set m z)

-- of the plan's complete runs only this one leaves the set
abbrev pub OnlyRun : List ℕ → ℕ → Run → Type 0
OnlyRun s set run = (l : Layout) → read_of s ≡ Ok l → (r : Run) (status : Status) → Complete (plan_process s l) r status → run_set s l r ≡ set → r ≡ run

-- the process of the plan that was read, and the sets of its runs
abbrev pub process_in : List ℕ → Result Layout Fault → Process
process_in s (Ok l) = plan_process s l
process_in s (Err f) = done

abbrev pub set_in : List ℕ → Result Layout Fault → Run → ℕ
set_in s (Ok l) r = run_set s l r
set_in s (Err f) r = 0

pub only_run : (s : List ℕ) (P : Process) (ws : List Run) → ((r : Run) (status : Status) → Complete P r status → Memᴰ r ws)
    → (set : ℕ) (run : Run) → process_in s (read_of s) ≡ P → leaving (set_in s (read_of s)) set ws ≡ run ∷ [] → OnlyRun s set run
only_run s P ws listed set run p one l e r status c z =
    let is : plan_process s l ≡ P = ap (process_in s) (sym e) ∙ p in
    let there = among_leaving (set_in s (read_of s)) set (listed r status (rw is at c)) (ap (λ (x : Result Layout Fault). set_in s x r) e ∙ z) in
    Memᴰ.eq_of_singleton (subst (Memᴰ r) one there)

-- the lines of every answer with the row's verdict
abbrev pub Told : TriedPlan → Type 0
Told p = (v : Answer) (old new : List ℕ) → v ≡ p.verdict → RecordAfter p.file v old new → verdict_lines v (take record_size new) ≡ p.lines

pub told_consistent : (p : TriedPlan) → p.verdict ≡ Ok Consistent → line consistent ≡ p.lines → Told p
told_consistent p c k v old new e r = ap (λ (x : Answer). verdict_lines x (take record_size new)) (e ∙ c) ∙ k

run_bytes : (s : List ℕ) (set : ℕ) (run : Run) (old new : List ℕ) → OnlyRun s set run → Recorded s set old new → take record_size new ≡ record_bytes run
run_bytes s set run old new only x =
    let shows = x.shows in
    let is = only x.layout x.accepted (shown_run x.bytes) shows.plainest.status shows.plainest.complete shows.plainest.leaves in
    ap (take record_size) x.is ∙ take_at x.bytes (drop record_size old) record_size shows.long ∙ shows.padded ∙ ap record_bytes is

pub told_violated : (p : TriedPlan) (set : ℕ) (run : Run) → p.verdict ≡ Ok (Violated set) → OnlyRun p.file set run → verdict_lines (Ok (Violated set)) (record_bytes run) ≡ p.lines → Told p
told_violated p set run c only k v old new e r =
    ap (λ (x : Answer). verdict_lines x (take record_size new)) (e ∙ c)
    ∙ ap (verdict_lines (Ok (Violated set))) (run_bytes p.file set run old new only (subst (λ (x : Answer). RecordAfter p.file x old new) (e ∙ c) r))
    ∙ k

-- an answer leaves the record area as long as it was
pub record_length : (s : List ℕ) (v : Answer) (old new : List ℕ) → record_size ≤ length old → RecordAfter s v old new → length new ≡ length old
record_length s (Ok Consistent) old new h r = ap length r ∙ length-append (replicate record_size 0) (drop record_size old) ∙ simp (length-replicate, length-drop) (omega arith)
record_length s (Ok (Violated set)) old new h r =
    let long = r.shows.long in
    rw r.is (simp (length-append, length-drop) (omega arith))
record_length s (Err f) old new h r = ap length r
