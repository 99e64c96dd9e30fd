-- The starred plans of document 01, "Plans to try": the file of each, the sets that its complete runs leave, the verdict on it, and the lines
-- that the verdict program writes, as bytes: those of P2 are document 01's. Where document 01 gives no pairs there are none, and where it gives
-- no rule, the rule is action 0.
use Rattle.std.specs.Prelude.{◌≡◌, ◌↔◌, ℕ, ◌≤◌, length, take, Ok}
use mathlib.Core.List.{List, [], ◌∷◌, Memᴰ}
use Rattle.text.specs.Text.{ascii, text_of}
use Rattle.text.specs.declared.Text.{Text}
use Rattle.process.specs.Process.{Status, Run}
use Rattle.process.specs.Figure2.{Complete}
use Rattle.plan.specs.Reading.{read_of}
use Rattle.plan.specs.declared.Layout.{Layout}
use Rattle.job.specs.Demand2.{plan_process}
use Rattle.judge.specs.Verdict.{Answer, work_size, record_size, verdict_of}
use Rattle.judge.specs.Shown.{run_set}
use Rattle.judge.specs.Judged.{Judged}
use Rattle.judge.specs.declared.Judgement.TheVariants.{Consistent, Violated}
use Rattle.report.specs.Lines.{verdict_lines}
use Rattle.report.specs.Tells.{Tells}

pub record TriedPlan : Type 0 where
  pub file : List ℕ
  pub sets : List ℕ
  pub verdict : Answer
  pub lines : List ℕ

-- The row holds: a set is listed exactly where some complete run leaves it, by Figure 2, and the verdict is this one. The answer that the contract
-- of `verdict` admits comes to these lines, and so does the text that the verdict program writes.
pub record Holds (p : TriedPlan) : Type 0 where
  pub layout : Layout
  pub accepted : read_of p.file ≡ Ok layout
  pub sets : (X : ℕ) → Memᴰ X p.sets ↔ ((status : Status) × (run : Run) × Complete (plan_process p.file layout) run status × (run_set p.file layout run ≡ X))
  pub verdict : verdict_of p.file work_size record_size ≡ p.verdict
  pub lines : (work work' old new : List ℕ) (v : Answer) → Judged p.file work work' old new v → work_size ≤ length work → record_size ≤ length old
      → verdict_lines v (take record_size new) ≡ p.lines
  pub text : (t : Text) → Tells p.file t → t ≡ text_of p.lines

-- P1: (0 with undo 1), then 2; types 3 1 3; pair (0,1); rule "0 and 2, or neither"
abbrev pub p1 : TriedPlan
p1 = record {
  file = 3 ∷ 0 ∷ 1 ∷ 0 ∷ 3 ∷ 1 ∷ 3 ∷ 2 ∷ 0 ∷ 2 ∷ 0 ∷ 0 ∷ 1 ∷ 15 ∷ 0 ∷ 3 ∷ 0 ∷ 0 ∷ 0 ∷ 0 ∷ 0 ∷ 1 ∷ 0 ∷ 6 ∷ 0 ∷ 1 ∷ 0 ∷ 2 ∷ 0 ∷ 3 ∷ 2 ∷ 3 ∷ 9 ∷ 0 ∷ 4 ∷ 0 ∷ 0 ∷ 2 ∷ 129 ∷ 0 ∷ 128 ∷ 2 ∷ 128 ∷ 129 ∷ 130 ∷ [];
  sets = 0 ∷ 3 ∷ 5 ∷ [];
  verdict = Ok Consistent;
  lines = ascii "consistent\n";
}

-- P2: (0 handled by skip), then 1; types 3 3; rule "not 1, or 0"
abbrev pub p2 : TriedPlan
p2 = record {
  file = 2 ∷ 0 ∷ 1 ∷ 0 ∷ 3 ∷ 3 ∷ 0 ∷ 0 ∷ 2 ∷ 0 ∷ 15 ∷ 0 ∷ 3 ∷ 0 ∷ 0 ∷ 0 ∷ 0 ∷ 1 ∷ 0 ∷ 0 ∷ 7 ∷ 0 ∷ 1 ∷ 0 ∷ 1 ∷ 0 ∷ 3 ∷ 2 ∷ 3 ∷ 4 ∷ 0 ∷ 4 ∷ 0 ∷ 1 ∷ 128 ∷ 0 ∷ 130 ∷ [];
  sets = 0 ∷ 1 ∷ 2 ∷ 3 ∷ [];
  verdict = Ok (Violated 2);
  lines = ascii "violated 2\n0 2\n1 1\n3 1\n";
}

-- P3: throw parallel A, A always; by document 02 (N6) both begin
abbrev pub p3 : TriedPlan
p3 = record {
  file = 1 ∷ 0 ∷ 1 ∷ 0 ∷ 1 ∷ 0 ∷ 0 ∷ 2 ∷ 0 ∷ 9 ∷ 0 ∷ 3 ∷ 0 ∷ 2 ∷ 0 ∷ 0 ∷ 0 ∷ 0 ∷ 0 ∷ 4 ∷ 0 ∷ 1 ∷ 1 ∷ 0 ∷ 4 ∷ 0 ∷ 0 ∷ [];
  sets = 1 ∷ [];
  verdict = Ok Consistent;
  lines = ascii "consistent\n";
}

-- P4: handler with left ((A undo U), throw) and right H; A, H always, U may do either
abbrev pub p4 : TriedPlan
p4 = record {
  file = 3 ∷ 0 ∷ 1 ∷ 0 ∷ 1 ∷ 3 ∷ 1 ∷ 0 ∷ 0 ∷ 2 ∷ 0 ∷ 21 ∷ 0 ∷ 3 ∷ 0 ∷ 0 ∷ 0 ∷ 0 ∷ 0 ∷ 1 ∷ 0 ∷ 6 ∷ 0 ∷ 1 ∷ 2 ∷ 0 ∷ 0 ∷ 3 ∷ 2 ∷ 3 ∷ 0 ∷ 2 ∷ 0 ∷ 7 ∷ 4 ∷ 5 ∷ 1 ∷ 0 ∷ 4 ∷ 0 ∷ 0 ∷ [];
  sets = 5 ∷ 7 ∷ [];
  verdict = Ok Consistent;
  lines = ascii "consistent\n";
}

-- P5: ((A undo U) undo W), throw, all always; U never runs
abbrev pub p5 : TriedPlan
p5 = record {
  file = 3 ∷ 0 ∷ 1 ∷ 0 ∷ 1 ∷ 1 ∷ 1 ∷ 0 ∷ 0 ∷ 2 ∷ 0 ∷ 21 ∷ 0 ∷ 3 ∷ 0 ∷ 0 ∷ 0 ∷ 0 ∷ 0 ∷ 1 ∷ 0 ∷ 6 ∷ 0 ∷ 1 ∷ 0 ∷ 2 ∷ 0 ∷ 6 ∷ 2 ∷ 3 ∷ 2 ∷ 0 ∷ 0 ∷ 3 ∷ 4 ∷ 5 ∷ 1 ∷ 0 ∷ 4 ∷ 0 ∷ 0 ∷ [];
  sets = 5 ∷ [];
  verdict = Ok Consistent;
  lines = ascii "consistent\n";
}

-- P6: (A undo U), (B undo W), throw; W always fails, the rest always: A and B only
abbrev pub p6 : TriedPlan
p6 = record {
  file = 4 ∷ 0 ∷ 1 ∷ 0 ∷ 1 ∷ 1 ∷ 1 ∷ 2 ∷ 0 ∷ 0 ∷ 2 ∷ 0 ∷ 27 ∷ 0 ∷ 3 ∷ 0 ∷ 0 ∷ 0 ∷ 0 ∷ 0 ∷ 1 ∷ 0 ∷ 6 ∷ 0 ∷ 1 ∷ 0 ∷ 2 ∷ 0 ∷ 0 ∷ 3 ∷ 0 ∷ 6 ∷ 3 ∷ 4 ∷ 3 ∷ 2 ∷ 5 ∷ 2 ∷ 0 ∷ 0 ∷ 3 ∷ 6 ∷ 7 ∷ 1 ∷ 0 ∷ 4 ∷ 0 ∷ 0 ∷ [];
  sets = 5 ∷ [];
  verdict = Ok Consistent;
  lines = ascii "consistent\n";
}

-- P7: u alone, always, with the pair (a,u); rule "a or not a"
abbrev pub p7 : TriedPlan
p7 = record {
  file = 2 ∷ 0 ∷ 1 ∷ 0 ∷ 1 ∷ 1 ∷ 2 ∷ 0 ∷ 2 ∷ 0 ∷ 0 ∷ 1 ∷ 3 ∷ 0 ∷ 3 ∷ 0 ∷ 0 ∷ 1 ∷ 0 ∷ 4 ∷ 0 ∷ 4 ∷ 0 ∷ 0 ∷ 0 ∷ 128 ∷ 130 ∷ [];
  sets = 2 ∷ [];
  verdict = Ok (Violated 2);
  lines = ascii "violated 2\n0 1\n";
}

-- P8: A then A, type 3
abbrev pub p8 : TriedPlan
p8 = record {
  file = 1 ∷ 0 ∷ 1 ∷ 0 ∷ 3 ∷ 0 ∷ 0 ∷ 2 ∷ 0 ∷ 9 ∷ 0 ∷ 3 ∷ 0 ∷ 0 ∷ 0 ∷ 0 ∷ 0 ∷ 0 ∷ 0 ∷ 3 ∷ 0 ∷ 1 ∷ 1 ∷ 0 ∷ 4 ∷ 0 ∷ 0 ∷ [];
  sets = 0 ∷ 1 ∷ [];
  verdict = Ok (Violated 0);
  lines = ascii "violated 0\n0 2\n";
}

abbrev pub tried_plans : List TriedPlan
tried_plans = p1 ∷ p2 ∷ p3 ∷ p4 ∷ p5 ∷ p6 ∷ p7 ∷ p8 ∷ []

-- Each row of the table holds, it has eight, and each of these does; the proof is `tried_plans_lem`.
pub record TriedPlans : Type 0 where
  pub rows : (p : TriedPlan) → Memᴰ p tried_plans → Holds p
  pub starred : length tried_plans ≡ 8
  pub eight : Holds p1 × Holds p2 × Holds p3 × Holds p4 × Holds p5 × Holds p6 × Holds p7 × Holds p8
