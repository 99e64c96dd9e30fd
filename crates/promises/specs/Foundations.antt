-- The theorems that the promises rest on, beside them: the contract of `founded` asks for these. Some are of sets of any kind, and so of Type 1; a contract
-- is of Type 0, so it names the proofs, which are there only where the theorems are (`Held`).
use Rattle.process.specs.Traces.{TracesAreRuns, TraceExamples}
use Rattle.process.proofs.Traces.{traces_are_runs}
use Rattle.process.proofs.TraceExamples.{trace_examples}
use Rattle.runs.specs.Beginnings.{BeginningsTold}
use Rattle.runs.proofs.Beginnings.{beginnings}
use Rattle.outcomes.specs.OutcomeChart.{OutcomeChart}
use Rattle.outcomes.proofs.OutcomeChart.{outcome_chart}
use Rattle.outcomes.specs.VerdictSets.{VerdictSets}
use Rattle.outcomes.proofs.VerdictSets.{verdict_sets}
use Rattle.theorems.specs.Theorems.{Theorems}
use Rattle.theorems.proofs.Theorems.{theorems}
use Rattle.reorder.specs.Reorder.{Reorders}
use Rattle.reorder.proofs.Reorder.{reorders}
use Rattle.plainest.specs.Greedy.{GreedyPlainest}
use Rattle.plainest.proofs.Greedy.{greedy_plainest}
use Rattle.meaning.specs.Laws.{RuleLaws}
use Rattle.meaning.proofs.Laws.{laws}
use Rattle.meaning.specs.TriedRules.{TriedRules}
use Rattle.meaning.proofs.TriedRules.{tried_rules}
use Rattle.undos.specs.Masks.{EveryMasks}
use Rattle.undos.proofs.Every.{every_masks}

pub record Foundations : Type 1 where
  -- Figure 2: runs and traces, beginnings of runs, the chart, the verdict's sets; the last three side by side
  pub traces : TracesAreRuns
  pub trace_examples : TraceExamples
  pub beginnings : BeginningsTold
  pub outcomes : OutcomeChart
  pub sets : VerdictSets
  pub theorems : Theorems
  -- entries in another order, and the plainest run, entry by entry
  pub reorders : Reorders
  pub greedy : GreedyPlainest
  -- the value of a rule
  pub rule_laws : RuleLaws
  pub tried_rules : TriedRules
  pub every_masks : EveryMasks

pub foundations : Foundations
foundations = record {
  traces = traces_are_runs;
  trace_examples = trace_examples;
  beginnings = beginnings;
  outcomes = outcome_chart;
  sets = verdict_sets;
  theorems = theorems;
  reorders = reorders;
  greedy = greedy_plainest;
  rule_laws = laws;
  tried_rules = tried_rules;
  every_masks = every_masks;
}

-- There is this proof of them.
pub data Held (proof : Foundations) : Type 0 where
  held : Held proof
