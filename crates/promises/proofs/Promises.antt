-- The promises, from the crates that prove them.
use Rattle.text.proofs.Decimals.{spells}
use Rattle.hours.proofs.ReadsWindows.{reads_windows}
use Rattle.hours.proofs.KeepsWindows.{keeps_windows}
use Rattle.hours.proofs.Kept.{keeps_records}
use Rattle.plan.proofs.PlanTraces.{plan_traces}
use Rattle.plan.proofs.Demand1.{demand1}
use Rattle.job.proofs.Demand2.{demand2}
use Rattle.job.proofs.PromisedEnd.{promised_end}
use Rattle.job.proofs.TimedRunner.{timed_runner}
use Rattle.judge.proofs.Demand3.{demand3}
use Rattle.judge.proofs.Some.{some_answer}
use Rattle.judge.proofs.Codes.{codes_apart}
use Rattle.class.proofs.Promises.{class_promises}
use Rattle.class.proofs.Tried.{tried_classes}
use Rattle.grammar.proofs.TypedRules.{typed_rules}
use Rattle.grammar.proofs.Senses.{keeps_sense}
use Rattle.grammar.proofs.Examples.{examples}
use Rattle.formula.proofs.Answers.{answers}
use Rattle.reply.proofs.Replies.{reads_enough, takes_texts}
use Rattle.reply.proofs.Tried.{tried_inputs}
use Rattle.session.proofs.Entries.{reads_entries}
use Rattle.session.proofs.Answers.{answers_entries}
use Rattle.session.proofs.Hearing.{answers_lines}
use Rattle.report.proofs.Once.{one_text, one_named_text}
use Rattle.sheet.proofs.Tells.{class_tells}
use Rattle.handed.proofs.HandIn.{hands_in}
use Rattle.sheet.proofs.Examples as of_sheet
use Rattle.fields.proofs.TellsJobs.{tells_jobs}
use Rattle.vectors.proofs.AgreesAlone.{agrees_alone}
use Rattle.tried.proofs.TriedPlans.{tried_plans_lem, nested_plans_lem}
use Rattle.promises.specs.Runner.{Demand2}
use Rattle.promises.specs.Verdict.{Demand3}
use Rattle.promises.specs.Promises.{Promises}
use Rattle.promises.proofs.Areas.{leaves}
use Rattle.promises.proofs.Refused.{demand_1}
use Rattle.promises.proofs.TypedPlans.{typed_plans}

pub demand_2 : Demand2
demand_2 = record { starts = demand2.starts; honest = demand2.honest; lists = demand2.lists; carries = demand2.carries; no_prefix = demand2.no_prefix }

pub demand_3 : Demand3
demand_3 = record {
  rule = λ s l h. (demand1.holds s l h).rule_holds.holds;
  says = demand3.says;
  leaves = leaves;
  only_shown = demand3.only_shown;
  one_answer = demand3.one_answer;
}

pub promises : Promises
promises = record {
  refused = demand_1;
  runner = demand_2;
  verdict = demand_3;
  an_end = promised_end;
  windows = reads_windows;
  minutes = keeps_windows;
  records = keeps_records;
  timed = timed_runner;
  typed = typed_rules;
  typed_examples = examples;
  typed_sense = keeps_sense;
  typed_answers = answers;
  typed_plans = typed_plans;
  class = class_promises;
  classes = tried_classes;
  traces = plan_traces;
  decimals = spells;
  texts = takes_texts;
  enough = reads_enough;
  inputs = tried_inputs;
  entries = reads_entries;
  entries_answered = answers_entries;
  lines_answered = answers_lines;
  one_text = one_text;
  one_named_text = one_named_text;
  class_told = class_tells;
  handed_in = hands_in;
  sheet = of_sheet.examples;
  jobs = tells_jobs;
  vectors = agrees_alone;
  reader_itself = demand1;
  runner_itself = demand2;
  verdict_itself = demand3;
  some_answer = some_answer;
  codes = codes_apart;
  tried = tried_plans_lem;
  nested = nested_plans_lem;
}
