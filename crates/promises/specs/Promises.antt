-- Everything that is promised, under one roof: the contract of `promised` asks for it. The three demands, of which the promise of an end speaks too, are of
-- untimed jobs. `promises` in proofs/ proves it, from what the crates below prove of themselves.
use Rattle.text.specs.Decimal.{Spells}
use Rattle.hours.specs.Windows.{ReadsWindows}
use Rattle.hours.specs.Hours.{KeepsWindows}
use Rattle.hours.specs.Kept.{KeepsRecords}
use Rattle.plan.specs.Demand1 as of_plan
use Rattle.plan.specs.Traces.{PlanTraces}
use Rattle.job.specs.Demand2 as of_job
use Rattle.job.specs.PromisedEnd.{PromisedEnd}
use Rattle.job.specs.TimedRunner.{TimedRunner}
use Rattle.judge.specs.Demand3 as of_judge
use Rattle.judge.specs.Codes.{CodesApart}
use Rattle.judge.specs.Record.{SomeAnswer}
use Rattle.class.specs.Promises.{ClassPromises}
use Rattle.class.specs.Tried.{TriedClasses}
use Rattle.grammar.specs.Typed.{TypedRules}
use Rattle.grammar.specs.Examples.{Examples}
use Rattle.grammar.specs.Sense.{KeepsSense}
use Rattle.formula.specs.Answer.{Answers}
use Rattle.reply.specs.Reply.{TakesTexts, ReadsEnough}
use Rattle.reply.specs.Tried.{TriedInputs}
use Rattle.session.specs.Entries.{ReadsEntries}
use Rattle.session.specs.Answers.{AnswersEntries}
use Rattle.session.specs.Session.{AnswersLines}
use Rattle.report.specs.Tells.{OneText, OneNamedText}
use Rattle.sheet.specs.Tells.{ClassTells}
use Rattle.handed.specs.HandIn.{HandsIn}
use Rattle.sheet.specs.Examples as of_sheet
use Rattle.fields.specs.Jobs.{TellsJobs}
use Rattle.vectors.specs.Agrees.{AgreesAlone}
use Rattle.tried.specs.TriedPlans.{TriedPlans}
use Rattle.tried.specs.NestedPlans.{NestedPlans}
use Rattle.promises.specs.Refused.{Demand1}
use Rattle.promises.specs.Runner.{Demand2}
use Rattle.promises.specs.Verdict.{Demand3}
use Rattle.promises.specs.TypedPlans.{TypedPlans}

pub record Promises : Type 0 where
  -- the three demands
  pub refused : Demand1
  pub runner : Demand2
  pub verdict : Demand3
  -- the promise of an end (N2)
  pub an_end : PromisedEnd
  -- window files and timed jobs (N9)
  pub windows : ReadsWindows
  pub minutes : KeepsWindows
  pub records : KeepsRecords
  pub timed : TimedRunner
  -- typed rules (N1)
  pub typed : TypedRules
  pub typed_examples : Examples
  pub typed_sense : KeepsSense
  pub typed_answers : Answers
  pub typed_plans : TypedPlans
  -- a class handed in together (N8)
  pub class : ClassPromises
  pub classes : TriedClasses
  -- the runs of a plan are the report's traces
  pub traces : PlanTraces
  -- what the programs say
  pub decimals : Spells
  pub texts : TakesTexts
  pub enough : ReadsEnough
  pub inputs : TriedInputs
  pub entries : ReadsEntries
  pub entries_answered : AnswersEntries
  pub lines_answered : AnswersLines
  pub one_text : OneText
  pub one_named_text : OneNamedText
  pub class_told : ClassTells
  pub handed_in : HandsIn
  pub sheet : of_sheet.Examples
  pub jobs : TellsJobs
  pub vectors : AgreesAlone
  -- the reader, the runner and the verdict, each of itself
  pub reader_itself : of_plan.Demand1
  pub runner_itself : of_job.Demand2
  pub verdict_itself : of_judge.Demand3
  pub some_answer : SomeAnswer
  pub codes : CodesApart
  -- the tried plans
  pub tried : TriedPlans
  pub nested : NestedPlans
