-- `Job::take_at` meets its contract: what is refused hands the job back unchanged, and a minute has 32 bits.
use mathlib.Core.Path.{refl, sym, ◌∙◌}
use borrow.Author.Rules.{rules}
use Rattle.job.proofs.Refused.{timed_refused}
use Rattle.job.proofs.Job.take_at.Goals as goal

pub returns-in-Ok-clause-brings : goal.returns-in-Ok-clause-brings
returns-in-Ok-clause-brings c = record { brought = record { entry = c.args.e; minute = c.args.minute; fits = search rules }; the_entry = refl; the_minute = refl }

pub returns-in-Err-clause-value : goal.returns-in-Err-clause-value
returns-in-Err-clause-value c =
    let a = c.args in
    c.refused.ensures ∙ sym (timed_refused a.self a.e a.minute c.in-Err.why (sym c.answer_at.ensures ∙ c.in-Err.is))

pub returns-in-Err-clause-brings : goal.returns-in-Err-clause-brings
returns-in-Err-clause-brings c = record { brought = record { entry = c.args.e; minute = c.args.minute; fits = search rules }; the_entry = refl; the_minute = refl }
