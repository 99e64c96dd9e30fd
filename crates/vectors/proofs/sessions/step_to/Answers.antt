-- `vectors::sessions::step_to` meets its contract: comparing two jobs tells the same ones, and the answer is held with the number in the place of a refusal.
use mathlib.Core.Path.{sym, ◌∙◌}
use Rattle.fields.proofs.TellsJobs.{derived_same}
use Rattle.vectors.specs.Runs.{agrees_at}
use Rattle.vectors.proofs.sessions.step_to.Goals as goal
use Rattle.vectors.proofs.sessions.step_to.Goals.{else-is_answer-via-then-is_answer+else-eq, else-is_answer-via-else-is_answer}

pub returns-then-eq : goal.returns-then-eq
unfolding agrees_at
returns-then-eq c =
    let same = derived_same c.left_by.result c.args.taken.job c.eq.result c.eq.ensures in
    simp (sym c.numbered.ensures, sym c.is_answer.ensures ∙ c.if-is_answer.true, sym c.left_by.ensures, sym same ∙ c.if-eq.true)

pub returns-else-is_answer : goal.returns-else-is_answer
unfolding agrees_at
returns-else-is_answer c =
    elim c.else-is_answer.branch [
      | else-is_answer-via-then-is_answer+else-eq w ↦
          let same = derived_same w.left_by.result c.args.taken.job w.eq.result w.eq.ensures in
          simp (sym c.numbered.ensures, sym c.is_answer.ensures ∙ w.if-is_answer.true, sym w.left_by.ensures, sym same ∙ w.if-eq.false)
      | else-is_answer-via-else-is_answer w ↦ simp (sym c.numbered.ensures, sym c.is_answer.ensures ∙ w.if-is_answer.false)
    ]
