-- The outcome chart is exact: the statement of specs/OutcomeChart.antt, put together from its parts.
use Rattle.outcomes.specs.Sets.{Sets, Lawful, numbers}
use Rattle.outcomes.specs.OutcomeChart.{Exact, OutcomeChart}
use Rattle.outcomes.proofs.Exact.{sound, complete}
use Rattle.outcomes.proofs.Families.{plan_exact}
use Rattle.outcomes.proofs.ActionSets.{numbers_lawful}

exact : (S : Sets) → Lawful S → Exact S
exact S laws =
    record {
      sound = λ P c s X e i. sound S laws e i;
      complete = λ P r s d. complete S laws d;
      families = plan_exact S laws;
    }

pub outcome_chart : OutcomeChart
outcome_chart = record { any_sets = exact; action_sets_lem = λ single. exact (numbers single) (numbers_lawful single) }
