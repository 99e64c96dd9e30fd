-- The statement of specs/VerdictSets.antt, put together from its parts: on a plan that the chart is for, both have the sets that its complete runs leave.
use native.Mathlib.Omega.{arith}
use Rattle.outcomes.specs.Sets.{Sets, Lawful, numbers}
use Rattle.outcomes.specs.VerdictSets.{ExactSets, VerdictSets}
use Rattle.outcomes.proofs.Cells.{document_cell}
use Rattle.outcomes.proofs.AnyLevels.{exact_at}
use Rattle.outcomes.proofs.Families.{plan_exact}
use Rattle.outcomes.proofs.ThreeLevels.{sets_exact, in_plan_sets, out_plan_sets}
use Rattle.outcomes.proofs.ActionSets.{numbers_lawful}

exact : (S : Sets) → Lawful S → ExactSets S
exact S laws =
    record {
      any_levels_lem = λ n P s X h. exact_at n S laws P s X h;
      three_levels_lem = sets_exact S laws;
      listed = λ P X. (out_plan_sets S P, λ (s, m). in_plan_sets S P s m);
      same_as_chart = λ P s X h. (
        λ m. (plan_exact S laws P s X h).1 ((sets_exact S laws P s X (omega arith)).0 m),
        λ m. (sets_exact S laws P s X (omega arith)).1 ((plan_exact S laws P s X h).0 m),
      );
    }

pub verdict_sets : VerdictSets
verdict_sets = record { any_sets = exact; action_sets_lem = λ single. exact (numbers single) (numbers_lawful single); document_cells = document_cell }
