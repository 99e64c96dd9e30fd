-- The second table of tried plans, of request N14: plans with a compensation in an undo side. Letters are actions in order of appearance; there are no pairs, and the rule is
-- action 0.
use mathlib.Core.List.{List, [], ◌∷◌, Memᴰ}
use Rattle.std.specs.Prelude.{◌≡◌, length, Ok}
use Rattle.text.specs.Text.{ascii}
use Rattle.judge.specs.declared.Judgement.TheVariants.{Consistent}
use Rattle.tried.specs.TriedPlans.{TriedPlan, Holds}

-- Q1: (A undo (U undo R)), throw; all always: R never runs
abbrev pub q1 : TriedPlan
q1 = record {
  file = 3 ∷ 0 ∷ 1 ∷ 0 ∷ 1 ∷ 1 ∷ 1 ∷ 0 ∷ 0 ∷ 2 ∷ 0 ∷ 21 ∷ 0 ∷ 3 ∷ 0 ∷ 0 ∷ 0 ∷ 0 ∷ 0 ∷ 1 ∷ 0 ∷ 0 ∷ 2 ∷ 0 ∷ 6 ∷ 1 ∷ 2 ∷ 6 ∷ 0 ∷ 3 ∷ 2 ∷ 0 ∷ 0 ∷ 3 ∷ 4 ∷ 5 ∷ 1 ∷ 0 ∷ 4 ∷ 0 ∷ 0 ∷ [];
  sets = 3 ∷ [];
  verdict = Ok Consistent;
  lines = ascii "consistent\n";
}

-- Q2: (A undo ((U undo R), V)), throw; V may do either, the rest always
abbrev pub q2 : TriedPlan
q2 = record {
  file = 4 ∷ 0 ∷ 1 ∷ 0 ∷ 1 ∷ 1 ∷ 1 ∷ 3 ∷ 0 ∷ 0 ∷ 2 ∷ 0 ∷ 27 ∷ 0 ∷ 3 ∷ 0 ∷ 0 ∷ 0 ∷ 0 ∷ 0 ∷ 1 ∷ 0 ∷ 0 ∷ 2 ∷ 0 ∷ 6 ∷ 1 ∷ 2 ∷ 0 ∷ 3 ∷ 0 ∷ 3 ∷ 3 ∷ 4 ∷ 6 ∷ 0 ∷ 5 ∷ 2 ∷ 0 ∷ 0 ∷ 3 ∷ 6 ∷ 7 ∷ 1 ∷ 0 ∷ 4 ∷ 0 ∷ 0 ∷ [];
  sets = 7 ∷ 11 ∷ [];
  verdict = Ok Consistent;
  lines = ascii "consistent\n";
}

-- Q3: handler with left ((A undo ((U undo R), V)), throw) and right H; V always fails, the rest always
abbrev pub q3 : TriedPlan
q3 = record {
  file = 5 ∷ 0 ∷ 1 ∷ 0 ∷ 1 ∷ 1 ∷ 1 ∷ 2 ∷ 1 ∷ 0 ∷ 0 ∷ 2 ∷ 0 ∷ 33 ∷ 0 ∷ 3 ∷ 0 ∷ 0 ∷ 0 ∷ 0 ∷ 0 ∷ 1 ∷ 0 ∷ 0 ∷ 2 ∷ 0 ∷ 6 ∷ 1 ∷ 2 ∷ 0 ∷ 3 ∷ 0 ∷ 3 ∷ 3 ∷ 4 ∷ 6 ∷ 0 ∷ 5 ∷ 2 ∷ 0 ∷ 0 ∷ 3 ∷ 6 ∷ 7 ∷ 0 ∷ 4 ∷ 0 ∷ 7 ∷ 8 ∷ 9 ∷ 1 ∷ 0 ∷ 4 ∷ 0 ∷ 0 ∷ [];
  sets = 23 ∷ [];
  verdict = Ok Consistent;
  lines = ascii "consistent\n";
}

-- Q4: ((A undo (U undo R)) parallel (B undo W)), throw; W may do either, the rest always
abbrev pub q4 : TriedPlan
q4 = record {
  file = 5 ∷ 0 ∷ 1 ∷ 0 ∷ 1 ∷ 1 ∷ 1 ∷ 1 ∷ 3 ∷ 0 ∷ 0 ∷ 2 ∷ 0 ∷ 33 ∷ 0 ∷ 3 ∷ 0 ∷ 0 ∷ 0 ∷ 0 ∷ 0 ∷ 1 ∷ 0 ∷ 0 ∷ 2 ∷ 0 ∷ 6 ∷ 1 ∷ 2 ∷ 6 ∷ 0 ∷ 3 ∷ 0 ∷ 3 ∷ 0 ∷ 0 ∷ 4 ∷ 0 ∷ 6 ∷ 5 ∷ 6 ∷ 4 ∷ 4 ∷ 7 ∷ 2 ∷ 0 ∷ 0 ∷ 3 ∷ 8 ∷ 9 ∷ 1 ∷ 0 ∷ 4 ∷ 0 ∷ 0 ∷ [];
  sets = 15 ∷ 27 ∷ [];
  verdict = Ok Consistent;
  lines = ascii "consistent\n";
}

-- Q5: (A undo U), (B undo (V undo R)), throw; U always fails, the rest always
abbrev pub q5 : TriedPlan
q5 = record {
  file = 5 ∷ 0 ∷ 1 ∷ 0 ∷ 1 ∷ 2 ∷ 1 ∷ 1 ∷ 1 ∷ 0 ∷ 0 ∷ 2 ∷ 0 ∷ 33 ∷ 0 ∷ 3 ∷ 0 ∷ 0 ∷ 0 ∷ 0 ∷ 0 ∷ 1 ∷ 0 ∷ 6 ∷ 0 ∷ 1 ∷ 0 ∷ 2 ∷ 0 ∷ 0 ∷ 3 ∷ 0 ∷ 0 ∷ 4 ∷ 0 ∷ 6 ∷ 4 ∷ 5 ∷ 6 ∷ 3 ∷ 6 ∷ 3 ∷ 2 ∷ 7 ∷ 2 ∷ 0 ∷ 0 ∷ 3 ∷ 8 ∷ 9 ∷ 1 ∷ 0 ∷ 4 ∷ 0 ∷ 0 ∷ [];
  sets = 29 ∷ [];
  verdict = Ok Consistent;
  lines = ascii "consistent\n";
}

abbrev pub nested_plans : List TriedPlan
nested_plans = q1 ∷ q2 ∷ q3 ∷ q4 ∷ q5 ∷ []

-- Each row of the table holds, it has five, and each of these does; the proof is `nested_plans_lem`.
pub record NestedPlans : Type 0 where
  pub rows : (p : TriedPlan) → Memᴰ p nested_plans → Holds p
  pub nested : length nested_plans ≡ 5
  pub five : Holds q1 × Holds q2 × Holds q3 × Holds q4 × Holds q5
