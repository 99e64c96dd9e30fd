-- What judging makes of an accepted plan's four bodies, before the lent areas are put in order: only the contracts of private functions
-- cite these.
use Rattle.std.specs.Prelude.{◌≡◌, not, List, ℕ, length, drop, replicate}
use Rattle.meaning.specs.Value.{satisfies}
use Rattle.sets.specs.PlanSets.{sets_of}
use Rattle.plainest.specs.Shown.{LeftBy, plainest_bytes}
use Rattle.judge.specs.Verdict.{smallest, answer_of, work_size, record_size}
use Rattle.judge.specs.declared.Judgement.{Judgement}
use Rattle.judge.specs.declared.Judgement.TheVariants.{Consistent, Violated}

-- The bytes of the plainest run that leaves the set, which some run does.
pub record Leads (types b : List ℕ) (set : ℕ) (bytes : List ℕ) : Type 0 where
  pub left : LeftBy types b set
  pub shown : bytes ≡ plainest_bytes types b set

-- The run beside an answer: none, and so zeros, where it is consistent.
abbrev pub RunFor : List ℕ → List ℕ → Judgement → List ℕ → Type 0
RunFor types b Consistent bytes = bytes ≡ replicate record_size 0
RunFor types b (Violated set) bytes = Leads types b set bytes

pub record JudgedPlan (types pairs b rule old new : List ℕ) (v : Judgement) (run : List ℕ) : Type 0 where
  pub answer : v ≡ answer_of (smallest (λ t. not (satisfies rule pairs t)) (sets_of types b))
  pub beside : RunFor types b v run
  pub long : length new ≡ length old
  pub kept : drop work_size new ≡ drop work_size old
