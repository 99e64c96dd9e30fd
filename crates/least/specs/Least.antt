-- The smallest of a plan's sets that breaks its rule, "read as a number", from the families of its whole process.
use Rattle.std.specs.Prelude.{◌≡◌, Bool, true, false, not, ◌&&◌, Option, Some, None, List, ℕ, ◌%◌, ◌≤◌, eqb}
use Rattle.family.specs.Family.{bit_at, In}
use Rattle.process.specs.Process.{Status}
use Rattle.outcomes.specs.ThreeLevels.{Final3}
use Rattle.meaning.specs.Value.{satisfies}
use Rattle.summary.specs.declared.Summary.{Summary}
use Rattle.summary.specs.Summary.{family_of}

-- The set t stands under a code of a complete run.
pub record FinalSet (s : Summary) (t : ℕ) : Type 0 where
  pub code : ℕ
  pub status : Status
  pub final : Final3 code status
  pub has : In (family_of s code) t

-- The family r has just these.
pub record Finals (s : Summary) (r : List ℕ) : Type 0 where
  pub sound : (t : ℕ) → In r t → FinalSet s t
  pub complete : (t : ℕ) → FinalSet s t → In r t

-- "otherwise it breaks the rule"
abbrev pub Breaks : List ℕ → List ℕ → ℕ → Type 0
Breaks rule pairs t = satisfies rule pairs t ≡ false

-- The set has its bit in a word of the family, and breaks the rule.
abbrev pub violates : List ℕ → List ℕ → ℕ → ℕ → Bool
violates rule pairs word set = eqb (bit_at word (set % 64)) 1 && not (satisfies rule pairs set)

-- t is the smallest set of the family that breaks the rule.
pub record Smallest (rule pairs f : List ℕ) (t : ℕ) : Type 0 where
  pub has : In f t
  pub breaks : Breaks rule pairs t
  pub least : (u : ℕ) → In f u → Breaks rule pairs u → t ≤ u

-- What is answered: that set, or that every set of the family satisfies the rule.
abbrev pub LeastOf : List ℕ → List ℕ → List ℕ → Option ℕ → Type 0
LeastOf rule pairs f (Some t) = Smallest rule pairs f t
LeastOf rule pairs f None = (u : ℕ) → In f u → satisfies rule pairs u ≡ true
