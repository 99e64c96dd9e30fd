-- The verdict on a plan file, for every list of bytes and any lengths of the two lent areas: the definition that the contract of `verdict`
-- equates its answer with. Demand 3 says what it means for the runs of the plan.
use Rattle.std.specs.Prelude.{Bool, true, false, not, cond, List, [], ◌∷◌, ℕ, ◌+◌, ◌%◌, ltb, Option, Some, None, Result, Ok, Err}
use Rattle.std.proofs.Math.Option as option
use Rattle.plan.specs.Reading.{bytes_of, read_of}
use Rattle.plan.specs.Fault as reading
use Rattle.plan.specs.declared.Layout.{Layout}
use Rattle.plan.specs.declared.Fault.{Fault}
use Rattle.meaning.specs.Value.{satisfies}
use Rattle.sets.specs.PlanSets.{sets_of}
use Rattle.judge.specs.declared.Judgement.{Judgement}
use Rattle.judge.specs.declared.Judgement.TheVariants.{Consistent, Violated}
use Rattle.judge.specs.declared.Refusal.{Refusal}
use Rattle.judge.specs.declared.Refusal.TheVariants.{WorkArea, RecordArea, Plan}

-- The smaller of t and what was found among the others.
abbrev pub or_smaller : ℕ → Option ℕ → Option ℕ
or_smaller t None = Some t
or_smaller t (Some u) = cond (ltb u t) (Some u) (Some t)

-- The smallest number of the list of which p holds.
unfoldable pub smallest : (ℕ → Bool) → List ℕ → Option ℕ
smallest p [] = None
smallest p (t ∷ ts) = cond (p t) (or_smaller t (smallest p ts)) (smallest p ts)

abbrev pub answer_of : Option ℕ → Judgement
answer_of None = Consistent
answer_of (Some t) = Violated t

-- What is answered: a judgement, or why there is none.
abbrev pub Answer : Type 0
Answer = Result Judgement Refusal

-- "A set satisfies the rule where the positive value of the one part that remains is true for it; otherwise it breaks the rule".
abbrev pub keeps_rule : List ℕ → Layout → ℕ → Bool
keeps_rule s l t = satisfies (bytes_of s l.rule) (bytes_of s l.pairs) t

-- The sets of an accepted plan file: those under the codes of complete runs.
abbrev pub plan_sets_of : List ℕ → Layout → List ℕ
plan_sets_of s l = sets_of (bytes_of s l.types) (bytes_of s l.nodes)

-- Consistent, or the smallest set of the plan that breaks its rule.
abbrev pub verdict_on : List ℕ → Result Layout Fault → Answer
verdict_on s (Ok l) = Ok (answer_of (smallest (λ t. not (keeps_rule s l t)) (plan_sets_of s l)))
verdict_on s (Err f) = Err (Plan f)

abbrev pub work_size : ℕ
work_size = 65536

abbrev pub record_size : ℕ
record_size = 126

-- "A verdict checks 10, 12, then the file."
abbrev pub verdict_of : List ℕ → ℕ → ℕ → Answer
verdict_of s work records = cond (ltb work work_size) (Err WorkArea) (cond (ltb records record_size) (Err RecordArea) (verdict_on s (read_of s)))

-- Document 01's number for why there is no judgement;
abbrev pub number : Refusal → ℕ
number WorkArea = 10
number RecordArea = 12
number (Plan f) = reading.number f

-- its number and values for each answer: the number of a refusal, and of the others none;
abbrev pub number_of : Answer → option.Option ℕ
number_of (Ok j) = option.none
number_of (Err r) = option.some (number r)

-- the answer with that number in the place of the refusal;
abbrev pub told : Answer → Result Judgement ℕ
told (Ok j) = Ok j
told (Err r) = Err (number r)

-- whether it is "consistent";
abbrev pub says_consistent : Answer → Bool
says_consistent (Ok Consistent) = true
says_consistent (Ok (Violated t)) = false
says_consistent (Err r) = false

-- and "the set number given", where one is.
abbrev pub set_given : Answer → ℕ
set_given (Ok Consistent) = 0
set_given (Ok (Violated t)) = t
set_given (Err r) = 0

-- One number for each answer, for callers that have no enum: 0 consistent, 65,536 and the set, twice 65,536 and the refusal's number. A set
-- is below 1,024; the remainder makes the definition total. It is said of any number in the place of a refusal's,
abbrev pub code_told : Result Judgement ℕ → ℕ
code_told (Ok Consistent) = 0
code_told (Ok (Violated t)) = 65536 + t % 65536
code_told (Err n) = 131072 + n

-- and so of an answer, whose refusal has its own.
abbrev pub code_of : Answer → ℕ
code_of a = code_told (told a)
