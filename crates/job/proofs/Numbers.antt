-- Document 01's and 02's number of a refusal stands for one refusal, which can be read back from it: so an answer with the number in the place of the
-- refusal tells all that the answer does.
use mathlib.Core.Path.{◌≡◌, refl, sym, ap, ◌∙◌}
use mathlib.Core.Bool.{cond}
use Prim.Native.Nat.{ℕ}
use lib.Dec.{eqb}
use Rattle.std.specs.Prelude.{Result, Ok, Err}
use Rattle.nodes.specs.declared.Fault.TheVariants as nodes
use Rattle.plan.specs.declared.Fault.TheVariants.{Cut, Kind, Length, Types, Pairs, Nodes, Rule}
use Rattle.hours.specs.declared.Fault.TheVariants as hours
use Rattle.job.specs.Job.{Answer}
use Rattle.job.specs.Numbers.{number, numbered}
use Rattle.job.specs.declared.Told.{Told}
use Rattle.job.specs.declared.Refusal.{Refusal}
use Rattle.job.specs.declared.Refusal.TheVariants.{Plan, Entry, Hours}

abbrev refusal_of : ℕ → Refusal
refusal_of n =
    cond (eqb n 11) Entry
    (cond (eqb n 21) (Hours hours.Early)
    (cond (eqb n 22) (Hours hours.Outside)
    (cond (eqb n 23) (Hours hours.Windows)
    (Plan
    (cond (eqb n 1) Cut
    (cond (eqb n 2) Kind
    (cond (eqb n 3) Length
    (cond (eqb n 4) Types
    (cond (eqb n 5) Pairs
    (cond (eqb n 6) (Nodes nodes.Form)
    (cond (eqb n 7) (Nodes nodes.Named)
    (cond (eqb n 8) (Nodes nodes.Nested) Rule))))))))))))

refusal_back : (r : Refusal) → refusal_of (number r) ≡ r
refusal_back (Plan Cut) = refl
refusal_back (Plan Kind) = refl
refusal_back (Plan Length) = refl
refusal_back (Plan Types) = refl
refusal_back (Plan Pairs) = refl
refusal_back (Plan (Nodes nodes.Form)) = refl
refusal_back (Plan (Nodes nodes.Named)) = refl
refusal_back (Plan (Nodes nodes.Nested)) = refl
refusal_back (Plan Rule) = refl
refusal_back Entry = refl
refusal_back (Hours hours.Early) = refl
refusal_back (Hours hours.Outside) = refl
refusal_back (Hours hours.Windows) = refl

abbrev answer_of : Result Told ℕ → Answer
answer_of (Ok t) = Ok t
answer_of (Err n) = Err (refusal_of n)

answer_back : (a : Answer) → answer_of (numbered a) ≡ a
answer_back (Ok t) = refl
answer_back (Err r) = ap (λ (q : Refusal). Err q) (refusal_back r)

-- no two answers have one numbered form
pub one_answer : (a b : Answer) → numbered a ≡ numbered b → a ≡ b
one_answer a b e = sym (answer_back a) ∙ ap answer_of e ∙ answer_back b
