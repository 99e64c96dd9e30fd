-- Document 01's number of a refusal stands for one refusal: they can be read back from it.
use mathlib.Core.Path.{◌≡◌, refl, sym, ap, ◌∙◌}
use mathlib.Core.Bool.{cond}
use Prim.Native.Nat.{ℕ, ◌<◌}
use native.Mathlib.Omega.{arith}
use lib.Dec.{eqb}
use Rattle.nodes.specs.declared.Fault.TheVariants as nodes
use Rattle.plan.specs.Fault as plan
use Rattle.plan.specs.declared.Fault.{Fault}
use Rattle.plan.specs.declared.Fault.TheVariants.{Cut, Kind, Length, Types, Pairs, Nodes, Rule}
use Rattle.judge.specs.Verdict.{number}
use Rattle.judge.specs.declared.Refusal.{Refusal}
use Rattle.judge.specs.declared.Refusal.TheVariants.{WorkArea, RecordArea, Plan}

abbrev refusal_of : ℕ → Refusal
refusal_of n =
    cond (eqb n 10) WorkArea
    (cond (eqb n 12) RecordArea
    (Plan
    (cond (eqb n 1) Cut
    (cond (eqb n 2) Kind
    (cond (eqb n 3) Length
    (cond (eqb n 4) Types
    (cond (eqb n 5) Pairs
    (cond (eqb n 6) (Nodes nodes.Form)
    (cond (eqb n 7) (Nodes nodes.Named)
    (cond (eqb n 8) (Nodes nodes.Nested) Rule))))))))))

read_back : (r : Refusal) → refusal_of (number r) ≡ r
read_back WorkArea = refl
read_back RecordArea = refl
read_back (Plan Cut) = refl
read_back (Plan Kind) = refl
read_back (Plan Length) = refl
read_back (Plan Types) = refl
read_back (Plan Pairs) = refl
read_back (Plan (Nodes nodes.Form)) = refl
read_back (Plan (Nodes nodes.Named)) = refl
read_back (Plan (Nodes nodes.Nested)) = refl
read_back (Plan Rule) = refl

pub one_refusal : (r s : Refusal) → number r ≡ number s → r ≡ s
one_refusal r s e = sym (read_back r) ∙ ap refusal_of e ∙ read_back s

-- and it fits a byte
fault_small : (f : Fault) → plan.number f < 10
fault_small Cut = omega arith
fault_small Kind = omega arith
fault_small Length = omega arith
fault_small Types = omega arith
fault_small Pairs = omega arith
fault_small (Nodes nodes.Form) = omega arith
fault_small (Nodes nodes.Named) = omega arith
fault_small (Nodes nodes.Nested) = omega arith
fault_small Rule = omega arith

pub number_small : (r : Refusal) → number r < 13
number_small WorkArea = omega arith
number_small RecordArea = omega arith
number_small (Plan f) = omega (arith, fault_small f)
