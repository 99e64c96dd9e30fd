-- `family::pattern` meets its contract: each pattern is right.
use native.Mathlib.Omega.{arith}
use Rattle.family.proofs.Patterns.{patterned, no_pattern}
use Rattle.family.proofs.pattern.Goals as goal

pub returns-in-0 : goal.returns-in-0
returns-in-0 c = rw c.in-0.is (patterned _ 0 tt)

pub returns-in-1 : goal.returns-in-1
returns-in-1 c = rw c.in-1.is (patterned _ 1 tt)

pub returns-in-2 : goal.returns-in-2
returns-in-2 c = rw c.in-2.is (patterned _ 2 tt)

pub returns-in-3 : goal.returns-in-3
returns-in-3 c = rw c.in-3.is (patterned _ 3 tt)

pub returns-in-4 : goal.returns-in-4
returns-in-4 c = rw c.in-4.is (patterned _ 4 tt)

pub returns-in-5 : goal.returns-in-5
returns-in-5 c = rw c.in-5.is (patterned _ 5 tt)

pub returns-in_default : goal.returns-in_default
returns-in_default c = no_pattern _ (omega arith)
